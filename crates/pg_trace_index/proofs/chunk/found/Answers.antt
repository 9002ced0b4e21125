use Rattle.std.proofs.Common.{◌≡◌, ◌<◌, ◌-◌, refl, sym, ap, ◌∙◌, subst, arith, length}
use Rattle.pg_map.specs.Entries.{HasRisingIds, value_at}
use Rattle.pg_map.proofs.Search.{lookup_missing}
use Rattle.pg_trace_index.specs.Chunks.{listed}
use Rattle.pg_trace_index.proofs.InChunks.{found_there, here, none_begun}
use Rattle.pg_trace_index.proofs.chunk.found.Goals as goal

pub returns-then-begun-eq0-clause-none : goal.returns-then-begun-eq0-clause-none
returns-then-begun-eq0-clause-none g c =
    none_begun c.args.id c.args.chunks.now c.requires c.begun-begun.result c.begun-begun.ensures.parts c.if-begun-eq0.true

pub place_of-requires : goal.place_of-requires
place_of-requires g c =
    let n = c.begun-begun.result in
    let some : 0 < length c.args.chunks.now = omega (arith, c.if-begun-eq0.false, c.begun-begun.ensures.bound) in
    let at = here c.args.id c.args.chunks.now c.requires n c.begun-begun.ensures.parts (n - 1) c.index-chunks-begun.result refl c.begun-begun.ensures.bound
    some c.index-chunks-begun.is in
    subst HasRisingIds (sym c.as_slice-entries.ensures.value) at.rises

pub returns-in-Err-clause-none : goal.returns-in-Err-clause-none
returns-in-Err-clause-none g c =
    let id = c.args.id in
    let n = c.begun-begun.result in
    let chunk = c.index-chunks-begun.result in
    let some : 0 < length c.args.chunks.now = omega (arith, c.if-begun-eq0.false, c.begun-begun.ensures.bound) in
    let at = here id c.args.chunks.now c.requires n c.begun-begun.ensures.parts (n - 1) chunk refl c.begun-begun.ensures.bound some c.index-chunks-begun.is in
    let seen : c.as_slice-entries.result.now ≡ listed chunk = c.as_slice-entries.ensures.value in
    found_there id c.args.chunks.now (n - 1) chunk at ∙ ap (value_at id) (sym seen)
    ∙ lookup_missing c.as_slice-entries.result.now id c.in-Err.field-0 (subst HasRisingIds (sym seen) at.rises) c.in-Err.ensures.missing
