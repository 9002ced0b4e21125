use Rattle.std.proofs.Common.{◌+◌, ◌-◌, ◌<◌, ◌≡◌, length, refl, arith, sym, ap, ◌∙◌, subst}
use Rattle.pg_map.specs.Chunks.{entries_of, listed}
use Rattle.pg_map.specs.Entries.{HasRisingIds, IsSlice, value_at}
use Rattle.pg_map.proofs.InParts.{get_before, get_in, rises_part}
use Rattle.pg_map.proofs.Slice.{none_slice, part_slice}
use Rattle.pg_map.proofs.find.entries_of_last.Goals as goal

pub returns-then-count-eq0-clause-values : goal.returns-then-count-eq0-clause-values
returns-then-count-eq0-clause-values g c = λ id parts.
    sym (get_before listed id c.args.chunks.now c.args.count c.requires.chunks c.requires.rise parts c.if-count-eq0.true)

pub returns-then-count-eq0-clause-slice : goal.returns-then-count-eq0-clause-slice
returns-then-count-eq0-clause-slice g c = none_slice _ (entries_of c.args.chunks.now) refl

pub returns-clause-values : goal.returns-clause-values
returns-clause-values g c = λ id parts.
    let last : c.args.count - 1 + 1 ≡ c.args.count = omega (arith, c.if-count-eq0.false) in
    let is = c.as_slice.ensures.value ∙ ap (λ v. v.items) c.deref.ensures ∙ sym (ap listed c.index-chunks-count.is) in
    ap (value_at id) is
    ∙ sym (get_in listed id c.args.chunks.now c.args.count c.requires.chunks c.requires.rise parts (c.args.count - 1) last c.requires.bound
    c.index-chunks-count.result c.index-chunks-count.is)

pub returns-clause-slice : goal.returns-clause-slice
returns-clause-slice g c =
    let chunks = c.args.chunks.now in
    let chunk = c.index-chunks-count.result in
    let within : c.args.count - 1 < length chunks = omega (arith, c.if-count-eq0.false, c.requires.bound) in
    let is = c.as_slice.ensures.value ∙ ap (λ v. v.items) c.deref.ensures ∙ sym (ap listed c.index-chunks-count.is) in
    let rises = rises_part listed chunks (c.args.count - 1) chunk c.requires.rise within in
    subst (λ l. IsSlice l (entries_of chunks)) (sym is)
    (part_slice listed chunks (c.args.count - 1) chunk c.index-chunks-count.is within c.requires.rise (subst (λ d. HasRisingIds (listed d)) (sym c.index-chunks-count.is) rises))
