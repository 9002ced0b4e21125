use Rattle.std.proofs.Common.{◌<◌, ◌/◌, length, refl, sym, ap, ◌∙◌, subst, arith}
use Rattle.std.specs.Vec.{vec_len}
use Rattle.std.proofs.lemmas.List.{get_or_default}
use Rattle.pg_map.specs.Chunks.{StartsAt}
use Rattle.pg_trace_index.specs.Chunks.{AreSound, all_of}
use Rattle.pg_trace_index.specs.declared.chunk.Chunk.{Chunk}
use Rattle.pg_trace_index.proofs.InChunks.{cut_is, cut_sound, starts_here}
use Rattle.pg_trace_index.proofs.chunk.cut.Goals as goal

pub returns : goal.returns
returns g c =
    let cs = c.args.chunks.now.items in
    let half = c.len-count.result / 2 in
    let some : 0 < half = omega (arith, c.if-count-limit.false, c.requires.some) in
    let chunk = c.index_mut.result.now in
    let later = c.in_ok-entries.entries.items in
    let same = c.index.ensures ∙ get_or_default cs c.args.place c.index.result.now chunk c.requires.within ∙ sym c.index_mut.ensures.value in
    let count = c.len-count.ensures ∙ ap (λ d. vec_len d.entries) same in
    let more : 0 < length later = omega (arith, c.if-count-limit.false, c.requires.some, count, c.in_ok-entries.ensures.tail_len) in
    let first : Chunk g.row.X.Denot = record { first = chunk.first; entries = c.split_off.new.self } in
    let second : Chunk g.row.X.Denot = record { first = c.index-2.result.now.0; entries = c.in_ok-entries.entries } in
    let starts : StartsAt second.first later = subst (λ e. StartsAt e.0 later) (sym c.index-2.ensures) (starts_here later c.index-2.result.now more) in
    let pushed = c.in_ok-insert.ensures.items in record {
      all = ap all_of pushed
          ∙ cut_is cs c.requires.sound c.args.place c.requires.within chunk first second c.index_mut.ensures.value half some refl
          c.in_ok-entries.ensures.items c.in_ok-entries.ensures.tail starts;
      sound = subst AreSound (sym pushed)
          (cut_sound cs c.requires.sound c.args.place c.requires.within chunk first second c.index_mut.ensures.value half some refl
          c.in_ok-entries.ensures.items c.in_ok-entries.ensures.tail starts);
    }
