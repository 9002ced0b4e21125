use Rattle.std.proofs.Common.{◌<◌, length, ap, ◌∙◌, arith}
use Rattle.std.proofs.lemmas.List.{length-set}
use Rattle.pg_map.specs.Chunks.{listed}
use Rattle.pg_map.proofs.Replaced.{are_parts, same_entries}
use Rattle.pg_map.proofs.pack.pack_chunks.Goals as goal
use Rattle.pg_map.proofs.pack.pack_chunks.Goals.{in-Some, in_default}

pub loop-place-preserved : goal.loop-place-preserved
loop-place-preserved g c =
    elim c.match-packed_chunk.branch [
      | in-Some w ↦
          let old = c.index.result.now in
          let chunks = c.loop-place.chunks.items in
          let within : c.loop-place.place < length chunks = omega (arith, c.loop-place.invariant.counted, c.loop-place-test.true) in
          let same = w.in-Some.ensures.entries ∙ ap listed c.index.ensures in
          let first = w.in-Some.ensures.first ∙ ap (λ x. x.first) c.index.ensures in
          let count = w.in-Some.ensures.count ∙ ap (λ x. x.count) c.index.ensures in
          rw w.chunks-is (record {
            chunks = are_parts listed w.in-Some.chunk old chunks c.loop-place.place within same first count c.loop-place.invariant.chunks;
            entries = same_entries listed w.in-Some.chunk old chunks c.loop-place.place within same ∙ c.loop-place.invariant.entries;
            counted = length-set chunks c.loop-place.place w.in-Some.chunk ∙ c.loop-place.invariant.counted;
          })
      | in_default w ↦ rw w.chunks-is c.loop-place.invariant
    ]
