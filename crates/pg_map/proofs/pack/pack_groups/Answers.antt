use Rattle.std.proofs.Common.{◌<◌, ap, arith, length, ◌∙◌}
use Rattle.std.proofs.lemmas.List.{length-set}
use Rattle.pg_map.specs.Chunks.{AreChunks, chunks_in, grouped}
use Rattle.pg_map.proofs.Replaced.{all_set, are_parts, same_entries}
use Rattle.pg_map.proofs.pack.pack_groups.Goals as goal

pub loop-place-preserved : goal.loop-place-preserved
loop-place-preserved g c =
    let new = c.pack_group.new.group in
    let old = c.index_mut.result.now in
    let place = c.loop-place.place in
    let groups = c.loop-place.groups.items in
    let within : place < length groups = omega (arith, c.loop-place.invariant.counted, c.loop-place-test.true) in
    let same = c.pack_group.ensures.entries ∙ ap grouped c.index_mut.ensures.value in
    let first = c.pack_group.ensures.first ∙ ap (λ x. x.first) c.index_mut.ensures.value in
    let count = c.pack_group.ensures.count ∙ ap (λ x. x.count) c.index_mut.ensures.value in
    record {
      groups = (
        are_parts grouped new old groups place within same first count c.loop-place.invariant.groups.0,
        all_set (λ group. AreChunks (chunks_in group)) new groups place c.pack_group.ensures.chunks c.loop-place.invariant.groups.1,
      );
      entries = same_entries grouped new old groups place within same ∙ c.loop-place.invariant.entries;
      counted = length-set groups place new ∙ c.loop-place.invariant.counted;
    }
