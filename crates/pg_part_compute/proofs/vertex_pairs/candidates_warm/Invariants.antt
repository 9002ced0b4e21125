use Rattle.std.proofs.Common.{◌≡◌, map, take}
use Rattle.std.specs.List.{AllByRecursion}
use Rattle.std.specs.Map.{keys_of}
use Rattle.pg_part_compute.specs.VertexPairs.{found_at}
use Rattle.pg_part_compute.specs.Found.{HaveValues, IsFound}
use Rattle.pg_part_compute.proofs.vertex_pairs.candidates_warm.Given as goal

abbrev pub invariant-loop-place : goal.invariant-loop-place
invariant-loop-place g l =
    let program = g.P.Computation.program l.program in
    record {
      ids : map (λ c. c.id) l.vertex_pairs.items ≡ keys_of (take l.place l.work_items);
      new : map (λ c. c.new) l.vertex_pairs.items ≡ map (found_at program l.missing l.superstep l.trace) (take l.place l.work_items);
      old : AllByRecursion (λ c. IsFound program l.missing (g.C.MessageCombiner.combining l.combiner) l.old l.superstep
          (map (λ b. b.now) l.old_bundles) c.id c.old) l.vertex_pairs.items;
      values : AllByRecursion (HaveValues g.P.Value.Plain.is_value g.P.Message.Plain.is_value) l.vertex_pairs.items;
      states : l.states ≡ l.trace;
      old_states : l.old_states ≡ l.old;
    }
