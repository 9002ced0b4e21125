use Rattle.pg_part_compute.proofs.ReadVertices.{IfOk-four}
use Rattle.pg_part_compute.proofs.vertex_pairs.execute_warm.Goals as goal

pub returns : goal.returns
returns g c =
    let found = c.in_ok-vertex_pairs.ensures in
    let step_delta = c.execute_pairs.ensures in
    IfOk-four c.execute_pairs.result _ _ _ _ _ (λ p dirty_ids changes meter _. record {
      work_items = found.work_items;
      are = found.are;
      vertex_pairs = c.in_ok-vertex_pairs.vertex_pairs.items;
      ids_are = found.ids_are;
      new_are = found.new_are;
      warm_are = found.warm_are;
      eq_is_sound = found.eq_is_sound;
      dirty_ids_are = dirty_ids;
      changes_are = changes;
      counted = meter;
    }) step_delta.dirty_ids step_delta.changes step_delta.meter step_delta.meter
