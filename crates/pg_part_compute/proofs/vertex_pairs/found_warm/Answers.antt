use Rattle.std.proofs.Common.{not, map, ap, ◌∙◌, subst}
use Rattle.std.specs.List.{AllByRecursion}
use Rattle.std.specs.Map.{keys_of}
use Rattle.pg_part_compute.specs.VertexPairs.{AreWorkItems, found_at}
use Rattle.pg_part_compute.specs.Found.{IsFound}
use Rattle.pg_part_compute.proofs.ReadVertices.{IfOk-four}
use Rattle.pg_part_compute.proofs.States.{eq_is_sound_of_values}
use Rattle.pg_part_compute.proofs.vertex_pairs.found_warm.Goals as goal

pub returns : goal.returns
returns g c =
    let program = g.P.Computation.program c.args.program.now in
    let combining = g.C.MessageCombiner.combining c.args.combiner.now in
    let own = c.in_ok-work_items-2.ensures in
    let work_items = c.in_ok-work_items.work_items in
    let are = subst (λ bundles. AreWorkItems combining bundles c.args.ids.now (not c.args.same_view) work_items)
    (ap (map (λ b. b.now)) c.as_slice.ensures.value ∙ c.in_ok-refs.ensures) c.in_ok-work_items.ensures in
    let values_are = g.met.P.Value.Plain g.world.𝓛 g.world.𝓜 g.world.𝓡 ((λ s x. x), (λ x. x), (λ x. x), λ x. x) in
    let messages_are = g.met.P.Message.Plain g.world.𝓛 g.world.𝓜 g.world.𝓡 ((λ s x. x), (λ x. x), (λ x. x), λ x. x) in
    let found = c.candidates_warm.ensures in
    IfOk-four c.candidates_warm.result _ _ _ _ _ (λ vertex_pairs ids new old values. record {
      work_items = work_items;
      are = are;
      ids_are = ids ∙ ap keys_of own;
      new_are = new ∙ ap (map (found_at program c.args.missing c.args.superstep c.args.trace.now)) own;
      warm_are =
          subst (λ bundles. AllByRecursion
          (λ k. IsFound program c.args.missing combining c.args.old.now c.args.superstep bundles k.id k.old) vertex_pairs.items)
          (ap (map (λ b. b.now)) c.as_slice-2.ensures.value ∙ c.in_ok-old_refs.ensures) old;
      eq_is_sound =
          eq_is_sound_of_values g.P.Value.PartialEq.eq g.P.Message.PartialEq.eq g.P.Value.Plain.is_value g.P.Message.Plain.is_value
          values_are.exact messages_are.exact vertex_pairs.items values;
    }) found.ids found.new found.old found.values
