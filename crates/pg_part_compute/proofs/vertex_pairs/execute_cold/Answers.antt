use Rattle.std.proofs.Common.{◌≡◌, ℕ, List, [], ◌∷◌, None, false, true, map, ap, refl, sym, ◌∙◌, subst, subst₂, IfSome}
use Rattle.std.specs.List.{AllByRecursion}
use Rattle.std.specs.Map.{keys_of}
use Rattle.std.proofs.lemmas.List.Folds.{flat_map-map}
use Rattle.std.proofs.lemmas.Simd.{map-map}
use Rattle.pg_graph.specs.declared.missing.Missing.{Missing}
use Rattle.pg_model.specs.Job.{Program}
use Rattle.pg_part_compute.specs.VertexPairs.{AreWorkItems, cold, found_at}
use Rattle.pg_part_compute.specs.Found.{change_cold, change_of}
use Rattle.pg_part_compute.specs.VertexCountsDeltas.{IsVertexCountsDelta}
use Rattle.pg_part_compute.proofs.ReadVertices.{IfOk-four, eq_is_sound_of_none}
use Rattle.pg_part_compute.proofs.VertexCountsDeltas.{if_some, vertex_counts_delta_are}
use Rattle.pg_map.specs.Entries.{HasRisingIds}
use Rattle.pg_part_routing.proofs.Beginning.{own_rise}
use Rattle.pg_trace.specs.Trace.{Trace}
use Rattle.pg_part_compute.proofs.vertex_pairs.execute_cold.Goals as goal

none_warm : {V M : Type 0} (program : Program V M) (missing : Missing) (s : ℕ) (trace : Trace V M) (ws : List (ℕ × List M))
    → AllByRecursion (λ c. c.old ≡ None) (map (cold program missing s trace) ws)
none_warm program missing s trace [] = tt
none_warm program missing s trace (w ∷ ws) = (refl, none_warm program missing s trace ws)

pub returns : goal.returns
returns g c =
    let program = g.P.Computation.program c.args.program.now in
    let value_eq = g.P.Value.PartialEq.eq in
    let message_eq = g.P.Message.PartialEq.eq in
    let view = c.args.step_context.view in
    let found = cold program c.args.missing c.args.superstep c.args.trace.now in
    let work_items = c.in_ok-work_items.work_items in
    let mine = c.in_ok-work_items-2.work_items in
    let none = none_warm program c.args.missing c.args.superstep c.args.trace.now mine in
    let step_delta = c.execute_work_items.ensures in
    let bundles = ap (map (λ b. b.now)) c.as_slice.ensures.value ∙ c.in_ok-refs.ensures in
    let ids = c.as_slice-2.ensures.value ∙ c.in_ok-ids.ensures.ids in
    let s = c.args.superstep in
    let trace = c.args.trace.now in
    let rise = subst HasRisingIds (sym c.in_ok-work_items-2.ensures) (own_rise c.args.share.partitions c.args.share.partition work_items c.in_ok-work_items.ensures.rise) in
    record {
      vertex_counts_delta = IfOk-four c.execute_work_items.result _ _ _ _ _ (λ p dirty_ids changes vertex_counts_delta _. subst₂ (λ i l. IfSome p.vertex_counts_delta (IsVertexCountsDelta s trace i l))
          (sym dirty_ids) (sym changes) (if_some p.vertex_counts_delta (vertex_counts_delta_are program view c.args.missing s trace mine rise) vertex_counts_delta)) step_delta.dirty_ids step_delta.changes step_delta.vertex_counts_delta
          step_delta.vertex_counts_delta;
      step_delta = IfOk-four c.execute_work_items.result _ _ _ _ _ (λ p dirty_ids changes meter _. record {
        work_items = work_items;
        are = subst₂ (λ b i. AreWorkItems (g.C.MessageCombiner.combining c.args.combiner.now) b i true work_items) bundles ids c.in_ok-work_items.ensures;
        vertex_pairs = map found mine;
        ids_are = map-map (λ x. x.id) found mine ∙ ap keys_of c.in_ok-work_items-2.ensures;
        new_are = map-map (λ x. x.new) found mine
            ∙ ap (map (found_at program c.args.missing c.args.superstep c.args.trace.now)) c.in_ok-work_items-2.ensures;
        warm_are = none;
        eq_is_sound = eq_is_sound_of_none value_eq message_eq (map found mine) none;
        dirty_ids_are = dirty_ids ∙ sym (map-map (λ x. x.id) found mine);
        changes_are = changes ∙ flat_map-map (change_cold program view) found mine
            ∙ sym (flat_map-map (change_of value_eq message_eq program view false) found mine);
        counted = meter;
      }) step_delta.dirty_ids step_delta.changes step_delta.meter step_delta.meter;
    }
