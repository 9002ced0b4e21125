use Rattle.std.proofs.Common.{ℕ, ◌++◌, [], ◌∷◌, List, ◌<◌, ◌≤◌, map, take, ap, ap₂, sym, ◌∙◌, subst}
use Rattle.std.specs.List.{AllByRecursion}
use Rattle.std.proofs.lemmas.List.{map-append, take_all}
use Rattle.std.specs.Map.{keys_of}
use Rattle.pg_map.proofs.Filling.{all_pushed}
use Rattle.pg_model.proofs.LawsLists.{all-append}
use Rattle.pg_part_routing.proofs.Listing.{one_taken}
use Rattle.pg_part_compute.specs.VertexPairs.{found_at}
use Rattle.pg_part_compute.specs.Found.{HaveValues, IsFound, vertex_of}
use Rattle.pg_trace.specs.Trace.{state_at}
use Rattle.pg_part_compute.specs.declared.found.VertexPair.{VertexPair}
use Rattle.pg_part_compute.proofs.vertex_pairs.candidates_warm.Goals as goal

pub loop-place-preserved : goal.loop-place-preserved
loop-place-preserved g c =
    let program = g.P.Computation.program c.args.program.now in
    let all = c.args.work_items.now in
    let i = c.loop-place.place in
    let before = take i all in
    let one : ℕ × List g.row.P-Message.Denot = (c.at-id.result.0, c.at-id.result.1.now) in
    let next = one_taken all i (subst (λ n. i < n) c.len-place-end.ensures c.loop-place-test.true) (c.at-id.ensures one) in
    let have = c.loop-place.vertex_pairs.items in
    let more : VertexPair g.row.P-Value.Denot g.row.P-Message.Denot = record { id = one.0; old = c.in_ok-old.old; new = c.in_ok-new.new } in
    let combining = g.C.MessageCombiner.combining c.args.combiner.now in
    let warm : VertexPair g.row.P-Value.Denot g.row.P-Message.Denot → Type 0 =
    λ x. IsFound program c.args.missing combining c.args.old.now c.args.superstep (map (λ b. b.now) c.args.old_bundles.now) x.id x.old in
    let pushed = c.in_ok-push.ensures.items in
    record {
      ids = ap (map (λ x. x.id)) pushed ∙ (map-append (λ x. x.id) have (more ∷ []) ∙ (ap (λ l. l ++ one.0 ∷ []) c.loop-place.invariant.ids
          ∙ (sym (map-append (λ x. x.0) before (one ∷ [])) ∙ ap keys_of next)));
      new =
          ap (map (λ x. x.new)) pushed ∙ (map-append (λ x. x.new) have (more ∷ []) ∙ (ap₂ ◌++◌ c.loop-place.invariant.new
          (ap (λ x. x ∷ []) (c.in_ok-new.ensures.found
          ∙ ap (vertex_of program c.args.missing one.0 (state_at one.0 c.args.superstep c.loop-place.states)) c.in_ok-delivered.ensures.same
          ∙ ap (λ t. found_at program c.args.missing c.args.superstep t one) c.loop-place.invariant.states))
          ∙ (sym (map-append (found_at program c.args.missing c.args.superstep c.args.trace.now) before (one ∷ []))
          ∙ ap (map (found_at program c.args.missing c.args.superstep c.args.trace.now)) next)));
      old =
          subst (AllByRecursion warm) (sym pushed) (all-append warm have (more ∷ []) c.loop-place.invariant.old (
            subst
                (λ t. IsFound program c.args.missing combining t c.args.superstep
                (map (λ b. b.now) c.args.old_bundles.now) one.0 c.in_ok-old.old) c.loop-place.invariant.old_states c.in_ok-old.ensures.found,
            tt,
          ));
      values = all_pushed (HaveValues g.P.Value.Plain.is_value g.P.Message.Plain.is_value) have c.loop-place.invariant.values pushed
          (c.in_ok-old.ensures.values, c.in_ok-new.ensures.values c.in_ok-delivered.ensures.values);
      states = c.in_ok-new.ensures.same ∙ c.loop-place.invariant.states;
      old_states = c.in_ok-old.ensures.same ∙ c.loop-place.invariant.old_states;
    }

pub returns-clause-new : goal.returns-clause-new
returns-clause-new g c =
    c.loop-place.invariant.new
    ∙ ap (map (found_at (g.P.Computation.program c.args.program.now) c.args.missing c.args.superstep c.args.trace.now))
    (take_all c.loop-place.place c.args.work_items.now (subst (λ n. n ≤ c.loop-place.place) c.len-place-end.ensures c.loop-place-test.false))
