use Rattle.std.proofs.Common.{◌≡◌, ℕ, ◌+◌, ◌<◌, ◌++◌, cond, is_some, [], ◌∷◌, List, None, ◌≤◌, map, take, ap, ap₂, sym, ◌∙◌, subst, subst₂, option_map, IfSome}
use Rattle.std.specs.List.{count_by, flat_map}
use Rattle.std.specs.Map.{keys_of}
use Rattle.std.specs.Option.{option_to_list}
use Rattle.std.proofs.lemmas.List.{map-append, take_all}
use Rattle.pg_model.specs.Superstep.{capped}
use Rattle.pg_model.specs.declared.view.View.{View}
use Rattle.pg_part_routing.proofs.Listing.{one_taken, count_by-push, flat_map-push, more_calls}
use Rattle.pg_part_compute.specs.VertexPairs.{cold, found_at}
use Rattle.pg_part_compute.specs.Found.{change_cold, reads, with_inbox_of, vertex_of}
use Rattle.pg_part_compute.specs.Executor.{changes_of}
use Rattle.pg_part_compute.specs.VertexCountsDeltas.{AreVertexCountsDelta, given_at, left_cold}
use Rattle.pg_part_compute.proofs.VertexCountsDeltas.{counted_push, given_is, if_some}
use Rattle.pg_stats.specs.VertexCounts.{IsSum, state_after, states_among}
use Rattle.pg_stats.proofs.Counting.{with_push}
use Rattle.pg_stats.specs.Stats.{vertex_counts_of}
use Rattle.pg_trace.specs.Trace.{state_at}
use Rattle.pg_part_compute.specs.declared.found.VertexPair.{VertexPair}
use Rattle.pg_part_compute.proofs.vertex_pairs.execute_work_items.Goals as goal

pub loop-place-preserved : goal.loop-place-preserved
loop-place-preserved g c =
    let program = g.P.Computation.program c.args.program.now in
    let trace = c.args.trace.now in
    let s = c.args.superstep in
    let all = c.args.work_items.now in
    let i = c.loop-place.place in
    let before = take i all in
    let one : ℕ × List g.row.P-Message.Denot = (c.at-id.result.0, c.at-id.result.1.now) in
    let next = one_taken all i (subst (λ n. i < n) c.len-place-end.ensures c.loop-place-test.true) (c.at-id.ensures one) in
    let found = map (cold program c.args.missing s trace) before in
    let now = c.loop-place.invariant in
    let state = c.state_at-state.ensures.value ∙ ap (state_at one.0 s) now.states in
    let vertex = with_inbox_of c.in_ok-found.found one.1 in
    let here : vertex ≡ found_at program c.args.missing s trace one =
    c.in_ok-found.ensures ∙ ap (λ o. vertex_of program c.args.missing one.0 o one.1) state in
    let more : map (cold program c.args.missing s trace) (before ++ one ∷ []) ≡ found ++ cold program c.args.missing s trace one ∷ [] =
    map-append (cold program c.args.missing s trace) before (one ∷ []) in
    let was = changes_of c.loop-place.executor in
    let given = c.given_at.ensures
    ∙ ap₂ given_at c.in_ok-execute_found.ensures.changes
    c.len-before.ensures
    ∙ given_is program c.loop-place.executor.cx.view (record { id = one.0; old = None; new = vertex }) was
    ∙ ap₂ (λ v x. option_map program.step (reads v x)) now.view here in
    let runs : View → VertexPair g.row.P-Value.Denot g.row.P-Message.Denot → _ = λ v c. is_some (reads v c.new) in
    let view = c.args.step_context.view in
    let meter = c.args.step_context.meter in
    let remaining = λ (w : ℕ × List g.row.P-Message.Denot). option_to_list (left_cold program view c.args.missing s trace w) in
    record {
      dirty_ids = c.in_ok-push.ensures.items ∙ (ap (λ l. l ++ one.0 ∷ []) now.dirty_ids ∙ sym (map-append (λ x. x.0) before (one ∷ [])) ∙ ap keys_of next);
      changes = c.in_ok-execute_found.ensures.changes
          ∙ ap₂ ◌++◌ now.changes (ap₂ (λ v x. change_cold program v (record { id = one.0; old = None; new = x })) now.view here)
          ∙ sym (ap (flat_map (change_cold program view)) more ∙ flat_map-push (change_cold program view) found (cold program c.args.missing s trace one))
          ∙ ap (λ l. flat_map (change_cold program view) (map (cold program c.args.missing s trace) l)) next;
      view = c.in_ok-execute_found.ensures.view ∙ now.view;
      ready = c.in_ok-execute_found.ensures.ready;
      meter = c.in_ok-execute_found.ensures.meter
          ∙ ap₂ (λ m x. capped (m + cond (is_some x) 1 0)) now.meter (ap₂ reads now.view here)
          ∙ more_calls meter (count_by (runs view) found) (cond (is_some (reads view (found_at program c.args.missing s trace one))) 1 0)
          ∙ ap (λ n. capped (meter + n))
          (sym (ap (count_by (runs view)) more ∙ count_by-push (runs view) found (cold program c.args.missing s trace one)))
          ∙ ap (λ l. capped (meter + count_by (runs view) (map (cold program c.args.missing s trace) l))) next;
      removed = with_push s trace (keys_of before) one.0 c.state_at-state.result c.in_ok-vertex_counts_delta.vertex_counts_delta.removed state
          (subst (λ vertex_counts. IsSum vertex_counts (vertex_counts_of (option_to_list c.state_at-state.result)) c.in_ok-vertex_counts_delta.vertex_counts_delta.removed) now.removed (c.in_ok-vertex_counts_delta.ensures one.0).removed)
          ∙ ap (λ l. vertex_counts_of (states_among s l trace)) (sym (map-append (λ x. x.0) before (one ∷ [])) ∙ ap keys_of next);
      added = counted_push remaining before one c.in_ok-vertex_counts_delta.vertex_counts_delta.added
          (subst (λ vertex_counts. IsSum vertex_counts (vertex_counts_of (remaining one)) c.in_ok-vertex_counts_delta.vertex_counts_delta.added) now.added
          (subst₂ (λ given o. IsSum c.loop-place.vertex_counts_delta.added (vertex_counts_of (option_to_list (state_after one.0 given o))) c.in_ok-vertex_counts_delta.vertex_counts_delta.added) given state
          (c.in_ok-vertex_counts_delta.ensures one.0).added))
          ∙ ap (λ l. vertex_counts_of (flat_map remaining l)) next;
      states = c.state_at-state.ensures.same ∙ now.states;
    }

pub returns-clause-changes : goal.returns-clause-changes
returns-clause-changes g c =
    let program = g.P.Computation.program c.args.program.now in
    c.into_step_delta.ensures.changes
    ∙ c.loop-place.invariant.changes
    ∙ ap (λ l. flat_map (change_cold program c.args.step_context.view) (map (cold program c.args.missing c.args.superstep c.args.trace.now) l))
    (take_all c.loop-place.place c.args.work_items.now (subst (λ n. n ≤ c.loop-place.place) c.len-place-end.ensures c.loop-place-test.false))

pub returns-clause-meter : goal.returns-clause-meter
returns-clause-meter g c =
    let program = g.P.Computation.program c.args.program.now in
    let view = c.args.step_context.view in
    c.into_step_delta.ensures.meter
    ∙ c.loop-place.invariant.meter
    ∙ ap (λ l. capped (c.args.step_context.meter + count_by (λ (x : VertexPair g.row.P-Value.Denot g.row.P-Message.Denot). is_some (reads view x.new))
    (map (cold program c.args.missing c.args.superstep c.args.trace.now) l)))
    (take_all c.loop-place.place c.args.work_items.now (subst (λ n. n ≤ c.loop-place.place) c.len-place-end.ensures c.loop-place-test.false))

pub returns-clause-vertex_counts_delta : goal.returns-clause-vertex_counts_delta
returns-clause-vertex_counts_delta g c =
    let program = g.P.Computation.program c.args.program.now in
    let view = c.args.step_context.view in
    let all =
    take_all c.loop-place.place c.args.work_items.now (subst (λ n. n ≤ c.loop-place.place) c.len-place-end.ensures c.loop-place-test.false) in
    subst (λ o. IfSome o (AreVertexCountsDelta program view c.args.missing c.args.superstep c.args.trace.now c.args.work_items.now)) (sym c.into_step_delta.ensures.vertex_counts_delta)
    (if_some c.vertex_counts_delta_next.result (λ t h. record {
      next = h.1;
      removed = ap (λ t. t.removed) h.0 ∙ c.loop-place.invariant.removed ∙ ap (λ l. vertex_counts_of (states_among c.args.superstep (keys_of l) c.args.trace.now)) all;
      added = ap (λ t. t.added) h.0 ∙ c.loop-place.invariant.added
          ∙ ap (λ l. vertex_counts_of (flat_map (λ w. option_to_list (left_cold program view c.args.missing c.args.superstep c.args.trace.now w)) l)) all;
    }) c.vertex_counts_delta_next.ensures)
