use Rattle.std.proofs.Common.{◌+◌, ap, subst, take, ◌∙◌}
use Rattle.std.specs.Option.{option_to_list}
use Rattle.pg_stats.specs.VertexCounts.{IsSum, states_among}
use Rattle.pg_stats.specs.Stats.{vertex_counts_of}
use Rattle.pg_trace.specs.Trace.{state_at}
use Rattle.pg_stats.proofs.Counting.{one_taken, with_push}
use Rattle.pg_stats.proofs.vertices.vertex_counts_delta_among.Goals as goal

pub loop-id-preserved : goal.loop-id-preserved
loop-id-preserved g c =
    let s = c.args.superstep in
    let trace = c.args.trace.now in
    let ids = c.args.ids.now in
    let i = c.loop-id.id-index in
    let id = c.id-item.result in
    let turn = c.transition_at-turn.result in
    let same = c.loop-id.invariant.same in
    let more = one_taken ids i c.loop-id-test.true c.id-item.is in
    let old = vertex_counts_of (option_to_list turn.before) in
    let new = vertex_counts_of (option_to_list turn.after) in
    record {
      removed = with_push s trace (take i ids) id turn.before c.in_ok-removed.removed
          (c.transition_at-turn.ensures.before ∙ ap (state_at id s) same)
          (subst (λ counts. IsSum counts old c.in_ok-removed.removed) c.loop-id.invariant.removed c.in_ok-removed.ensures)
          ∙ ap (λ l. vertex_counts_of (states_among s l trace)) more;
      added = with_push (s + 1) trace (take i ids) id turn.after c.in_ok-added.added
          (c.transition_at-turn.ensures.after ∙ ap (state_at id (s + 1)) same)
          (subst (λ counts. IsSum counts new c.in_ok-added.added) c.loop-id.invariant.added c.in_ok-added.ensures)
          ∙ ap (λ l. vertex_counts_of (states_among (s + 1) l trace)) more;
      same = c.transition_at-turn.ensures.same ∙ same;
    }
