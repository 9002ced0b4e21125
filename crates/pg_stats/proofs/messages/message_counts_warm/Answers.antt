use Rattle.std.proofs.Common.{◌≡◌, ◌∙◌, ◌<◌, length, arith, ap, sym, Some}
use Rattle.std.specs.List.{slice_get}
use Rattle.std.specs.Option.{option_copied, option_map}
use Rattle.std.proofs.lemmas.Option.{slice_get-get_or}
use Rattle.pg_inbox.specs.LoggedBundle.{slot_at}
use Rattle.pg_inbox.specs.Handed.{LoggedBundle}
use Rattle.pg_stats.proofs.Passing.{vertex_counts_delta_on}
use Rattle.pg_stats.specs.MessageCounts.{dropped_added, dropped_removed, sent_added, sent_removed}
use Rattle.pg_stats.proofs.messages.message_counts_warm.Goals as goal

pub loop-to-preserved : goal.loop-to-preserved
loop-to-preserved g c =
    let logs = c.args.old_logs.now in
    let s = c.args.superstep in
    let from = c.args.from in
    let bundles = c.args.bundles.now in
    let q = c.loop-to.to in
    let within : c.loop-to.to < length c.args.bundles.now = omega (arith, c.loop-to-test.true, c.loop-to.auto.to-end) in
    let here : slice_get c.args.bundles.now c.loop-to.to ≡ Some c.index-bundles-to.result =
    slice_get-get_or c.args.bundles.now c.loop-to.to c.index-bundles-to.result within ∙ ap Some (sym c.index-bundles-to.is) in
    let number : c.new.result ≡ c.loop-to.to = omega (arith, c.new.ensures, within, c.requires) in
    let old : option_copied c.bundle_of-old.result ≡ option_map (λ l. l.bundle) (slot_at c.args.old_logs.now c.args.superstep c.args.from c.loop-to.to) =
    c.bundle_of-old.ensures
    ∙ ap (option_map (λ (l : LoggedBundle g.row.M.Denot). l.bundle)) (c.get.ensures ∙ ap (slot_at c.args.old_logs.now c.args.superstep c.args.from) number) in
    record {
      sent_removed = vertex_counts_delta_on sent_removed logs s from bundles q here old c.loop-to.invariant.sent_removed c.in_ok-sent_count_delta.ensures.removed c.in_ok-sent.ensures.removed;
      sent_added = vertex_counts_delta_on sent_added logs s from bundles q here old c.loop-to.invariant.sent_added c.in_ok-sent_count_delta.ensures.added c.in_ok-sent.ensures.added;
      dropped_removed = vertex_counts_delta_on (dropped_removed c.args.missing c.args.graph.now c.args.member_changes.now) logs s from bundles q here old
          c.loop-to.invariant.dropped_removed c.in_ok-dropped_count_delta.ensures.removed c.in_ok-dropped.ensures.removed;
      dropped_added = vertex_counts_delta_on (dropped_added c.args.missing c.args.graph.now c.args.member_changes.now) logs s from bundles q here old
          c.loop-to.invariant.dropped_added c.in_ok-dropped_count_delta.ensures.added c.in_ok-dropped.ensures.added;
    }
