use Rattle.std.proofs.Common.{ap, ◌∙◌}
use Rattle.std.proofs.lemmas.Option.{get_or_from_slice_get}
use Rattle.pg_model.specs.Superstep.{is_active}
use Rattle.pg_scratch.proofs.worklist.is_active_at.Goals as goal

pub returns : goal.returns
returns g c x at =
    let with_inbox = c.index-with_inboxes-place.result in
    c.is_active.ensures ∙ ap is_active (c.index-with_inboxes-place.is ∙ get_or_from_slice_get c.args.with_inboxes.now c.args.place x with_inbox at)
