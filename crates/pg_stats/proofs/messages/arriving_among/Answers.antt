use Rattle.std.proofs.Common.{ap, ◌∙◌}
use Rattle.std.proofs.lemmas.Result.{IfOk-weaker}
use Rattle.std.specs.Option.{option_copied}
use Rattle.pg_inbox.specs.Handed.{message_lists_in}
use Rattle.pg_stats.specs.MessageCounts.{is_vertex, messages_among}
use Rattle.pg_stats.proofs.messages.arriving_among.Goals as goal

pub returns : goal.returns
returns g c =
    IfOk-weaker c.messages_among.result _ _
    (λ count is. is ∙ ap (λ rows. messages_among (is_vertex rows) c.args.ids.now (message_lists_in (option_copied c.args.bundle))) c.cursor.ensures)
    c.messages_among.ensures
