use Rattle.std.proofs.Common.{ap, is_some, not, sym, ◌∙◌}
use Rattle.std.proofs.lemmas.Result.{IfOk-weaker}
use Rattle.pg_graph.specs.Rows.{row_at}
use Rattle.pg_inbox_bundles.specs.Counting.{messages_where}
use Rattle.pg_inbox_bundles.proofs.bundles.Bundle.undeliverable.Goals as goal

pub returns-in-Some : goal.returns-in-Some
returns-in-Some g c =
    IfOk-weaker c.undeliverable_sent.result _ _
    (λ count is. is ∙ ap (messages_where (λ id. not (is_some (row_at id c.args.graph.now)))) (sym c.in-Some.ensures.message_lists)) c.undeliverable_sent.ensures
