use Rattle.std.proofs.Common.{ap, is_some, not, ◌∙◌}
use Rattle.std.proofs.lemmas.Result.{IfOk-weaker}
use Rattle.pg_graph.specs.Rows.{row_at}
use Rattle.pg_inbox_bundles.specs.Counting.{messages_where}
use Rattle.pg_inbox_bundles.proofs.bundles.Bundle.undeliverable_counted.Goals as goal

pub returns : goal.returns
returns g c =
    IfOk-weaker c.undeliverable_listed.result _ _
    (λ count is. is ∙ ap (messages_where (λ id. not (is_some (row_at id c.args.graph.now)))) (c.as_slice.ensures.value ∙ c.in_ok-message_lists.ensures.message_lists))
    c.undeliverable_listed.ensures
