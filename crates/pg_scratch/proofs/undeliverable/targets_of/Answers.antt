use Rattle.std.proofs.Common.{ap, ◌∙◌}
use Rattle.pg_model.specs.Superstep.{has_id}
use Rattle.pg_model.proofs.LawsMade.{targets-are}
use Rattle.pg_scratch.proofs.undeliverable.targets_of.Goals as goal

pub returns : goal.returns
returns g c =
    targets-are c.put_ids_in_order.new.ids.items c.args.sent.now c.put_ids_in_order.ensures.rising (λ id. c.put_ids_in_order.ensures.same id
    ∙ ap (λ l. has_id l id) c.in_ok-ids.ensures)
