use Rattle.std.proofs.Common.{OnOk, ap, map, subst, sym, ◌∙◌}
use Rattle.pg_part_routing.specs.Sending.{HaveMore, sends_by}
use Rattle.pg_part_routing.proofs.sending.add_sends.Goals as goal

pub returns-in-Some-clause-more : goal.returns-in-Some-clause-more
returns-in-Some-clause-more g c =
    subst (λ l. OnOk c.push_sends.result (HaveMore c.args.partitions l c.args.parts.now.items c.push_sends.new.parts.items))
    (ap (map (λ m. (m.0, (c.args.sender, m.0, m.1)))) c.sent.ensures ∙ ap (sends_by c.args.sender) (sym c.in-Some.is)) c.push_sends.ensures.more
