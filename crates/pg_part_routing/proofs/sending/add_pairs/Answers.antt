use Rattle.std.proofs.Common.{OnOk, ap, map, subst, sym, ◌∙◌}
use Rattle.pg_part_routing.specs.Sending.{HaveMore, pairs_by}
use Rattle.pg_part_routing.proofs.sending.add_pairs.Goals as goal

pub returns-in-Some-clause-more : goal.returns-in-Some-clause-more
returns-in-Some-clause-more g c =
    subst (λ l. OnOk c.push_pairs.result (HaveMore c.args.partitions l c.args.parts.now.items c.push_pairs.new.parts.items))
    (ap (map (λ m. (m.0, (c.args.sender, m.0)))) c.sent.ensures ∙ ap (pairs_by c.args.sender) (sym c.in-Some.is)) c.push_pairs.ensures.more
