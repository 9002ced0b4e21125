use Rattle.pg_model.proofs.LawsListed.{ordered-same, ordered-rising}
use Rattle.pg_scratch.proofs.worklist.put_in_order.Goals as goal

pub returns-clause-rising : goal.returns-clause-rising
returns-clause-rising c =
    ordered-rising c.args.places.now.items c.sort_unstable.new.self.items c.dedup.new.self.items
    c.sort_unstable.ensures.permutation c.dedup.ensures.filtered c.sort_unstable.ensures.sorted

pub returns-clause-same : goal.returns-clause-same
returns-clause-same c =
    ordered-same c.args.places.now.items c.sort_unstable.new.self.items c.dedup.new.self.items c.sort_unstable.ensures.permutation c.dedup.ensures.filtered
