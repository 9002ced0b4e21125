use Rattle.pg_model.proofs.LawsListed.{ordered-rising, ordered-same}
use Rattle.pg_part_compute.proofs.ids.rising.Goals as goal

pub returns-clause-rise : goal.returns-clause-rise
returns-clause-rise c =
    ordered-rising c.args.ids.items c.sort_unstable.new.self.items c.dedup.new.self.items c.sort_unstable.ensures.permutation
    c.dedup.ensures.filtered c.sort_unstable.ensures.sorted

pub returns-clause-same : goal.returns-clause-same
returns-clause-same c =
    ordered-same c.args.ids.items c.sort_unstable.new.self.items c.dedup.new.self.items c.sort_unstable.ensures.permutation c.dedup.ensures.filtered
