use Rattle.std.proofs.Common.{List, subst, ap}
use mathlib.Core.List.{IsPrefix}
use Rattle.pg_publish.proofs.Fronts.{begins_by_length}
use Rattle.pg_publish.proofs.history.HistoryPrefix.begins.Goals as goal

pub returns : goal.returns
returns g c =
    let both = c.learn.new.self.log in
    let this : IsPrefix c.self.inside.seen.log both =
    subst (λ (l : List g.row.E.Denot). IsPrefix l both) (ap (λ s. s.log) c.again-both.ensures) c.learn.ensures.2 in
    rw (← c.self.view_is, ← c.other.view_is)
    (begins_by_length c.self.inside.seen.log c.other.inside.seen.log both
    c.self.inside.count c.other.inside.count c.self.invariant c.other.invariant this c.learn.ensures.3)
