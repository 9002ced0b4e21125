use Rattle.std.proofs.Common.{subst, sym}
use Rattle.pg_import.specs.Ranks.{AreKnown}
use Rattle.pg_import.proofs.KnownRanks.{AreKnown-set}
use Rattle.pg_import.proofs.order.EndRanks.set.Goals as goal

pub returns-then-place-len : goal.returns-then-place-len
returns-then-place-len c = λ rows ids id at is known.
    AreKnown-set rows ids c.self.inside.ranks.items c.args.place c.args.rank (subst (AreKnown rows ids) (sym c.self.view_is) known) at is
