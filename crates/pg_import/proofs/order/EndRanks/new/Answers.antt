use Rattle.std.proofs.Common.{sym, subst}
use Rattle.pg_import.specs.Ranks.{AreKnown}
use Rattle.pg_import.proofs.KnownRanks.{AreKnown-replicate}
use Rattle.pg_import.proofs.order.EndRanks.new.Goals as goal

pub returns : goal.returns
returns c = λ rows ids.
    subst (AreKnown rows ids) (sym (c.in_ok-from_elem.ensures.items_if_clones_equal (λ y same. same))) (AreKnown-replicate rows 0 c.args.lines ids)
