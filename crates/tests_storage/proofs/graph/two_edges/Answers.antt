use Rattle.std.proofs.Common.{◌≡◌, sym, subst, arith}
use Rattle.std.specs.List.Sorted.{IsStrictlySortedBy}
use Rattle.std.specs.Ordering.{nat_cmp}
use Rattle.std.specs.declared.cmp.Ordering.TheVariants.{Less}
use Rattle.std.proofs.lemmas.Bool.Decides.{nat_tests}
use Rattle.pg_graph.specs.Handed.{IsRising}
use Rattle.tests_storage.proofs.graph.two_edges.Goals as goal

pub from_rising-requires : goal.from_rising-requires
unfolding IsStrictlySortedBy
from_rising-requires c =
    let less : nat_cmp c.args.low c.args.high ≡ Less = grind (arith, nat_tests) in
    subst IsRising (sym c.in_ok-edges.ensures.items) ((less, tt), ((tt, tt)))
