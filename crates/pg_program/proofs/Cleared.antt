-- Room that holds no edges.
use Rattle.std.proofs.Common.{◌≡◌, [], sym, subst}
use Rattle.std.specs.List.Sorted.{IsStrictlySortedBy}
use Rattle.pg_graph.specs.Handed.{EdgeList, IsRising}

none_rise : IsRising []
unfolding IsStrictlySortedBy
none_rise = tt

pub rises-cleared : (edges : EdgeList) → edges ≡ [] → IsRising edges
rises-cleared edges none = subst (λ (l : EdgeList). IsRising l) (sym none) none_rise
