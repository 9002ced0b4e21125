-- The out-edges of a vertex: targets with weights, by rising target, at most one to each
-- (Pregel, section 2: directed edges with a value each; at most one to a target is this project's).
use Rattle.std.specs.Prelude.{ℕ, ℤ, List, Option, map}
use Rattle.std.specs.Ordering.{nat_cmp}
use Rattle.std.specs.BTreeMap.{insert_entry, is_at}
use Rattle.std.specs.Map.{lookup, remove_entry}
use Rattle.std.specs.List.Sorted.{IsStrictlySortedBy}

abbrev pub EdgeList : Type 0
EdgeList = List (ℕ × ℤ)

-- the targets rise
abbrev pub IsRising : EdgeList → Type 0
IsRising edges = IsStrictlySortedBy nat_cmp (map (λ e. e.0) edges)

-- the weight of the edge to a target
abbrev pub weight_at : ℕ → EdgeList → Option ℤ
weight_at target edges = lookup (is_at (nat_cmp target)) edges

-- with the edge to a target, in the place of the one that was there
abbrev pub with_edge : ℕ → ℤ → EdgeList → EdgeList
with_edge target weight edges = insert_entry nat_cmp edges target weight

-- without the edge to a target
abbrev pub without_edge : ℕ → EdgeList → EdgeList
without_edge target edges = remove_entry (is_at (nat_cmp target)) edges
