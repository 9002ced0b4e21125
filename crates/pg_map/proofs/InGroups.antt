-- Entries in groups of chunks: what a search among the groups tells of the chunks of one.
use Rattle.std.proofs.Common.{◌≡◌, ℕ, zero, suc, ◌+◌, ◌<◌, ◌≤◌, List, [], ◌∷◌, ◌++◌, length, get_or, drop, true, false, sym, ap, ◌∙◌, subst, arith, leb}
use Rattle.std.specs.List.{AllByRecursion}
use Rattle.std.specs.List.Sorted.{IsPartitionPoint}
use Rattle.pg_map.specs.Chunks.{AreChunks, AreGroups, all_of, chunks_in, entries_of, grouped}
use Rattle.pg_map.specs.Entries.{HasRisingIds, entries_from, value_at}
use Rattle.pg_map.specs.declared.part.Node.{Node}
use Rattle.pg_map.proofs.InParts.{from_in, get_in, rises_in}

all_at : {X : Type 0} (P : X → Type 0) (xs : List X) (i : ℕ) (d : X) → i < length xs → AllByRecursion P xs → P (get_or xs i d)
all_at P [] i d within all = absurd (omega arith)
all_at P (x ∷ xs) zero d within all = all.0
all_at P (x ∷ xs) (suc i) d within all = all_at P xs i d (omega arith) all.1

-- where the last of the groups that begin at an id or below it has these chunks
module _ {X : Type 0} (groups : List (Node (Node (ℕ × X)))) (are : AreGroups groups) (rising : HasRisingIds (all_of groups)) (id n : ℕ)
    (parts : IsPartitionPoint (λ y. leb y.first id ≡ true) (λ y. leb y.first id ≡ false) groups n) (m : ℕ) (last : m + 1 ≡ n) (within : n ≤ length groups)
    (group : Node (Node (ℕ × X))) (here : group ≡ get_or groups m group) (chunks : List (Node (ℕ × X))) (is : chunks ≡ chunks_in group) where
  pub are_there : AreChunks chunks
  are_there =
      subst AreChunks (sym is)
      (subst (λ g. AreChunks (chunks_in g)) (sym here) (all_at (λ g. AreChunks (chunks_in g)) groups m group (omega arith) are.1))

  pub rises_there : HasRisingIds (entries_of chunks)
  rises_there =
      subst (λ l. HasRisingIds (entries_of l)) (sym is) (rises_in grouped id groups n are.0 rising parts m last within group here)

  pub value_there : value_at id (all_of groups) ≡ value_at id (entries_of chunks)
  value_there = get_in grouped id groups n are.0 rising parts m last within group here ∙ sym (ap (λ l. value_at id (entries_of l)) is)

  pub from_there : entries_from id (all_of groups) ≡ entries_from id (entries_of chunks) ++ all_of (drop n groups)
  from_there =
      from_in grouped id groups n are.0 rising parts m last within group here
      ∙ sym (ap (λ l. entries_from id (entries_of l) ++ all_of (drop n groups)) is)
