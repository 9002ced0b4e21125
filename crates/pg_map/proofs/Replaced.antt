-- A part in the place of one with the same entries.
use Rattle.std.proofs.Common.{◌≡◌, ℕ, zero, suc, ◌<◌, List, [], ◌∷◌, ◌++◌, length, get_or, slice_set, sym, ap, subst, arith}
use Rattle.std.specs.List.{AllByRecursion, flat_map}
use Rattle.pg_map.specs.Chunks.{AreParts, IsPart}
use Rattle.pg_map.specs.declared.part.Node.{Node}

module _ {X T : Type 0} (listed : Node T → List (ℕ × X)) (new d : Node T) where
  pub same_entries : (cs : List (Node T)) (i : ℕ) → i < length cs → listed new ≡ listed (get_or cs i d)
      → flat_map listed (slice_set cs i new) ≡ flat_map listed cs
  same_entries [] i within same = absurd (omega arith)
  same_entries (c ∷ cs) zero within same = ap (λ l. l ++ flat_map listed cs) same
  same_entries (c ∷ cs) (suc i) within same = ap (λ l. listed c ++ l) (same_entries cs i (omega arith) same)

  is_part : (c : Node T) → listed new ≡ listed c → new.first ≡ c.first → new.count ≡ c.count → IsPart c.first c.count (listed c)
      → IsPart new.first new.count (listed new)
  is_part c same first count is =
      subst (IsPart new.first new.count) (sym same)
      (subst (λ n. IsPart n new.count (listed c)) (sym first) (subst (λ n. IsPart c.first n (listed c)) (sym count) is))

  pub are_parts : (cs : List (Node T)) (i : ℕ) → i < length cs → listed new ≡ listed (get_or cs i d) → new.first ≡ (get_or cs i d).first
      → new.count ≡ (get_or cs i d).count → AreParts listed cs → AreParts listed (slice_set cs i new)
  are_parts [] i within same first count are = absurd (omega arith)
  are_parts (c ∷ cs) zero within same first count are = (is_part c same first count are.0, are.1)
  are_parts (c ∷ cs) (suc i) within same first count are = (are.0, are_parts cs i (omega arith) same first count are.1)

-- what holds of each holds of each others with one replaced
pub all_set : {X : Type 0} (P : X → Type 0) (new : X) (xs : List X) (i : ℕ) → P new → AllByRecursion P xs → AllByRecursion P (slice_set xs i new)
all_set P new [] i holds all = all
all_set P new (x ∷ xs) zero holds all = (holds, all.1)
all_set P new (x ∷ xs) (suc i) holds all = (all.0, all_set P new xs i holds all.1)
