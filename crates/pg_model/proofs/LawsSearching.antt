-- A search among rising ids: where one is found, it is there, and where none is, it isn't.
use Rattle.std.proofs.Common.{◌≡◌, ℕ, zero, suc, ◌<◌, ◌≤◌, ◌==◌, true, false, ◌||◌, List, [], ◌∷◌, length, get_or, Some, refl, ⊎_elim, ap, ◌∙◌, arith}
use Rattle.std.specs.List.{HoldsAt, slice_get}
use Rattle.std.specs.List.Sorted.{IsPartitionPoint, IsStrictlySortedBy, IsNonDecreasingBy}
use Rattle.std.specs.Ordering.{nat_cmp, ordering_index}
use Rattle.std.specs.declared.cmp.Ordering.TheVariants.{Less, Equal, Greater}
use Rattle.std.proofs.lemmas.Bool.{cases_lt, or_left, or_right}
use Rattle.std.proofs.lemmas.Bool.Decides.{nat_tests}
use Rattle.std.proofs.lemmas.Map.Keys.{non_decreasing_from_sorted}
use Rattle.std.proofs.lemmas.Map.Lookups.{exact_unsigned}
use Rattle.std.proofs.lemmas.Option.{slice_get-get_or}
use Rattle.pg_model.specs.Superstep.{has_id}

apart_from_Less : (a b : ℕ) → nat_cmp a b ≡ Less → (a == b) ≡ false
apart_from_Less a b h = grind (arith, nat_tests)

apart_from_Greater : (a b : ℕ) → nat_cmp a b ≡ Greater → (a == b) ≡ false
apart_from_Greater a b h = grind (arith, nat_tests)

same_from_Equal : (a b : ℕ) → nat_cmp a b ≡ Equal → (a == b) ≡ true
same_from_Equal a b h = grind (arith, nat_tests)

index_rises : (a b k : ℕ) → a ≤ b → ordering_index (nat_cmp a k) ≤ ordering_index (nat_cmp b k)
index_rises a b k h = grind (arith, nat_tests)

pub searchable : (ids : List ℕ) (id : ℕ) → IsStrictlySortedBy nat_cmp ids
    → IsNonDecreasingBy (λ y. ordering_index (nat_cmp y id)) ids
searchable ids id rising i j d h within =
    index_rises (get_or ids i d) (get_or ids j d) id (non_decreasing_from_sorted ids rising i j d h within)

none_has : (ids : List ℕ) (id : ℕ) → ((k d : ℕ) → k < length ids → (get_or ids k d == id) ≡ false) → has_id ids id ≡ false
none_has [] id h = refl
none_has (x ∷ ids) id h =
    ap (λ b. b || has_id ids id) (h 0 x (omega arith)) ∙ none_has ids id (λ k d l. h (suc k) d (omega arith))

pub has_id-missing : (ids : List ℕ) (id i : ℕ)
    → IsPartitionPoint (λ y. nat_cmp y id ≡ Less) (λ y. nat_cmp y id ≡ Greater) ids i → has_id ids id ≡ false
has_id-missing ids id i parts =
    none_has ids id (λ k d l. ⊎_elim
    (λ (less : k < i). apart_from_Less _ _ (parts.0 k d (omega arith) less))
    (λ (more : i ≤ k). apart_from_Greater _ _ (parts.1 k d more l))
    (cases_lt k i))

pub has_id-found : (ids : List ℕ) (id i : ℕ) → i < length ids → HoldsAt (λ y. nat_cmp y id ≡ Equal) ids i
    → has_id ids id ≡ true
has_id-found [] id i within here = absurd (omega (arith, within))
has_id-found (x ∷ ids) id zero within here = or_left (x == id) (has_id ids id) (same_from_Equal x id (here x))
has_id-found (x ∷ ids) id (suc i) within here =
    or_right (x == id) (has_id ids id) (has_id-found ids id i (omega (arith, within)) (λ d. here d))

pub slice_get-found : (ids : List ℕ) (id i : ℕ) → i < length ids → HoldsAt (λ y. nat_cmp y id ≡ Equal) ids i
    → slice_get ids i ≡ Some id
slice_get-found ids id i within here = slice_get-get_or ids i 0 within ∙ ap Some (exact_unsigned _ _ (here 0))
