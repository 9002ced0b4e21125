-- Vertices found by their ids.
use Rattle.std.proofs.Common.{◌≡◌, ℕ, Bool, true, false, cond, ◌==◌, List, [], ◌∷◌, map, Some, option_map, refl, ap, sym, ◌∙◌, arith, Contains}
use Rattle.std.specs.Ordering.{nat_cmp}
use Rattle.std.specs.declared.cmp.Ordering.TheVariants.{Less}
use Rattle.std.specs.List.{AllByRecursion}
use Rattle.std.specs.List.Sorted.{IsStrictlySortedBy}
use Rattle.std.proofs.lemmas.Bool.{eqb-true, eq-eqb}
use Rattle.std.proofs.lemmas.Bool.Decides.{nat_tests}
use Rattle.std.proofs.lemmas.List.Elements.{All-from_recursion, All-contains}
use Rattle.std.proofs.lemmas.Option.{none-some, same_Some}
use Rattle.pg_model.proofs.LawsLists.{all_both, all_from_map, contains_later}
use Rattle.pg_model.specs.Superstep.{ids}
use Rattle.pg_model.specs.Needed.{with_inbox_at}
use Rattle.pg_model.specs.declared.configuration.VertexWithInbox.{VertexWithInbox}

apart : (a b : ℕ) → nat_cmp a b ≡ Less → (a == b) ≡ false
apart a b e = grind (arith, nat_tests)

module _ {V M : Type 0} where
  -- what leaves each vertex its id is found where the vertex was
  pub with_inbox_at-map : (f : VertexWithInbox V M → VertexWithInbox V M) → ((x : VertexWithInbox V M) → (f x).state.id ≡ x.state.id)
      → (id : ℕ) (xs : List (VertexWithInbox V M)) → with_inbox_at id (map f xs) ≡ option_map f (with_inbox_at id xs)
  with_inbox_at-map f k id [] = refl
  with_inbox_at-map f k id (x ∷ xs) =
      ap (λ (n : ℕ). cond (n == id) (Some (f x)) (with_inbox_at id (map f xs))) (k x) ∙ by (x.state.id == id) (with_inbox_at-map f k id xs)
    where
      by : (b : Bool) → with_inbox_at id (map f xs) ≡ option_map f (with_inbox_at id xs)
          → cond b (Some (f x)) (with_inbox_at id (map f xs)) ≡ option_map f (cond b (Some x) (with_inbox_at id xs))
      by true e = refl
      by false e = e

  -- the vertex found by an id has that id, and is there
  pub with_inbox_is : (id : ℕ) (xs : List (VertexWithInbox V M)) (x : VertexWithInbox V M) → with_inbox_at id xs ≡ Some x → (x.state.id ≡ id) × Contains xs x
  with_inbox_is id [] x e = absurd (none-some x e)
  with_inbox_is id (y ∷ ys) x e = by (y.state.id == id) refl e (with_inbox_is id ys x)
    where
      by : (b : Bool) → (y.state.id == id) ≡ b → cond b (Some y) (with_inbox_at id ys) ≡ Some x
          → (with_inbox_at id ys ≡ Some x → (x.state.id ≡ id) × Contains ys x) → (x.state.id ≡ id) × Contains (y ∷ ys) x
      by true t e' later =
          let same : y ≡ x = same_Some y x e' in (sym (ap (λ (z : VertexWithInbox V M). z.state.id) same) ∙ eqb-true y.state.id id t, (0, omega arith, same))
      by false t e' later = let r = later e' in (r.0, contains_later y x ys r.1)

  -- where ids rise, each vertex is found by its id
  pub found_by_id : (xs : List (VertexWithInbox V M)) → IsStrictlySortedBy nat_cmp (ids xs) → AllByRecursion (λ x. with_inbox_at x.state.id xs ≡ Some x) xs
  unfolding IsStrictlySortedBy
  found_by_id [] h = tt
  found_by_id (x ∷ xs) h = (
    ap (λ (b : Bool). cond b (Some x) (with_inbox_at x.state.id xs)) (eq-eqb x.state.id x.state.id refl),
    all_both (λ (y : VertexWithInbox V M). nat_cmp x.state.id y.state.id ≡ Less) (λ (y : VertexWithInbox V M). with_inbox_at y.state.id xs ≡ Some y)
        (λ (y : VertexWithInbox V M). with_inbox_at y.state.id (x ∷ xs) ≡ Some y)
        (λ y less at. ap (λ (b : Bool). cond b (Some x) (with_inbox_at y.state.id xs)) (apart x.state.id y.state.id less) ∙ at) xs
        (all_from_map (λ (y : VertexWithInbox V M). y.state.id) (λ (n : ℕ). nat_cmp x.state.id n ≡ Less) xs h.0) (found_by_id xs h.1),
  )

  -- the same of one of them
  pub with_inbox_at-Contains : (xs : List (VertexWithInbox V M)) (x : VertexWithInbox V M) → IsStrictlySortedBy nat_cmp (ids xs) → Contains xs x
      → with_inbox_at x.state.id xs ≡ Some x
  with_inbox_at-Contains xs x h at =
      All-contains (λ (y : VertexWithInbox V M). with_inbox_at y.state.id xs ≡ Some y) xs x
      (All-from_recursion (λ (y : VertexWithInbox V M). with_inbox_at y.state.id xs ≡ Some y) xs (found_by_id xs h)) at
