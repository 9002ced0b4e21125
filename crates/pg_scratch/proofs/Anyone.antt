-- Whether anyone is active, by a list of the places of active vertices.
use Rattle.std.proofs.Common.{◌≡◌, ℕ, zero, suc, ◌+◌, ◌<◌, ◌≤◌, Bool, true, false, not, ◌&&◌, List, [], ◌∷◌, length, get_or, None, Some, ⊎_elim, refl}
use Rattle.std.proofs.Common.{sym, ap, ◌∙◌, arith}
use Rattle.std.specs.List.{slice_get, list_all}
use Rattle.std.proofs.lemmas.Bool.{cases_Bool, cases_lt}
use Rattle.pg_model.specs.Superstep.{is_active}
use Rattle.pg_model.specs.declared.configuration.VertexWithInbox.{VertexWithInbox}
use Rattle.pg_scratch.specs.Worklist.{ListsActive}
use Rattle.pg_scratch.proofs.LawsPlaces.{element}
use Rattle.pg_model.proofs.LawsListed.{has_id-get_or, listed_place}

and_false : (a b : Bool) → b ≡ false → (a && b) ≡ false
and_false true b h = h
and_false false b h = refl

module _ {V M : Type 0} where
  all_idle : (xs : List (VertexWithInbox V M)) → ((i : ℕ) (x : VertexWithInbox V M) → slice_get xs i ≡ Some x → is_active x ≡ false)
      → list_all (λ x. not (is_active x)) xs ≡ true
  all_idle [] h = refl
  all_idle (x ∷ xs) h = ap (λ b. not b && list_all (λ y. not (is_active y)) xs) (h 0 x refl) ∙ all_idle xs (λ i y at. h (suc i) y at)

  some_active : (xs : List (VertexWithInbox V M)) (i : ℕ) (x : VertexWithInbox V M) → slice_get xs i ≡ Some x → is_active x ≡ true
      → list_all (λ x. not (is_active x)) xs ≡ false
  some_active [] i x at active = let k : None ≡ Some x = at in cc
  some_active (y ∷ xs) zero x at active =
      let same : y ≡ x = (let k : Some y ≡ Some x = at in cc) in
      ap (λ b. not b && list_all (λ z. not (is_active z)) xs) (ap is_active same ∙ active)
  some_active (y ∷ xs) (suc i) x at active = and_false (not (is_active y)) (list_all (λ z. not (is_active z)) xs) (some_active xs i x at active)

  pub anyone_active : (xs : List (VertexWithInbox V M)) (work : List ℕ) (k : ℕ) (found : Bool) → ListsActive xs work
      → k < length work → found ≡ true
      → ((x : VertexWithInbox V M) → slice_get xs (get_or work k 0) ≡ Some x → found ≡ is_active x)
      → true ≡ not (list_all (λ x. not (is_active x)) xs)
  anyone_active xs work k found lists inside passes is =
      let f = element xs (get_or work k 0) (lists.within (get_or work k 0) (has_id-get_or work k 0 inside)) in
      sym (ap not (some_active xs (get_or work k 0) f.0 f.1 (sym (is f.0 f.1) ∙ passes)))

  pub nobody_active : (xs : List (VertexWithInbox V M)) (work : List ℕ) (k : ℕ) → ListsActive xs work → length work ≤ k
      → ((j : ℕ) (x : VertexWithInbox V M) → j < k → slice_get xs (get_or work j 0) ≡ Some x → is_active x ≡ false)
      → false ≡ not (list_all (λ x. not (is_active x)) xs)
  nobody_active xs work k lists done idle =
      sym (ap not (all_idle xs (λ i x at.
      ⊎_elim
      (λ active.
      let w = listed_place work i (lists.covers i x at active) in
      idle w.0 x (omega (arith, w.1)) (ap (slice_get xs) w.2 ∙ at))
      (λ still. still)
      (cases_Bool (is_active x)))))

  -- one place more was looked at
  pub idle_more : (xs : List (VertexWithInbox V M)) (work : List ℕ) (k : ℕ) (found : Bool)
      → ((j : ℕ) (x : VertexWithInbox V M) → j < k → slice_get xs (get_or work j 0) ≡ Some x → is_active x ≡ false)
      → ((x : VertexWithInbox V M) → slice_get xs (get_or work k 0) ≡ Some x → found ≡ is_active x) → found ≡ false
      → (j : ℕ) (x : VertexWithInbox V M) → j < k + 1 → slice_get xs (get_or work j 0) ≡ Some x → is_active x ≡ false
  idle_more xs work k found so_far is fails j x less at =
      ⊎_elim
      (λ (l : j < k). so_far j x l at)
      (λ (l : k ≤ j). let same : j ≡ k = omega arith in sym (is x (ap (λ (n : ℕ). slice_get xs (get_or work n 0)) (sym same) ∙ at)) ∙ fails)
      (cases_lt j k)
