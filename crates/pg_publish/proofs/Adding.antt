-- The exchange that adds an entry keeps the rule.
use Rattle.std.proofs.Common.{◌≡◌, ℕ, ◌+◌, ◌<◌, ◌==◌, Bool, true, false, List, [], ◌∷◌, ◌++◌, length, refl, ap, sym, subst, arith, inl, length-append, None}
use Rattle.std.proofs.lemmas.List.{append-nil}
use Rattle.std.proofs.lemmas.Bool.Decides.{nat_tests}
use mathlib.Core.List.{IsPrefix}
use prog.Atomic.{either}
use Rattle.logbook.specs.Pages.{Cell, cell, keeps, no_nib, step, Moves, Goes}
use Rattle.pg_publish.specs.History.{Counts, Lengthens}
use Rattle.pg_publish.proofs.Fronts.{prefix_whole}

module _ {E : Type 0} where
  -- what clients see of the history, and how a step moves it
  abbrev pub shown : List E → List E
  shown list = []

  abbrev pub moved : List E → List E → ℕ → Type 0
  moved xs ys n = Unit {0}

  -- the exchange of the length `old` for the next, by one who has seen this list and adds this entry
  abbrev Exchanges : (seen : List E) (entry : E) (old : ℕ) → List Cell → List E → Type 0
  Exchanges seen entry old =
      Goes Counts shown moved 0 (seen, (no_nib, None)) (λ n. either (n == old) (old + 1) n)
      (Lengthens (step 0 old (old + 1) entry) (seen, (no_nib, None)))

  -- where the length is the one that was seen, the entry goes behind all that was seen; else nothing changes
  goes : (list seen : List E) (entry : E) (old : ℕ) → length seen ≡ old → IsPrefix seen list → (b : Bool) → (length list == old) ≡ b
      → Exchanges seen entry old ((length list, true) ∷ (0, true) ∷ []) list
  goes list seen entry old len pre true is =
      let here : length list ≡ old = grind (arith, nat_tests) in
      let same : seen ≡ list = prefix_whole seen list pre (omega arith) in
      let n : either (length list == old) (old + 1) (length list) ≡ length (list ++ entry ∷ []) =
      rw is (omega (arith, length-append list (entry ∷ []))) in (
        keeps,
        entry ∷ [],
        None,
        tt,
        ap (λ (k : ℕ). (k, true) ∷ (0, true) ∷ []) n,
        inl (refl, refl),
        rw is (ap (λ w. w ++ entry ∷ []) (sym same)),
      )
  goes list seen entry old len pre false is =
      let n : either (length list == old) (old + 1) (length list) ≡ length (list ++ []) = rw is (ap length (sym (append-nil list))) in (
        keeps,
        [],
        None,
        tt,
        ap (λ (k : ℕ). (k, true) ∷ (0, true) ∷ []) n,
        inl (refl, refl),
        rw is tt,
      )

  -- whatever the history is, the exchange adds the entry to all that was seen, or finds another length
  pub adds_moves : (seen : List E) (entry : E) (old : ℕ) → length seen ≡ old
      → Moves Counts shown moved 0 (seen, (no_nib, None)) (λ n. either (n == old) (old + 1) n)
      (Lengthens (step 0 old (old + 1) entry) (seen, (no_nib, None)))
  adds_moves seen entry old len cells list kept pre away =
      let P : List Cell → Type 0 = λ c. (0 < length c) × ((cell c 0).1 ≡ true) × Exchanges seen entry old c list in
      subst P (sym kept) (omega arith, refl, goes list seen entry old len pre (length list == old) refl)
