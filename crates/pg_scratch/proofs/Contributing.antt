-- What is contributed to each place, one place after another.
use Rattle.std.proofs.Common.{◌≡◌, ℕ, ℤ, ◌+◌, ◌<◌, ◌≤◌, List, [], ◌∷◌, ◌++◌, length, map, drop, append_assoc, get_or, sym, ap, ◌∙◌, arith}
use Rattle.std.proofs.lemmas.List.{append-nil, drop_more}
use Rattle.std.proofs.Math.ListN.{drop_of_length-le}
use Rattle.pg_global.specs.Registry.{aggregating_of}
use Rattle.pg_global.specs.declared.registry.Registration.{Registration}
use Rattle.pg_model.specs.Superstep.{at_place, gathered_at, gathered_from}

module _ (registrations : List Registration) (values : List ℤ) (cs : List (ℕ × ℤ)) (same : length registrations ≡ length values) where
  -- what the places from this one on come to
  abbrev rest_from : ℕ → List ℤ
  rest_from i = gathered_from i (map aggregating_of (drop i registrations)) (drop i values) cs

  pub gathered-next : (done after : List ℤ) (i : ℕ) (r : Registration) (value : ℤ) → i < length registrations
      → after ≡ done ++ gathered_at (aggregating_of (get_or registrations i r)) (get_or values i value) (at_place i cs) ∷ []
      → done ++ rest_from i ≡ rest_from 0 → after ++ rest_from (i + 1) ≡ rest_from 0
  unfolding gathered_from
  gathered-next done after i r value inside pushed so_far =
      let here : Registration = get_or registrations i r in
      let first : ℤ = gathered_at (aggregating_of here) (get_or values i value) (at_place i cs) in
      let now : rest_from i ≡ first ∷ rest_from (i + 1) =
      ap (λ (l : List Registration). gathered_from i (map aggregating_of l) (drop i values) cs) (drop_more registrations i r inside)
      ∙ ap (λ (l : List ℤ). gathered_from i (map aggregating_of (here ∷ drop (i + 1) registrations)) l cs) (drop_more values i value (omega arith)) in
      ap (λ l. l ++ rest_from (i + 1)) pushed ∙ append_assoc done (first ∷ []) (rest_from (i + 1)) ∙ ap (λ l. done ++ l) (sym now) ∙ so_far

  pub gathered-all : (done : List ℤ) (i : ℕ) → length registrations ≤ i → done ++ rest_from i ≡ rest_from 0 → done ≡ rest_from 0
  unfolding gathered_from
  gathered-all done i past so_far =
      let none : rest_from i ≡ [] =
      ap (λ (l : List Registration). gathered_from i (map aggregating_of l) (drop i values) cs) (drop_of_length-le registrations past) in
      sym (append-nil done) ∙ ap (λ l. done ++ l) (sym none) ∙ so_far
