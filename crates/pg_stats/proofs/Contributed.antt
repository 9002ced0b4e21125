-- What is gathered of contributions, with one more of them, and of none.
use Rattle.std.proofs.Common.{◌≡◌, ℕ, zero, suc, ℤ, ◌+◌, ◌<◌, ◌≤◌, Bool, cond, List, [], ◌∷◌, ◌++◌, length, map, take, drop, set, get_or}
use Rattle.std.proofs.Common.{append_assoc, None, Some, refl, sym, ap, ap₂, ◌∙◌, subst, arith, ◌⊎◌, inl, inr, add-one}
use Rattle.std.specs.Prelude.{◌==◌}
use Rattle.std.specs.List.{enumerate_from, slice_get}
use Rattle.std.specs.Option.{option_map}
use Rattle.std.proofs.lemmas.Bool.{eq-eqb, ne_eqb}
use Rattle.std.proofs.lemmas.List.{append-nil, drop_more, length-map}
use Rattle.std.proofs.lemmas.Option.{none-some}
use Rattle.std.proofs.Math.ListN.{drop_of_length-le}
use Rattle.std.proofs.lemmas.List.Sums.{fold_push}
use Rattle.pg_global.proofs.Contributed.{at_place-append}
use Rattle.pg_global.specs.Registry.{Registered, aggregating_of}
use Rattle.pg_global.specs.declared.registry.Registration.{Registration}
use Rattle.pg_model.specs.Job.{Aggregating}
use Rattle.pg_model.specs.Superstep.{at_place, gathered_at, gathered_from}
use Rattle.pg_stats.specs.GlobalStats.{aggregators_of}

module _ (k : ℕ) (v : ℤ) where
  -- a contribution to another place is none here
  at_place-other : (place : ℕ) (cs : List (ℕ × ℤ)) → (k ≡ place → ⊥) → at_place place (cs ++ (k, v) ∷ []) ≡ at_place place cs
  at_place-other place cs other =
      at_place-append place cs ((k, v) ∷ [])
      ∙ (ap (λ (b : Bool). at_place place cs ++ map (λ (c : ℕ × ℤ). c.1) (cond b ((k, v) ∷ []) [])) (ne_eqb k place other) ∙ append-nil (at_place place cs))

  -- and one to this place comes last
  at_place-same : (cs : List (ℕ × ℤ)) → at_place k (cs ++ (k, v) ∷ []) ≡ at_place k cs ++ v ∷ []
  at_place-same cs =
      at_place-append k cs ((k, v) ∷ []) ∙ ap (λ (b : Bool). at_place k cs ++ map (λ (c : ℕ × ℤ). c.1) (cond b ((k, v) ∷ []) [])) (eq-eqb k k refl)

  -- places past it gather the same
  gathered_from-later : (place : ℕ) (aggregators : List Aggregating) (values : List ℤ) (cs : List (ℕ × ℤ)) → k < place
      → gathered_from place aggregators values (cs ++ (k, v) ∷ []) ≡ gathered_from place aggregators values cs
  unfolding gathered_from
  gathered_from-later place [] values cs past = refl
  gathered_from-later place (a ∷ rest) [] cs past = refl
  gathered_from-later place (a ∷ rest) (value ∷ values) cs past =
      ap₂ ◌∷◌ (ap (gathered_at a value) (at_place-other place cs (λ e. omega (arith, e, past))))
      (gathered_from-later (place + 1) rest values cs (omega (arith, past)))

  -- where there's no such place all do
  pub gathered_from-past : (place j : ℕ) (aggregators : List Aggregating) (values : List ℤ) (cs : List (ℕ × ℤ)) → place + j ≡ k
      → length (gathered_from place aggregators values cs) ≤ j
      → gathered_from place aggregators values (cs ++ (k, v) ∷ []) ≡ gathered_from place aggregators values cs
  unfolding gathered_from
  gathered_from-past place j [] values cs e past = refl
  gathered_from-past place j (a ∷ rest) [] cs e past = refl
  gathered_from-past place zero (a ∷ rest) (value ∷ values) cs e past = absurd (omega (arith, past))
  gathered_from-past place (suc j) (a ∷ rest) (value ∷ values) cs e past =
      ap₂ ◌∷◌ (ap (gathered_at a value) (at_place-other place cs (λ same. omega (arith, e, same))))
      (gathered_from-past (place + 1) j rest values cs (omega (arith, e)) (omega (arith, past)))

  -- a contribution is gathered at its place
  pub gathered_from-push : (place j : ℕ) (aggregators : List Aggregating) (a : Aggregating) (values : List ℤ) (cs : List (ℕ × ℤ)) (d : ℤ) → place + j ≡ k
      → slice_get aggregators j ≡ Some a → j < length (gathered_from place aggregators values cs)
      → gathered_from place aggregators values (cs ++ (k, v) ∷ [])
      ≡ set (gathered_from place aggregators values cs) j (a.aggregate (get_or (gathered_from place aggregators values cs) j d) v)
  unfolding gathered_from
  gathered_from-push place j [] a values cs d e at within = absurd (omega (arith, within))
  gathered_from-push place j (b ∷ rest) a [] cs d e at within = absurd (omega (arith, within))
  gathered_from-push place zero (b ∷ rest) a (value ∷ values) cs d e at within =
      let same : place ≡ k = omega (arith, e) in
      let is : b ≡ a = (let h : Some b ≡ Some a = at in cc) in
      ap₂ ◌∷◌
      (ap (λ (p : ℕ). gathered_at b value (at_place p (cs ++ (k, v) ∷ []))) same
      ∙ (ap (gathered_at b value) (at_place-same cs)
      ∙ (fold_push b.aggregate (cond b.persistent value b.initial) (at_place k cs) v
      ∙ (ap (λ (p : ℕ). b.aggregate (gathered_at b value (at_place p cs)) v) (sym same)
      ∙ ap (λ (x : Aggregating). x.aggregate (gathered_at b value (at_place place cs)) v) is))))
      (gathered_from-later (place + 1) rest values cs (omega (arith, same)))
  gathered_from-push place (suc j) (b ∷ rest) a (value ∷ values) cs d e at within =
      ap₂ ◌∷◌ (ap (gathered_at b value) (at_place-other place cs (λ same. omega (arith, e, same))))
      (gathered_from-push (place + 1) j rest a values cs d (omega (arith, e)) at (omega (arith, within)))

-- no more is gathered than there are aggregators
pub length-gathered_from-le : (place : ℕ) (aggregators : List Aggregating) (values : List ℤ) (cs : List (ℕ × ℤ))
    → length (gathered_from place aggregators values cs) ≤ length aggregators
unfolding gathered_from
length-gathered_from-le place [] values cs = omega arith
length-gathered_from-le place (a ∷ rest) [] cs = omega arith
length-gathered_from-le place (a ∷ rest) (value ∷ values) cs = omega (arith, length-gathered_from-le (place + 1) rest values cs)

-- an aggregator of a registry is that of its registration
aggregators_of-at : (registered : Registered) (place : ℕ) (r : Registration) → option_map (λ e. e.1) (slice_get registered place) ≡ Some r
    → slice_get (aggregators_of registered) place ≡ Some (aggregating_of r)
aggregators_of-at [] place r h = let k : None ≡ Some r = h in cc
aggregators_of-at (e ∷ registered) zero r h = ap (λ x. Some (aggregating_of x)) (let k : Some e.1 ≡ Some r = h in cc)
aggregators_of-at (e ∷ registered) (suc place) r h = aggregators_of-at registered place r h

-- one more value is gathered at a place
pub gathered_at_place : (registered : Registered) (place : ℕ) (r : Registration) (before : List ℤ) (x y value : ℤ)
    → option_map (λ e. e.1) (slice_get registered place) ≡ Some r → x ≡ get_or before place x
    → y ≡ (aggregating_of r).aggregate x value → place < length before → (visible : List ℤ) (contributed : List (ℕ × ℤ))
    → before ≡ gathered_from 0 (aggregators_of registered) visible contributed
    → set before place y ≡ gathered_from 0 (aggregators_of registered) visible (contributed ++ (place, value) ∷ [])
gathered_at_place registered place r before x y value at here is within visible contributed so_far =
    let all : List ℤ = gathered_from 0 (aggregators_of registered) visible contributed in
    let inside : place < length all = subst (λ (l : List ℤ). place < length l) so_far within in
    ap (set before place) (is ∙ ap (λ (z : ℤ). (aggregating_of r).aggregate z value) here)
    ∙ ap (λ (l : List ℤ). set l place ((aggregating_of r).aggregate (get_or l place x) value)) so_far
    ∙ sym (gathered_from-push place value 0 place (aggregators_of registered) (aggregating_of r) visible contributed x
    (omega arith) (aggregators_of-at registered place r at) inside)

-- where there is no such place nothing changes
pub gathered_nowhere : (registered : Registered) (place : ℕ) (before : List ℤ) (value : ℤ) → ((length registered ≤ place) ⊎ (length before ≤ place))
    → (visible : List ℤ) (contributed : List (ℕ × ℤ)) → before ≡ gathered_from 0 (aggregators_of registered) visible contributed
    → before ≡ gathered_from 0 (aggregators_of registered) visible (contributed ++ (place, value) ∷ [])
gathered_nowhere registered place before value past visible contributed so_far =
    so_far ∙ sym (gathered_from-past place value 0 place (aggregators_of registered) visible contributed (omega arith) (elim past [
      | inl none ↦ omega (
        arith,
        none,
        length-gathered_from-le 0 (aggregators_of registered) visible contributed,
        length-map registered (λ (e : List ℕ × Registration). aggregating_of e.1),
      )
      | inr none ↦ subst (λ (l : List ℤ). length l ≤ place) so_far none
    ]))

enumerate_from-more : (n : ℕ) (xs : List ℤ) (i : ℕ) (d : ℤ) → i < length xs
    → enumerate_from n (take (suc i) xs) ≡ enumerate_from n (take i xs) ++ (n + i, get_or xs i d) ∷ []
enumerate_from-more n [] i d within = absurd (omega (arith, within))
enumerate_from-more n (x ∷ xs) zero d within = ap (λ (m : ℕ). (m, x) ∷ []) (omega arith)
enumerate_from-more n (x ∷ xs) (suc i) d within =
    ap (λ l. (n, x) ∷ l) (enumerate_from-more (n + 1) xs i d (omega (arith, within))
    ∙ ap (λ (m : ℕ). enumerate_from (n + 1) (take i xs) ++ (m, get_or xs i d) ∷ []) (omega arith))

-- so are the values of one partition, one after another
pub gathered_more : (registered : Registered) (values before after first : List ℤ) (i : ℕ) (v d : ℤ) → i < length values → v ≡ get_or values i d
    → ((visible : List ℤ) (contributed : List (ℕ × ℤ)) → first ≡ gathered_from 0 (aggregators_of registered) visible contributed
    → before ≡ gathered_from 0 (aggregators_of registered) visible (contributed ++ enumerate_from 0 (take i values)))
    → ((visible : List ℤ) (contributed : List (ℕ × ℤ)) → before ≡ gathered_from 0 (aggregators_of registered) visible contributed
    → after ≡ gathered_from 0 (aggregators_of registered) visible (contributed ++ (i, v) ∷ []))
    → (visible : List ℤ) (contributed : List (ℕ × ℤ)) → first ≡ gathered_from 0 (aggregators_of registered) visible contributed
    → after ≡ gathered_from 0 (aggregators_of registered) visible (contributed ++ enumerate_from 0 (take (i + 1) values))
gathered_more registered values before after first i v d within is so_far step visible contributed begun =
    let done : List (ℕ × ℤ) = enumerate_from 0 (take i values) in
    step visible (contributed ++ done) (so_far visible contributed begun)
    ∙ ap (gathered_from 0 (aggregators_of registered) visible)
    (append_assoc contributed done ((i, v) ∷ [])
    ∙ ap (λ l. contributed ++ l)
    (ap (λ (x : ℤ). done ++ (i, x) ∷ []) is
    ∙ (ap (λ (m : ℕ). done ++ (m, get_or values i d) ∷ []) (omega arith)
    ∙ (sym (enumerate_from-more 0 values i d within) ∙ ap (λ (m : ℕ). enumerate_from 0 (take m values)) (sym (add-one i))))))

-- ---- as a superstep begins to be gathered

module _ (registered : Registered) (visible : List ℤ) where
  -- what the places from this one on start with
  abbrev start_from : ℕ → List ℤ
  start_from i = gathered_from i (aggregators_of (drop i registered)) (drop i visible) []

  drop_at : (l : Registered) (i : ℕ) (r : Registration) → option_map (λ e. e.1) (slice_get l i) ≡ Some r
      → (e : List ℕ × Registration) × (e.1 ≡ r) × (drop i l ≡ e ∷ drop (suc i) l)
  drop_at [] i r h = absurd (let k : None ≡ Some r = h in none-some r k)
  drop_at (e ∷ l) zero r h = (e, (let k : Some e.1 ≡ Some r = h in cc), refl)
  drop_at (e ∷ l) (suc i) r h = drop_at l i r h

  pub started-next : (done after : List ℤ) (i : ℕ) (r : Registration) (value d : ℤ) → option_map (λ e. e.1) (slice_get registered i) ≡ Some r
      → i < length visible → value ≡ gathered_at (aggregating_of r) (get_or visible i d) []
      → after ≡ done ++ value ∷ [] → done ++ start_from i ≡ start_from 0 → after ++ start_from (i + 1) ≡ start_from 0
  unfolding gathered_from
  started-next done after i r value d at within is pushed so_far =
      let here = drop_at registered i r at in
      let now : start_from i ≡ value ∷ start_from (i + 1) =
      ap (λ (l : Registered). gathered_from i (aggregators_of l) (drop i visible) []) (here.2 ∙ ap (λ (m : ℕ). here.0 ∷ drop m registered) (sym (add-one i)))
      ∙ (ap (λ (l : List ℤ). gathered_from i (aggregators_of (here.0 ∷ drop (i + 1) registered)) l []) (drop_more visible i d within)
      ∙ ap (λ x. x ∷ start_from (i + 1)) (ap (λ (x : Registration). gathered_at (aggregating_of x) (get_or visible i d) []) here.1 ∙ sym is)) in
      ap (λ l. l ++ start_from (i + 1)) pushed ∙ (append_assoc done (value ∷ []) (start_from (i + 1)) ∙ (ap (λ l. done ++ l) (sym now) ∙ so_far))

  pub started-all : (done : List ℤ) (i : ℕ) → length registered ≤ i → done ++ start_from i ≡ start_from 0 → done ≡ start_from 0
  unfolding gathered_from
  started-all done i past so_far =
      let none : start_from i ≡ [] = ap (λ (l : Registered). gathered_from i (aggregators_of l) (drop i visible) []) (drop_of_length-le registered past) in
      sym (append-nil done) ∙ (ap (λ l. done ++ l) (sym none) ∙ so_far)
