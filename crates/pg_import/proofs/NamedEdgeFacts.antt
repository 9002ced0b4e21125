-- Edges that stand once: which of them are there, with one more or one more named.
use Rattle.std.proofs.Common.{◌≡◌, ℕ, zero, suc, ◌<◌, ◌≤◌, ◌⊎◌, inl, inr, Bool, true, false, ◌&&◌, cond, List, [], ◌∷◌, ◌++◌, Some, refl, ap}
use Rattle.std.proofs.Common.{sym, ◌∙◌, subst, arith, slice_set, ◌+◌, length, get_or, take}
use Rattle.std.specs.BTreeMap.{is_at}
use Rattle.std.specs.List.{AllByRecursion, slice_get}
use Rattle.std.specs.Ordering.{nat_cmp}
use Rattle.std.proofs.lemmas.Bool.{cases_Bool, true≢false}
use Rattle.std.proofs.lemmas.List.{take_more}
use Rattle.std.proofs.lemmas.Option.{slice_get-get_or}
use Rattle.pg_import.proofs.Graphs.{cmp-refl, is_at-sym, same_from_is_at}
use Rattle.std.proofs.lemmas.Option.{same_Some}
use Rattle.pg_import.specs.NamedEdges.{AreBefore, AreDistinct, AreThereAs, IsApart, StandsAt, is_edge, there_in}
use Rattle.pg_import.specs.declared.named_edges.NamedEdge.{NamedEdge}

-- ---- tests of numbers
is_at-self : (k : ℕ) → is_at (nat_cmp k) k ≡ true
is_at-self k = rw (cmp-refl k) refl

is_at-apart : (k q : ℕ) → (k ≡ q → ⊥) → is_at (nat_cmp k) q ≡ false
is_at-apart k q apart = elim (cases_Bool (is_at (nat_cmp k) q)) [
  | inl there ↦ absurd (apart (same_from_is_at k q there))
  | inr not_there ↦ not_there
]

and-false : (b : Bool) → (b && false) ≡ false
and-false true = refl
and-false false = refl

-- ---- edges
is_edge-self : (edge : NamedEdge) → is_edge edge.source edge.target edge ≡ true
is_edge-self edge = rw (is_at-self edge.source, is_at-self edge.target) refl

is_edge-sym : (x y : NamedEdge) → is_edge x.source x.target y ≡ is_edge y.source y.target x
is_edge-sym x y = rw (is_at-sym y.source x.source, is_at-sym y.target x.target) refl

-- an edge that comes before is another one
apart_before : (edge : NamedEdge) (from to source target : ℕ) → (edge.source < from) ⊎ ((edge.source ≡ from) × (edge.target < to))
    → (from < source) ⊎ ((from ≡ source) × (to ≤ target)) → is_edge source target edge ≡ false
apart_before edge from to source target (inl below) (inl past) = rw (is_at-apart edge.source source (λ e. omega (arith, below, past, e))) refl
apart_before edge from to source target (inl below) (inr past) =
    rw (is_at-apart edge.source source (λ e. omega (arith, below, past.0, e))) refl
apart_before edge from to source target (inr at) (inl past) = rw (is_at-apart edge.source source (λ e. omega (arith, at.0, past, e))) refl
apart_before edge from to source target (inr at) (inr past) =
    rw (is_at-apart edge.target target (λ e. omega (arith, at.1, past.1, e))) (and-false (is_at (nat_cmp edge.source) source))

pub IsApart-before : (edges : List NamedEdge) (from to source target : ℕ) → AreBefore from to edges
    → (from < source) ⊎ ((from ≡ source) × (to ≤ target)) → IsApart source target edges
IsApart-before [] from to source target before past = tt
IsApart-before (e ∷ es) from to source target before past =
    (apart_before e from to source target before.0 past, IsApart-before es from to source target before.1 past)

-- ---- what holds of all edges holds with one more, or one in the place of another
module _ (P : NamedEdge → Type 0) where
  all_at : (es : List NamedEdge) (i : ℕ) (e : NamedEdge) → AllByRecursion P es → slice_get es i ≡ Some e → P e
  all_at [] i e all at = cc at
  all_at (x ∷ xs) zero e all at = subst P (same_Some _ _ at) all.0
  all_at (x ∷ xs) (suc i) e all at = all_at xs i e all.1 at

  all_push : (es : List NamedEdge) (e : NamedEdge) → AllByRecursion P es → P e → AllByRecursion P (es ++ e ∷ [])
  all_push [] e all more = (more, tt)
  all_push (x ∷ xs) e all more = (all.0, all_push xs e all.1 more)

  all_set : (es : List NamedEdge) (i : ℕ) (e : NamedEdge) → AllByRecursion P es → P e → AllByRecursion P (slice_set es i e)
  all_set [] i e all more = tt
  all_set (x ∷ xs) zero e all more = (more, all.1)
  all_set (x ∷ xs) (suc i) e all more = (all.0, all_set xs i e all.1 more)

-- ---- an edge at a place is the one that is looked for, or another one
and-both : (b c : Bool) → (b && c) ≡ true → (b ≡ true) × (c ≡ true)
and-both true c both = (refl, both)
and-both false c both = absurd (true≢false (sym both))

pub stands_at : (s t : ℕ) (es : List NamedEdge) (i : ℕ) {e : NamedEdge} → i < length es → e ≡ get_or es i e → is_edge s t e ≡ true → StandsAt s t es i
stands_at s t es i {e} within is there =
    let both = and-both (is_at (nat_cmp e.source) s) (is_at (nat_cmp e.target) t) there in
    (e, slice_get-get_or es i e within ∙ ap (λ x. Some x) (sym is), same_from_is_at e.source s both.0, same_from_is_at e.target t both.1)

pub IsApart-more : (s t : ℕ) (es : List NamedEdge) (i : ℕ) {e : NamedEdge} → i < length es → e ≡ get_or es i e → IsApart s t (take i es)
    → is_edge s t e ≡ false → IsApart s t (take (i + 1) es)
IsApart-more s t es i {e} within is all apart =
    subst (IsApart s t) (sym (take_more es i e within ∙ ap (λ x. take i es ++ x ∷ []) (sym is)))
    (all_push (λ x. is_edge s t x ≡ false) (take i es) e all apart)

-- ---- an edge apart from all is there as elsewhere
pub there_in-apart : (s t : ℕ) (elsewhere : Bool) (es : List NamedEdge) → IsApart s t es → there_in s t elsewhere es ≡ elsewhere
there_in-apart s t elsewhere [] all = refl
there_in-apart s t elsewhere (x ∷ xs) all = rw all.0 (there_in-apart s t elsewhere xs all.1)

-- an edge that stands there is there if it says so
pub there_at : (elsewhere : Bool) (es : List NamedEdge) (i : ℕ) (e : NamedEdge) → AreDistinct es → slice_get es i ≡ Some e
    → there_in e.source e.target elsewhere es ≡ e.there
there_at elsewhere [] i e distinct at = cc at
there_at elsewhere (x ∷ xs) zero e distinct at =
    subst (λ y. there_in y.source y.target elsewhere (x ∷ xs) ≡ y.there) (same_Some _ _ at) (rw (is_edge-self x) refl)
there_at elsewhere (x ∷ xs) (suc i) e distinct at =
    rw (is_edge-sym e x ∙ all_at (λ y. is_edge x.source x.target y ≡ false) xs i e distinct.0 at) (there_at elsewhere xs i e distinct.1 at)

-- ---- an edge more, or one in the place of the same edge
-- of two different edges either may be looked at first
either_first : (x e : NamedEdge) → is_edge x.source x.target e ≡ false → (s t : ℕ) (a b c : Bool)
    → cond (is_edge s t x) a (cond (is_edge s t e) b c) ≡ cond (is_edge s t e) b (cond (is_edge s t x) a c)
either_first x e apart s t a b c = elim (cases_Bool (is_edge s t x)) [
  | inl there ↦
      let both = and-both (is_at (nat_cmp x.source) s) (is_at (nat_cmp x.target) t) there in
      let other : is_edge s t e ≡ false =
      rw (same_from_is_at x.source s both.0, same_from_is_at x.target t both.1) at apart in
      rw (there, other) refl
  | inr not_there ↦ rw not_there refl
]

pub there_in-push : (e : NamedEdge) (es : List NamedEdge) → IsApart e.source e.target es → (s t : ℕ) (elsewhere : Bool)
    → there_in s t elsewhere (es ++ e ∷ []) ≡ cond (is_edge s t e) e.there (there_in s t elsewhere es)
there_in-push e [] apart s t elsewhere = refl
there_in-push e (x ∷ xs) apart s t elsewhere =
    ap (cond (is_edge s t x) x.there) (there_in-push e xs apart.1 s t elsewhere)
    ∙ either_first x e (is_edge-sym x e ∙ apart.0) s t x.there e.there (there_in s t elsewhere xs)

pub there_in-set : (e : NamedEdge) (es : List NamedEdge) (i : ℕ) (old : NamedEdge) (s t : ℕ) (elsewhere : Bool) → AreDistinct es
    → slice_get es i ≡ Some old → old.source ≡ e.source → old.target ≡ e.target
    → there_in s t elsewhere (slice_set es i e) ≡ cond (is_edge s t e) e.there (there_in s t elsewhere es)
there_in-set e [] i old s t elsewhere distinct at source target = cc at
there_in-set e (x ∷ xs) zero old s t elsewhere distinct at source target =
    let same : is_edge s t x ≡ is_edge s t e = rw (same_Some _ _ at, source, target) refl in
    rw same (elim (cases_Bool (is_edge s t e)) [ inl there ↦ rw there refl | inr apart ↦ rw apart refl ])
there_in-set e (x ∷ xs) (suc i) old s t elsewhere distinct at source target =
    let apart : is_edge x.source x.target e ≡ false =
    rw (source, target) at (all_at (λ y. is_edge x.source x.target y ≡ false) xs i old distinct.0 at) in
    ap (cond (is_edge s t x) x.there) (there_in-set e xs i old s t elsewhere distinct.1 at source target)
    ∙ either_first x e apart s t x.there e.there (there_in s t elsewhere xs)

-- ---- what entries say is so, also with one more of which it is
pub AreThereAs-push : (has : ℕ → ℕ → Bool) (e : NamedEdge) (es : List NamedEdge) → IsApart e.source e.target es → e.there ≡ has e.source e.target
    → AreThereAs has es → AreThereAs has (es ++ e ∷ [])
AreThereAs-push has e es apart is so s t = there_in-push e es apart s t (has s t) ∙ elim (cases_Bool (is_edge s t e)) [
  | inl there ↦
      let both = and-both (is_at (nat_cmp e.source) s) (is_at (nat_cmp e.target) t) there in
      rw there (is ∙ rw (same_from_is_at e.source s both.0, same_from_is_at e.target t both.1) refl)
  | inr not_there ↦ rw not_there (so s t)
]

-- ---- none stands twice
pub AreDistinct-set : (es : List NamedEdge) (i : ℕ) (old e : NamedEdge) → AreDistinct es → slice_get es i ≡ Some old
    → old.source ≡ e.source → old.target ≡ e.target → AreDistinct (slice_set es i e)
AreDistinct-set [] i old e distinct at source target = tt
AreDistinct-set (x ∷ xs) zero old e distinct at source target =
    (rw (ap (λ y. y.source) (same_Some _ _ at) ∙ source, ap (λ y. y.target) (same_Some _ _ at) ∙ target) at distinct.0, distinct.1)
AreDistinct-set (x ∷ xs) (suc i) old e distinct at source target =
    let apart : is_edge x.source x.target e ≡ false =
    rw (source, target) at (all_at (λ y. is_edge x.source x.target y ≡ false) xs i old distinct.0 at) in (
      all_set (λ y. is_edge x.source x.target y ≡ false) xs i e distinct.0 apart,
      AreDistinct-set xs i old e distinct.1 at source target,
    )

pub AreDistinct-push : (es : List NamedEdge) (e : NamedEdge) → AreDistinct es → IsApart e.source e.target es → AreDistinct (es ++ e ∷ [])
AreDistinct-push [] e distinct apart = (tt, tt)
AreDistinct-push (x ∷ xs) e distinct apart =
    (all_push (λ y. is_edge x.source x.target y ≡ false) xs e distinct.0 (is_edge-sym x e ∙ apart.0), AreDistinct-push xs e distinct.1 apart.1)

-- ---- all come before
later : (from to source target : ℕ) → (from < source) ⊎ ((from ≡ source) × (to ≤ target)) → (e : NamedEdge)
    → (e.source < from) ⊎ ((e.source ≡ from) × (e.target < to)) → (e.source < source) ⊎ ((e.source ≡ source) × (e.target < target + 1))
later from to source target (inl past) e (inl below) = inl (omega (arith, past, below))
later from to source target (inr past) e (inl below) = inl (omega (arith, past.0, below))
later from to source target (inl past) e (inr at) = inl (omega (arith, past, at.0))
later from to source target (inr past) e (inr at) = inr (at.0 ∙ past.0, omega (arith, past.1, at.1))

pub AreBefore-push : (es : List NamedEdge) (from to : ℕ) (e : NamedEdge) → AreBefore from to es
    → (from < e.source) ⊎ ((from ≡ e.source) × (to ≤ e.target)) → AreBefore e.source (e.target + 1) (es ++ e ∷ [])
AreBefore-push [] from to e before past = (inr (refl, omega arith), tt)
AreBefore-push (x ∷ xs) from to e before past =
    (later from to e.source e.target past x before.0, AreBefore-push xs from to e before.1 past)
