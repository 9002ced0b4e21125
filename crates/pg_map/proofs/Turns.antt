-- The turns of a merge: the next entry or the next change is dealt with.
use Rattle.std.proofs.Common.{◌≡◌, ℕ, ◌+◌, ◌<◌, ◌≤◌, List, [], ◌∷◌, ◌++◌, length, Option, Some, None, true, false, eqb, is_lt, cond, sym, ap, ◌∙◌}
use Rattle.std.proofs.Common.{subst, arith, append_assoc}
use Rattle.std.specs.Ordering.{nat_cmp, match_ordering}
use Rattle.std.specs.BTreeMap.{insert_entry, is_at}
use Rattle.std.specs.Map.{remove_entry}
use Rattle.std.proofs.lemmas.Bool.Decides.{nat_tests}
use Rattle.pg_map.specs.Entries.{HasRisingIds, ChangesRise, with_change, with_changes}
use Rattle.pg_map.proofs.Rising.{at_same}
use Rattle.pg_map.proofs.Parts.{From, is_equal, from_weaker, above_first, from_first, cut_none, change-left, changes-right}

-- what the tests of ids say
pub below_by : (a b : ℕ) → true ≡ is_lt (nat_cmp a b) → a < b
below_by a b h = grind (arith, nat_tests)

pub not_below_by : (a b : ℕ) → false ≡ is_lt (nat_cmp a b) → a < b → ⊥
not_below_by a b h less = absurd (grind (arith, nat_tests))

pub same_by : (a b : ℕ) → true ≡ eqb a b → a ≡ b
same_by a b h = grind (arith, nat_tests)

pub apart_by : (a b : ℕ) → false ≡ eqb a b → a ≡ b → ⊥
apart_by a b h same = absurd (grind (arith, nat_tests))

module _ {X : Type 0} (c : ℕ × Option X) (cs : List (ℕ × Option X)) (rise : ChangesRise (c ∷ cs)) where
  -- an entry below all changes stays
  pub passed : (e : ℕ × X) (es : List (ℕ × X)) → e.0 < c.0 → with_changes (c ∷ cs) (e ∷ es) ≡ e ∷ with_changes (c ∷ cs) es
  passed e es h = changes-right c.0 (c ∷ cs) (e ∷ []) es (h, tt) (from_first c cs rise)

  -- an entry at the first change makes no difference
  pub skipped : (e : ℕ × X) (es : List (ℕ × X)) → e.0 ≡ c.0 → HasRisingIds (e ∷ es) → with_changes (c ∷ cs) (e ∷ es) ≡ with_changes (c ∷ cs) es
  skipped e es same rising = ap (with_changes cs) (by c.1)
    where
      above : From (c.0 + 1) es
      above = subst (λ k. From (k + 1) es) same (above_first e es rising)

      within : c.0 < c.0 + 1
      within = omega arith

      by : (o : Option X) → with_change c.0 o (e ∷ es) ≡ with_change c.0 o es
      by None =
          ap (λ t. cond t es (e ∷ remove_entry (is_at (nat_cmp c.0)) es)) (ap (λ k. is_at (nat_cmp c.0) k) same ∙ at_same c.0)
          ∙ sym (cut_none c.0 (c.0 + 1) es within above)
      by (Some v) =
          ap (λ r. match_ordering r ((c.0, v) ∷ e ∷ es) ((e.0, v) ∷ es) (e ∷ insert_entry nat_cmp es c.0 v)) (ap (λ k. nat_cmp c.0 k) same ∙ is_equal c.0)
          ∙ ap (λ k. (k, v) ∷ es) same
          ∙ sym (change-left c.0 (c.0 + 1) (Some v) [] es within above)

  module _ (es : List (ℕ × X)) (above : From (c.0 + 1) es) where
    within : c.0 < c.0 + 1
    within = omega arith

    -- a value below all entries comes first
    pub put : (v : X) → c.1 ≡ Some v → with_changes (c ∷ cs) es ≡ (c.0, v) ∷ with_changes cs es
    put v is =
        ap (λ o. with_changes cs (with_change c.0 o es)) is
        ∙ ap (with_changes cs) (change-left c.0 (c.0 + 1) (Some v) [] es within above)
        ∙ changes-right (c.0 + 1) cs ((c.0, v) ∷ []) es (within, tt) (above_first c cs rise)

    -- a removal below all entries makes no difference
    pub removed : c.1 ≡ None → with_changes (c ∷ cs) es ≡ with_changes cs es
    removed is =
        ap (λ o. with_changes cs (with_change c.0 o es)) is
        ∙ ap (with_changes cs) (cut_none c.0 (c.0 + 1) es within above)

-- ---- the same of what is gathered so far

module _ {X : Type 0} (self self' : List (ℕ × X)) (todo cs : List (ℕ × Option X)) (c : ℕ × Option X) (remaining : List (ℕ × X)) (next : todo ≡ c ∷ cs)
    (rise : ChangesRise todo) where
  rising : ChangesRise (c ∷ cs)
  rising = subst ChangesRise next rise

  module _ (e : ℕ × X) (es : List (ℕ × X)) (at : remaining ≡ e ∷ es) where
    pub pass_turn : (v : X) → self' ≡ self ++ (e.0, v) ∷ [] → v ≡ e.1 → e.0 < c.0 → self' ++ with_changes todo es ≡ self ++ with_changes todo remaining
    pass_turn v grown same h =
        ap (λ l. l ++ with_changes todo es) grown
        ∙ append_assoc self ((e.0, v) ∷ []) (with_changes todo es)
        ∙ ap (λ x. self ++ (e.0, x) ∷ with_changes todo es) same
        ∙ ap (λ t. self ++ e ∷ with_changes t es) next
        ∙ ap (λ l. self ++ l) (sym (passed c cs rising e es h))
        ∙ sym (ap (λ t. self ++ with_changes t (e ∷ es)) next)
        ∙ sym (ap (λ l. self ++ with_changes todo l) at)

    pub skip_turn : e.0 ≡ c.0 → HasRisingIds remaining → self ++ with_changes todo es ≡ self ++ with_changes todo remaining
    skip_turn same entries_rise =
        ap (λ t. self ++ with_changes t es) next
        ∙ ap (λ l. self ++ l) (sym (skipped c cs rising e es same (subst HasRisingIds at entries_rise)))
        ∙ sym (ap (λ t. self ++ with_changes t (e ∷ es)) next)
        ∙ sym (ap (λ l. self ++ with_changes todo l) at)

    -- where the next entry isn't below the next change, nor at it
    pub from_entry : HasRisingIds remaining → (e.0 < c.0 → ⊥) → (e.0 ≡ c.0 → ⊥) → From (c.0 + 1) remaining
    from_entry entries_rise not_below not_at =
        let above : c.0 + 1 ≤ e.0 = omega arith in
        from_weaker (c.0 + 1) e.0 remaining above (subst (From e.0) (sym at) (from_first e es (subst HasRisingIds at entries_rise)))

  pub from_none : length remaining ≡ 0 → From (c.0 + 1) remaining
  from_none none = by remaining none
    where
      by : (l : List (ℕ × X)) → length l ≡ 0 → From (c.0 + 1) l
      by [] h = tt
      by (e ∷ es) h = absurd (omega arith)

  module _ (above : From (c.0 + 1) remaining) where
    pub put_turn : (u v : X) → c.1 ≡ Some u → v ≡ u → self' ≡ self ++ (c.0, v) ∷ [] → self' ++ with_changes cs remaining ≡ self ++ with_changes todo remaining
    put_turn u v is same grown =
        ap (λ l. l ++ with_changes cs remaining) grown
        ∙ append_assoc self ((c.0, v) ∷ []) (with_changes cs remaining)
        ∙ ap (λ x. self ++ (c.0, x) ∷ with_changes cs remaining) same
        ∙ ap (λ l. self ++ l) (sym (put c cs rising remaining above u is))
        ∙ sym (ap (λ t. self ++ with_changes t remaining) next)

    pub remove_turn : c.1 ≡ None → self ++ with_changes cs remaining ≡ self ++ with_changes todo remaining
    remove_turn is = ap (λ l. self ++ l) (sym (removed c cs rising remaining above is)) ∙ sym (ap (λ t. self ++ with_changes t remaining) next)
