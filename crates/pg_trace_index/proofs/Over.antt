-- Notes over a map: what an index of both has of an id.
use Rattle.std.proofs.Common.{◌≡◌, ℕ, Bool, true, false, cond, List, Option, Some, unwrap_or, refl, sym, ap, ◌∙◌, subst, ⊎_elim}
use Rattle.std.specs.BTreeMap.{insert_entry, is_at}
use Rattle.std.specs.Ordering.{nat_cmp}
use Rattle.std.proofs.lemmas.Bool.{cases_eq}
use Rattle.pg_map.specs.Entries.{ChangesRise, HasRisingIds, value_at, with_changes}
use Rattle.pg_map.proofs.Changing.{value_at-with_changes}
use Rattle.pg_map.proofs.Rising.{at_other, at_same, find-insert_other, find-insert_same, rises-insert}
use Rattle.pg_trace_index.specs.Occurrences.{IsNotedOf, steps_in, with_ran}

module _ (base : List (ℕ × List ℕ)) (overlay : List (ℕ × Option (List ℕ))) (rising : HasRisingIds base) (rise : ChangesRise overlay) where
  -- a note is what there is of its id, and else what the map has
  pub over : (id : ℕ) (o : Option (Option (List ℕ))) → value_at id overlay ≡ o → value_at id (with_changes overlay base) ≡ unwrap_or o (value_at id base)
  over id o is = value_at-with_changes overlay base id rise rising ∙ ap (λ n. unwrap_or n (value_at id base)) is

  put : (id q : ℕ) (steps : Option (List ℕ))
      → value_at q (insert_entry nat_cmp overlay id steps) ≡ cond (is_at (nat_cmp id) q) (Some steps) (value_at q overlay)
  put id q steps =
      ⊎_elim
      (λ (same : q ≡ id). subst (λ k. value_at k (insert_entry nat_cmp overlay id steps) ≡ cond (is_at (nat_cmp id) k) (Some steps) (value_at k overlay)) (sym same)
      (find-insert_same overlay id steps ∙ sym (ap (λ b. cond b (Some steps) (value_at id overlay)) (at_same id))))
      (λ (other : q ≡ id → ⊥). find-insert_other overlay id steps q other
      ∙ sym (ap (λ b. cond b (Some steps) (value_at q overlay)) (at_other id q (λ e. other (sym e)))))
      (cases_eq q id)

  -- a note more, or another in its place
  pub noted_over : (overlay' : List (ℕ × Option (List ℕ))) (id s : ℕ) (runs : Bool) (before steps : Option (List ℕ))
      → overlay' ≡ insert_entry nat_cmp overlay id steps → value_at id (with_changes overlay base) ≡ before → steps_in steps ≡ with_ran s runs (steps_in before)
      → IsNotedOf id s runs (with_changes overlay base) (with_changes overlay' base)
  noted_over overlay' id s runs before steps now was is q =
      ap steps_in
      (value_at-with_changes overlay' base q (subst ChangesRise (sym now) (rises-insert overlay id steps rise)) rising
      ∙ ap (λ l. unwrap_or (value_at q l) (value_at q base)) now ∙ ap (λ o. unwrap_or o (value_at q base)) (put id q steps))
      ∙ by (is_at (nat_cmp id) q)
    where
      by : (b : Bool) → steps_in (unwrap_or (cond b (Some steps) (value_at q overlay)) (value_at q base))
          ≡ cond b (with_ran s runs (steps_in (value_at id (with_changes overlay base)))) (steps_in (value_at q (with_changes overlay base)))
      by true = is ∙ ap (λ o. with_ran s runs (steps_in o)) (sym was)
      by false = ap steps_in (sym (over q (value_at q overlay) refl))

-- a note that says nothing new
pub noted_same : (id s : ℕ) (runs : Bool) (ran : List (ℕ × List ℕ)) → with_ran s runs (steps_in (value_at id ran)) ≡ steps_in (value_at id ran)
    → IsNotedOf id s runs ran ran
noted_same id s runs ran same q =
    let noted = with_ran s runs (steps_in (value_at id ran)) in
    ⊎_elim
    (λ (e : q ≡ id). subst (λ k. steps_in (value_at k ran) ≡ cond (is_at (nat_cmp id) k) noted (steps_in (value_at k ran))) (sym e)
    (sym (ap (λ b. cond b noted (steps_in (value_at id ran))) (at_same id) ∙ same)))
    (λ (other : q ≡ id → ⊥). sym (ap (λ b. cond b noted (steps_in (value_at q ran))) (at_other id q (λ e. other (sym e)))))
    (cases_eq q id)
