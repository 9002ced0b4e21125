-- What changes make of entries, by look-ups.
use Rattle.std.proofs.Common.{◌≡◌, ◌==◌, ℕ, true, false, List, [], ◌∷◌, Option, None, Some, refl, sym, ap, ◌∙◌, ⊎_elim, unwrap_or}
use Rattle.std.specs.Ordering.{nat_cmp}
use Rattle.std.specs.BTreeMap.{insert_entry, is_at}
use Rattle.std.specs.List.{list_any}
use Rattle.std.specs.Map.{keys_of, remove_entry}
use Rattle.std.proofs.lemmas.Bool.{cases_eq, eqb-false, or_parts}
use Rattle.std.proofs.lemmas.Map.Entries.{lookup_head, lookup_tail}
use Rattle.std.proofs.lemmas.Map.Keys.{sorted_tail}
use Rattle.pg_map.specs.Entries.{ChangesRise, HasRisingIds, value_at, with_change, with_changes}
use Rattle.pg_map.proofs.Rising.{find, at_same, at_other, none_past, same_entries, find-insert_same, find-insert_other, find-remove_same}
use Rattle.pg_map.proofs.Rising.{find-remove_other, rises-insert, rises-remove}

module _ {V : Type 0} where
  -- ---- one change

  pub rises-change : (id : ℕ) (change : Option V) (entries : List (ℕ × V)) → HasRisingIds entries → HasRisingIds (with_change id change entries)
  rises-change id None entries rising = rises-remove id entries rising
  rises-change id (Some value) entries rising = rises-insert entries id value rising

  pub change_same : (id : ℕ) (change : Option V) (entries : List (ℕ × V)) → HasRisingIds entries → value_at id (with_change id change entries) ≡ change
  change_same id None entries rising = find-remove_same entries id rising
  change_same id (Some value) entries rising = find-insert_same entries id value

  pub change_other : (id : ℕ) (change : Option V) (entries : List (ℕ × V)) (q : ℕ) → (q ≡ id → ⊥)
      → value_at q (with_change id change entries) ≡ value_at q entries
  change_other id None entries q apart = find-remove_other entries id q apart
  change_other id (Some value) entries q apart = find-insert_other entries id value q apart

  -- ---- all changes

  pub rises-changes : (changes : List (ℕ × Option V)) (entries : List (ℕ × V)) → HasRisingIds entries → HasRisingIds (with_changes changes entries)
  rises-changes [] entries rising = rising
  rises-changes (change ∷ changes) entries rising =
      rises-changes changes (with_change change.0 change.1 entries) (rises-change change.0 change.1 entries rising)

  -- an id has what the changes say of it, and else what it had
  pub value_at-with_changes : (changes : List (ℕ × Option V)) (entries : List (ℕ × V)) (q : ℕ) → ChangesRise changes → HasRisingIds entries
      → value_at q (with_changes changes entries) ≡ unwrap_or (find q changes) (value_at q entries)
  value_at-with_changes [] entries q apart rising = refl
  value_at-with_changes (change ∷ changes) entries q apart rising =
      let id = change.0 in
      let next = with_change id change.1 entries in
      let later = value_at-with_changes changes next q (sorted_tail nat_cmp id (keys_of changes) apart) (rises-change id change.1 entries rising) in
      later
      ∙ ⊎_elim
      (λ (e : q ≡ id).
      let here : is_at (nat_cmp q) id ≡ true = ap (λ k. is_at (nat_cmp k) id) e ∙ at_same id in
      ap (λ o. unwrap_or o (value_at q next)) (none_past q change changes apart here)
      ∙ ap (λ k. value_at k next) e ∙ change_same id change.1 entries rising
      ∙ sym (ap (λ o. unwrap_or o (value_at q entries)) (lookup_head (is_at (nat_cmp q)) change changes here)))
      (λ (n : q ≡ id → ⊥).
      ap (λ o. unwrap_or (find q changes) o) (change_other id change.1 entries q n)
      ∙ sym (ap (λ o. unwrap_or o (value_at q entries)) (lookup_tail (is_at (nat_cmp q)) change changes (at_other q id n))))
      (cases_eq q id)

  -- an id that no change names has what it had
  pub unchanged_at : (changes : List (ℕ × Option V)) (entries : List (ℕ × V)) (q : ℕ) → list_any (λ id. id == q) (keys_of changes) ≡ false
      → value_at q (with_changes changes entries) ≡ value_at q entries
  unchanged_at [] entries q h = refl
  unchanged_at (change ∷ changes) entries q h =
      let parts = or_parts (change.0 == q) (list_any (λ id. id == q) (keys_of changes)) h in
      unchanged_at changes (with_change change.0 change.1 entries) q parts.1
      ∙ change_other change.0 change.1 entries q (λ e. eqb-false change.0 q parts.0 (sym e))

  -- one more change
  pub with_changes-insert : (changes : List (ℕ × Option V)) (entries : List (ℕ × V)) (id : ℕ) (change : Option V) → ChangesRise changes → HasRisingIds entries
      → with_changes (insert_entry nat_cmp changes id change) entries ≡ with_change id change (with_changes changes entries)
  with_changes-insert changes entries id change apart rising =
      let changes' = insert_entry nat_cmp changes id change in
      let now = with_changes changes entries in
      let now_rises = rises-changes changes entries rising in
      let apart' = rises-insert changes id change apart in
      same_entries (with_changes changes' entries) (with_change id change now) (rises-changes changes' entries rising) (rises-change id change now now_rises)
      (λ q. value_at-with_changes changes' entries q apart' rising
      ∙ ⊎_elim
      (λ (e : q ≡ id).
      ap (λ o. unwrap_or o (value_at q entries)) (ap (λ k. find k changes') e ∙ find-insert_same changes id change)
      ∙ sym (ap (λ k. value_at k (with_change id change now)) e ∙ change_same id change now now_rises))
      (λ (n : q ≡ id → ⊥).
      ap (λ o. unwrap_or o (value_at q entries)) (find-insert_other changes id change q n)
      ∙ sym (value_at-with_changes changes entries q apart rising)
      ∙ sym (change_other id change now q n))
      (cases_eq q id))

  -- what is taken out and put back is replaced
  pub insert-remove : (changes : List (ℕ × Option V)) (id : ℕ) (change : Option V) → ChangesRise changes
      → insert_entry nat_cmp (remove_entry (is_at (nat_cmp id)) changes) id change ≡ insert_entry nat_cmp changes id change
  insert-remove changes id change apart =
      let cut = remove_entry (is_at (nat_cmp id)) changes in
      same_entries (insert_entry nat_cmp cut id change) (insert_entry nat_cmp changes id change)
      (rises-insert cut id change (rises-remove id changes apart)) (rises-insert changes id change apart)
      (λ q. ⊎_elim
      (λ (e : q ≡ id). ap (λ k. find k (insert_entry nat_cmp cut id change)) e ∙ find-insert_same cut id change
      ∙ sym (ap (λ k. find k (insert_entry nat_cmp changes id change)) e ∙ find-insert_same changes id change))
      (λ (n : q ≡ id → ⊥). find-insert_other cut id change q n ∙ find-remove_other changes id q n ∙ sym (find-insert_other changes id change q n))
      (cases_eq q id))
