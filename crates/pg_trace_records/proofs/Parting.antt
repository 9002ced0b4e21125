-- Records whose parts lie in lists that grow.
use Rattle.std.proofs.Common.{◌≡◌, ◌<◌, ℕ, ℤ, zero, suc, Bool, cond, List, [], ◌∷◌, ◌++◌, length, get_or, take, drop, Option, None, Some, unwrap_or}
use Rattle.std.proofs.Common.{refl, sym, ap, ap₂, ◌∙◌, subst, subst₂, arith, length-append, length-drop, is_some, option_map}
use Rattle.std.proofs.Math.Seq.{drop-append_seam, take-length}
use Rattle.std.specs.BTreeMap.{is_at}
use Rattle.std.specs.List.{HoldsAt}
use Rattle.std.specs.List.Sorted.{IsStrictlySortedBy}
use Rattle.std.specs.Map.{keys_of}
use Rattle.std.specs.Ordering.{nat_cmp}
use Rattle.std.specs.declared.cmp.Ordering.TheVariants.{Equal}
use Rattle.std.proofs.lemmas.List.{drop-append-le, map-append, take-append-le}
use Rattle.pg_map.specs.Entries.{ChangesRise, value_at}
use Rattle.pg_map.proofs.Filling.{all_pushed}
use Rattle.pg_map.proofs.Search.{lookup_found}
use Rattle.pg_model.specs.declared.record.Record.{Record}
use Rattle.pg_trace_records.specs.RecordChanges.{given_to, given_flags}
use Rattle.pg_trace_records.specs.Parts.{AreWithin, IsPart, IsWithin, changes_in, part_of, record_in}
use Rattle.pg_trace_records.specs.declared.changes.Executed.{Executed}
use Rattle.pg_trace_records.specs.declared.changes.Extent.{Extent}

module _ {X : Type 0} (xs ys : List X) (part : Extent) where
  -- a part of a list is the same part of a longer one
  part_stays : IsPart part xs → part_of part (xs ++ ys) ≡ part_of part xs
  part_stays within =
      ap (take part.count) (drop-append-le part.first xs ys (omega (arith, within)))
      ∙ take-append-le part.count (drop part.first xs) ys (omega (arith, within, length-drop part.first xs))

  part_longer : IsPart part xs → IsPart part (xs ++ ys)
  part_longer within = omega (arith, within, length-append xs ys)

  -- the part of what was added
  module _ (first : part.first ≡ length xs) (count : part.count ≡ length ys) where
    part_added : part_of part (xs ++ ys) ≡ ys
    part_added = ap₂ (λ k n. take n (drop k (xs ++ ys))) first count ∙ ap (take (length ys)) (drop-append_seam xs ys) ∙ take-length ys

    is_added : IsPart part (xs ++ ys)
    is_added = omega (arith, first, count, length-append xs ys)

module _ {V M : Type 0} (sent more : List (ℕ × M)) (contributed extra : List (ℕ × ℤ)) where
  abbrev made : Executed V → List (ℕ × M) → List (ℕ × ℤ) → Record V M
  made produced a b = record { value = produced.value; edges = produced.edges; halted = produced.halted; sent = a; contributed = b }

  longer : (entries : List (ℕ × Option (Executed V))) → AreWithin sent contributed entries
      → changes_in (sent ++ more) (contributed ++ extra) entries ≡ changes_in sent contributed entries
  longer [] within = refl
  longer ((id, None) ∷ entries) within = ap (λ l. (id, None) ∷ l) (longer entries within.1)
  longer ((id, Some produced) ∷ entries) within =
      ap₂ (λ r l. (id, Some r) ∷ l)
      (ap₂ (made produced) (part_stays sent more produced.sent within.0.0) (part_stays contributed extra produced.contributed within.0.1)) (longer entries within.1)

  within_one : (produced : Option (Executed V)) → IsWithin sent contributed produced → IsWithin (sent ++ more) (contributed ++ extra) produced
  within_one None within = tt
  within_one (Some produced) within =
      (part_longer sent more produced.sent within.0, part_longer contributed extra produced.contributed within.1)

  within_all : (entries : List (ℕ × Option (Executed V))) → AreWithin sent contributed entries → AreWithin (sent ++ more) (contributed ++ extra) entries
  within_all [] within = tt
  within_all (e ∷ entries) within = (within_one e.1 within.0, within_all entries within.1)

  module _ (entries : List (ℕ × Option (Executed V))) {sent' : List (ℕ × M)} {contributed' : List (ℕ × ℤ)}
      (within : AreWithin sent contributed entries) (sends : sent' ≡ (sent ++ more)) (contributes : contributed' ≡ (contributed ++ extra)) where
    grown : AreWithin sent' contributed' entries
    grown = subst₂ (λ a b. AreWithin a b entries) (sym sends) (sym contributes) (within_all entries within)

    -- the lists have grown, and the entries stay
    pub within_grown : {entries' : List (ℕ × Option (Executed V))} → entries' ≡ entries → AreWithin sent' contributed' entries'
    within_grown same = subst (AreWithin sent' contributed') (sym same) grown

    -- and with what one more has left
    module _ (id : ℕ) (produced : Executed V) {entries' : List (ℕ × Option (Executed V))} (pushed : entries' ≡ entries ++ (id, Some produced) ∷ [])
        (sent_first : produced.sent.first ≡ length sent) (sent_count : produced.sent.count ≡ length more)
        (contributed_first : produced.contributed.first ≡ length contributed) (contributed_count : produced.contributed.count ≡ length extra) where
      is_one : IsWithin sent' contributed' (Some produced)
      is_one = subst₂ (λ a b. IsWithin a b (Some produced)) (sym sends) (sym contributes)
          (is_added sent more produced.sent sent_first sent_count, is_added contributed extra produced.contributed contributed_first contributed_count)

      pub within_added : AreWithin sent' contributed' entries'
      within_added = all_pushed (λ e. IsWithin sent' contributed' e.1) entries grown pushed is_one

      pub one_added : {before : List (ℕ × Option (Record V M))} → changes_in sent contributed entries ≡ before
          → changes_in sent' contributed' entries'
          ≡ before ++ (id, Some (record { value = produced.value; edges = produced.edges; halted = produced.halted; sent = more; contributed = extra })) ∷ []
      one_added was =
          ap (changes_in sent' contributed') pushed ∙ ap₂ (λ a b. changes_in a b (entries ++ (id, Some produced) ∷ [])) sends contributes
          ∙ map-append (λ e. (e.0, option_map (record_in (sent ++ more) (contributed ++ extra)) e.1)) entries ((id, Some produced) ∷ [])
          ∙ ap₂ (λ l r. l ++ (id, Some r) ∷ []) (longer entries within ∙ was)
          (ap₂ (made produced) (part_added sent more produced.sent sent_first sent_count) (part_added contributed extra produced.contributed contributed_first contributed_count))

module _ {V M : Type 0} (sent : List (ℕ × M)) (contributed : List (ℕ × ℤ)) where
  -- ---- the ids of changes are those of the entries

  keys_in : (entries : List (ℕ × Option (Executed V))) → keys_of (changes_in sent contributed entries) ≡ keys_of entries
  keys_in [] = refl
  keys_in (e ∷ entries) = ap (λ l. e.0 ∷ l) (keys_in entries)

  stated_left : (produced : Option (Executed V)) → is_some produced ≡ is_some (option_map (record_in sent contributed) produced)
  stated_left None = refl
  stated_left (Some produced) = refl

  pub stated_in : (entries : List (ℕ × Option (Executed V))) → given_flags entries ≡ given_flags (changes_in sent contributed entries)
  stated_in [] = refl
  stated_in (e ∷ entries) = ap₂ (λ b l. (e.0, b) ∷ l) (stated_left e.1) (stated_in entries)

  key_at : (entries : List (ℕ × Option (Executed V))) (place : ℕ) (d : ℕ × Option (Record V M)) (e : ℕ × Option (Executed V)) → place < length entries
      → (get_or (changes_in sent contributed entries) place d).0 ≡ (get_or entries place e).0
  key_at [] place d e within = absurd (omega (arith, within))
  key_at (x ∷ entries) zero d e within = refl
  key_at (x ∷ entries) (suc place) d e within = key_at entries place d e (omega (arith, within))

  pub length_in : (entries : List (ℕ × Option (Executed V))) → length (changes_in sent contributed entries) ≡ length entries
  length_in [] = refl
  length_in (e ∷ entries) = ap suc (length_in entries)

  found_in : (entries : List (ℕ × Option (Executed V))) (id : ℕ) → value_at id entries ≡ None → value_at id (changes_in sent contributed entries) ≡ None
  found_in [] id none = refl
  found_in (e ∷ entries) id none = by (is_at (nat_cmp id) e.0) none (found_in entries id)
    where
      by : (b : Bool) → cond b (Some e.1) (value_at id entries) ≡ None
          → (value_at id entries ≡ None → value_at id (changes_in sent contributed entries) ≡ None)
          → cond b (Some (option_map (record_in sent contributed) e.1)) (value_at id (changes_in sent contributed entries)) ≡ None
      by Bool.true h later = absurd cc
      by Bool.false h later = later h

  module _ (entries : List (ℕ × Option (Executed V))) {now : List (ℕ × Option (Record V M))} (are : changes_in sent contributed entries ≡ now) where
    pub entries_rise : ChangesRise now → ChangesRise entries
    entries_rise rise = subst (IsStrictlySortedBy nat_cmp) (ap keys_of (sym are) ∙ keys_in entries) rise

    pub given_missing : (id : ℕ) → value_at id entries ≡ None → None ≡ given_to id now
    given_missing id none = sym (ap (λ o. unwrap_or o None) (ap (value_at id) (sym are) ∙ found_in entries id none))

    pub given_found : (id place : ℕ) (d : ℕ × Option (Record V M)) → ChangesRise now → place < length entries
        → HoldsAt (λ e. nat_cmp e.0 id ≡ Equal) entries place → (get_or now place d).1 ≡ given_to id now
    given_found id place d rise within here =
        sym (ap (λ o. unwrap_or o None) (lookup_found now id place d rise (subst (λ n. place < n) (sym (length_in entries) ∙ ap length are) within)
        (λ e. subst (λ k. nat_cmp k id ≡ Equal) (sym (key_at entries place e (0, None) within) ∙ ap (λ l. (get_or l place e).0) are) (here (0, None)))))

    pub places_in : given_flags entries ≡ given_flags now
    places_in = stated_in entries ∙ ap given_flags are
