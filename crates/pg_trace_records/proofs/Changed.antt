-- Records with changes over those that were given.
use Rattle.std.proofs.Common.{◌≡◌, ℕ, ◌<◌, length, get_or, ◌==◌, ◌||◌, Bool, true, false, cond, List, [], ◌∷◌, ◌++◌, map, Option, None, Some, unwrap_or}
use Rattle.std.proofs.Common.{refl, sym, ap, ◌∙◌, subst, arith, true≢false, option_map, not}
use Rattle.std.specs.BTreeMap.{is_at}
use Rattle.std.specs.List.{filter}
use Rattle.std.specs.List.Sorted.{IsStrictlySortedBy}
use Rattle.std.specs.Map.{keys_of}
use Rattle.std.specs.Ordering.{nat_cmp}
use Rattle.std.proofs.lemmas.Bool.Decides.{nat_tests}
use Rattle.std.proofs.lemmas.List.{map-append}
use Rattle.std.proofs.lemmas.Option.{slice_get-get_or}
use Rattle.std.proofs.lemmas.List.Concat.{flat_map-append}
use Rattle.std.proofs.lemmas.List.Elements.{filter-append}
use Rattle.pg_map.specs.Entries.{ChangesRise, HasRisingIds, value_at, with_changes, somes}
use Rattle.pg_map.proofs.Changing.{rises-changes, value_at-with_changes}
use Rattle.pg_map.proofs.Rising.{same_entries}
use Rattle.pg_model.specs.Superstep.{has_id}
use Rattle.pg_model.specs.declared.record.Record.{Record}
use Rattle.pg_trace_records.specs.RecordChanges.{given_at, given_to, given_flags}
use Rattle.pg_trace_records.specs.Records.{unhalted_after, contributions_of}
use Rattle.pg_map.proofs.Somes.{nothing_rises, somes-append, somes_rise, value_at-somes}

at_test : (q k : ℕ) → is_at (nat_cmp q) k ≡ (k == q)
at_test q k = grind (arith, nat_tests)

same_id : (k q : ℕ) → (k == q) ≡ true → k ≡ q
same_id k q h = grind (arith, nat_tests)

has_either : (xs ys : List ℕ) (q : ℕ) → has_id (xs ++ ys) q ≡ (has_id xs q || has_id ys q)
has_either [] ys q = refl
has_either (x ∷ xs) ys q = ap (λ b. (x == q) || b) (has_either xs ys q) ∙ by (x == q)
  where
    by : (b : Bool) → (b || (has_id xs q || has_id ys q)) ≡ ((b || has_id xs q) || has_id ys q)
    by true = refl
    by false = refl

neither : (a b : Bool) → (a || b) ≡ false → (a ≡ false) × (b ≡ false)
neither true b h = absurd (true≢false h)
neither false b h = (refl, h)

stated_keys : {Y : Type 0} (places : List (ℕ × Option Y)) → keys_of (given_flags places) ≡ keys_of places
stated_keys [] = refl
stated_keys (p ∷ places) = ap (λ l. p.0 ∷ l) (stated_keys places)

module _ {X : Type 0} where
  abbrev pub each_some : List (ℕ × X) → List (ℕ × Option X)
  each_some changes = map (λ c. (c.0, Some c.1)) changes

  at_some : (changes : List (ℕ × X)) (q : ℕ) → value_at q (each_some changes) ≡ option_map Some (value_at q changes)
  at_some [] q = refl
  at_some (c ∷ changes) q = by (is_at (nat_cmp q) c.0) (at_some changes q)
    where
      by : (b : Bool) → value_at q (each_some changes) ≡ option_map Some (value_at q changes)
          → cond b (Some (Some c.1)) (value_at q (each_some changes)) ≡ option_map Some (cond b (Some c.1) (value_at q changes))
      by true later = refl
      by false later = later

  keys_some : (changes : List (ℕ × X)) → keys_of (each_some changes) ≡ keys_of changes
  keys_some [] = refl
  keys_some (c ∷ changes) = ap (λ l. c.0 ∷ l) (keys_some changes)

  pub some_rise : (changes : List (ℕ × X)) → HasRisingIds changes → ChangesRise (each_some changes)
  some_rise changes rise = subst (IsStrictlySortedBy nat_cmp) (sym (keys_some changes)) rise

  somes_some : (changes : List (ℕ × X)) → somes (each_some changes) ≡ changes
  somes_some [] = refl
  somes_some (c ∷ changes) = ap (λ l. c ∷ l) (somes_some changes)

module _ {X : Type 0} where
  -- what is given by changes, and by changes over these
  pub given_rises : (given : List (ℕ × Option X)) → HasRisingIds (with_changes given [])
  given_rises given = rises-changes given [] (nothing_rises X)

  pub value_given : (given : List (ℕ × Option X)) → ChangesRise given → (q : ℕ) → value_at q (with_changes given []) ≡ given_to q given
  value_given given rise q = value_at-with_changes given [] q rise (nothing_rises X)

  pub value_over : (over : List (ℕ × Option X)) (base : List (ℕ × X)) (q : ℕ) {o : Option (Option X)} {x : Option X} → ChangesRise over → HasRisingIds base
      → value_at q over ≡ o → value_at q base ≡ x → unwrap_or o x ≡ value_at q (with_changes over base)
  value_over over base q {o} rise rises is there =
      sym (value_at-with_changes over base q rise rises ∙ ap (λ n. unwrap_or n (value_at q base)) is ∙ ap (λ x. unwrap_or o x) there)

  -- changes over changes over entries
  pub changed_over : (changes over : List (ℕ × Option X)) (base : List (ℕ × X)) → ChangesRise changes → ChangesRise over → HasRisingIds base
      → with_changes (with_changes (each_some changes) over) base ≡ with_changes changes (with_changes over base)
  changed_over changes over base rise over_rise rises =
      same_entries (with_changes (with_changes (each_some changes) over) base) (with_changes changes (with_changes over base))
      (rises-changes (with_changes (each_some changes) over) base rises) (rises-changes changes (with_changes over base) both)
      (λ q. value_at-with_changes (with_changes (each_some changes) over) base q (rises-changes (each_some changes) over over_rise) rises
      ∙ ap (λ o. unwrap_or o (value_at q base)) (value_at-with_changes (each_some changes) over q (some_rise changes rise) over_rise
      ∙ ap (λ o. unwrap_or o (value_at q over)) (at_some changes q)) ∙ by q (value_at q changes)
      ∙ sym (value_at-with_changes changes (with_changes over base) q rise both
      ∙ ap (λ x. unwrap_or (value_at q changes) x) (value_at-with_changes over base q over_rise rises)))
    where
      both : HasRisingIds (with_changes over base)
      both = rises-changes over base rises

      by : (q : ℕ) (o : Option (Option X)) → unwrap_or (unwrap_or (option_map Some o) (value_at q over)) (value_at q base)
          ≡ unwrap_or o (unwrap_or (value_at q over) (value_at q base))
      by q None = refl
      by q (Some x) = refl

  pub somes_given : (given : List (ℕ × Option X)) → ChangesRise given → somes given ≡ with_changes given []
  somes_given given rise =
      same_entries (somes given) (with_changes given []) (somes_rise given rise) (given_rises given)
      (λ q. value_at-somes given rise q ∙ sym (value_given given rise q))

  pub kept_rise : (over given : List (ℕ × Option X)) {now : List (ℕ × X)} → with_changes over (with_changes given []) ≡ now → HasRisingIds now
  kept_rise over given is = subst HasRisingIds is (rises-changes over (with_changes given []) (given_rises given))

  -- who is given something stands in the same order
  pub stated_rise : {Y : Type 0} (places : List (ℕ × Option Y)) (changes : List (ℕ × Option X)) → given_flags places ≡ given_flags changes → ChangesRise changes → ChangesRise places
  stated_rise places changes same rise =
      subst (IsStrictlySortedBy nat_cmp) (sym (stated_keys changes) ∙ ap keys_of (sym same) ∙ stated_keys places) rise

  -- what the change at a place gives
  pub given_there : (place : ℕ) (changes : List (ℕ × Option X)) {x : ℕ × Option X} → place < length changes → x ≡ get_or changes place x
      → given_at place changes ≡ x.1
  given_there place changes {x} within is =
      ap (λ o. elim o [ None ↦ None | Some change ↦ change.1 ]) (slice_get-get_or changes place x within) ∙ ap (λ e. e.1) (sym is)

  pub given_some : (records : List (ℕ × X)) → HasRisingIds records → with_changes (each_some records) [] ≡ records
  given_some records rise = sym (somes_given (each_some records) (some_rise records rise)) ∙ somes_some records

  -- ---- entries that are looked up one by one

  abbrev pub looked_up : List (ℕ × X) → List ℕ → List (ℕ × Option X)
  looked_up entries ids = map (λ id. (id, value_at id entries)) ids

  module _ (entries : List (ℕ × X)) where
    keys_looked : (ids : List ℕ) → keys_of (looked_up entries ids) ≡ ids
    keys_looked [] = refl
    keys_looked (id ∷ ids) = ap (λ l. id ∷ l) (keys_looked ids)

    at_looked : (ids : List ℕ) (q : ℕ) → value_at q (looked_up entries ids) ≡ cond (has_id ids q) (Some (value_at q entries)) None
    at_looked [] q = refl
    at_looked (id ∷ ids) q = ap (λ b. cond b (Some (value_at id entries)) (value_at q (looked_up entries ids))) (at_test q id) ∙ by (id == q) refl (at_looked ids q)
      where
        by : (b : Bool) → (id == q) ≡ b → value_at q (looked_up entries ids) ≡ cond (has_id ids q) (Some (value_at q entries)) None
            → cond b (Some (value_at id entries)) (value_at q (looked_up entries ids)) ≡ cond (b || has_id ids q) (Some (value_at q entries)) None
        by true same later = ap (λ k. Some (value_at k entries)) (same_id id q same)
        by false other later = later

    -- where no other id has one, these are all
    pub all_looked : (ids : List ℕ) → IsStrictlySortedBy nat_cmp ids → HasRisingIds entries → ((id : ℕ) → has_id ids id ≡ false → value_at id entries ≡ None)
        → somes (looked_up entries ids) ≡ entries
    all_looked ids rise rises others =
        same_entries (somes (looked_up entries ids)) entries (somes_rise (looked_up entries ids) looked_rise) rises
        (λ q. value_at-somes (looked_up entries ids) looked_rise q ∙ ap (λ o. unwrap_or o None) (at_looked ids q) ∙ by q (has_id ids q) refl)
      where
        looked_rise : ChangesRise (looked_up entries ids)
        looked_rise = subst (IsStrictlySortedBy nat_cmp) (sym (keys_looked ids)) rise

        by : (q : ℕ) (b : Bool) → has_id ids q ≡ b → unwrap_or (cond b (Some (value_at q entries)) None) None ≡ value_at q entries
        by q true e = refl
        by q false e = sym (others q e)

  -- ---- the ids of both

  none_at : (entries : List (ℕ × X)) (q : ℕ) → has_id (keys_of entries) q ≡ false → value_at q entries ≡ None
  none_at [] q h = refl
  none_at (e ∷ entries) q h = ap (λ b. cond b (Some e.1) (value_at q entries)) (at_test q e.0) ∙ by (e.0 == q) h (none_at entries q)
    where
      by : (b : Bool) → (b || has_id (keys_of entries) q) ≡ false → (has_id (keys_of entries) q ≡ false → value_at q entries ≡ None)
          → cond b (Some e.1) (value_at q entries) ≡ None
      by true k later = absurd (true≢false k)
      by false k later = later k

module _ {X Y : Type 0} (xs : List (ℕ × X)) (ys : List (ℕ × Y)) (ids ordered : List ℕ) (are : ids ≡ keys_of xs ++ keys_of ys)
    (same : (id : ℕ) → has_id ordered id ≡ has_id ids id) (q : ℕ) (none : has_id ordered q ≡ false) where
  in_neither : (has_id (keys_of xs) q ≡ false) × (has_id (keys_of ys) q ≡ false)
  in_neither =
      neither (has_id (keys_of xs) q) (has_id (keys_of ys) q)
      (sym (has_either (keys_of xs) (keys_of ys) q) ∙ ap (λ l. has_id l q) (sym are) ∙ sym (same q) ∙ none)

  pub not_first : value_at q xs ≡ None
  not_first = none_at xs q in_neither.0

  pub not_second : value_at q ys ≡ None
  not_second = none_at ys q in_neither.1

module _ {V M : Type 0} where
  pub unhalted_after-append : (xs ys : List (ℕ × Record V M)) → unhalted_after (xs ++ ys) ≡ unhalted_after xs ++ unhalted_after ys
  unhalted_after-append xs ys =
      let unhalted : ℕ × Record V M → Bool = λ r. not r.1.halted in
      ap (map (λ r. r.0)) (filter-append unhalted xs ys) ∙ map-append (λ r. r.0) (filter unhalted xs) (filter unhalted ys)

  pub unhalted-append : (xs ys : List (ℕ × Option (Record V M))) → unhalted_after (somes (xs ++ ys)) ≡ unhalted_after (somes xs) ++ unhalted_after (somes ys)
  unhalted-append xs ys = ap unhalted_after (somes-append xs ys) ∙ unhalted_after-append (somes xs) (somes ys)

  pub contributions-append : (xs ys : List (ℕ × Option (Record V M)))
      → contributions_of (somes (xs ++ ys)) ≡ contributions_of (somes xs) ++ contributions_of (somes ys)
  contributions-append xs ys = ap contributions_of (somes-append xs ys) ∙ flat_map-append (λ r. r.1.contributed) (somes xs) (somes ys)
