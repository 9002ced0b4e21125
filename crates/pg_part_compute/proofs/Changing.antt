-- Changes of records, one for each of some vertices by rising id.
use Rattle.std.proofs.Common.{◌≡◌, ℕ, ◌==◌, ◌||◌, Bool, true, false, cond, List, [], ◌∷◌, ◌++◌}
use Rattle.std.proofs.Common.{map, None, Some, refl, sym, ap, ◌∙◌, subst, true≢false, flat_map}
use Rattle.std.specs.List.{AllByRecursion}
use Rattle.std.specs.List.Sorted.{IsStrictlySortedBy}
use Rattle.std.specs.Map.{keys_of}
use Rattle.std.specs.Ordering.{nat_cmp}
use Rattle.std.specs.declared.cmp.Ordering.TheVariants.{Less}
use Rattle.std.proofs.lemmas.Bool.{eqb-true}
use Rattle.pg_map.specs.Entries.{HasRisingIds, value_at}
use Rattle.pg_model.specs.Superstep.{has_id}
use Rattle.pg_model.proofs.LawsMade.{not_below}
use Rattle.pg_model.proofs.LawsPresent.{at_key}

module _ {C X : Type 0} (id_of : C → ℕ) (skips : C → Bool) (gives : C → X) where
  -- each of them with its id, but for those that are skipped
  abbrev pub entries : List C → List (ℕ × X)
  entries cs = flat_map (λ c. cond (skips c) [] ((id_of c, gives c) ∷ [])) cs

  all_above : (k : ℕ) (cs : List C) → AllByRecursion (λ i. nat_cmp k i ≡ Less) (map id_of cs) → AllByRecursion (λ i. nat_cmp k i ≡ Less) (keys_of (entries cs))
  all_above k [] h = tt
  all_above k (c ∷ cs) h = by (skips c) (all_above k cs h.1)
    where
      by : (b : Bool) → AllByRecursion (λ i. nat_cmp k i ≡ Less) (keys_of (entries cs))
          → AllByRecursion (λ i. nat_cmp k i ≡ Less) (keys_of (cond b [] ((id_of c, gives c) ∷ []) ++ entries cs))
      by true rest = rest
      by false rest = (h.0, rest)

  pub entries-rise : (cs : List C) → IsStrictlySortedBy nat_cmp (map id_of cs) → HasRisingIds (entries cs)
  unfolding IsStrictlySortedBy
  entries-rise [] h = tt
  entries-rise (c ∷ cs) h = by (skips c) (entries-rise cs h.1) (all_above (id_of c) cs h.0)
    where
      by : (b : Bool) → HasRisingIds (entries cs) → AllByRecursion (λ i. nat_cmp (id_of c) i ≡ Less) (keys_of (entries cs))
          → HasRisingIds (cond b [] ((id_of c, gives c) ∷ []) ++ entries cs)
      by true rest above = rest
      by false rest above = (above, rest)

  -- what holds of the ids of all holds of those that entries stand at
  pub entries-hold : (P : ℕ → Type 0) (cs : List C) → AllByRecursion (λ c. P (id_of c)) cs → AllByRecursion P (keys_of (entries cs))
  entries-hold P [] h = tt
  entries-hold P (c ∷ cs) h = by (skips c) (entries-hold P cs h.1)
    where
      by : (b : Bool) → AllByRecursion P (keys_of (entries cs)) → AllByRecursion P (keys_of (cond b [] ((id_of c, gives c) ∷ []) ++ entries cs))
      by true rest = rest
      by false rest = (h.0, rest)

  -- nothing stands at another id
  pub entries-none : (k : ℕ) (cs : List C) → has_id (map id_of cs) k ≡ false → value_at k (entries cs) ≡ None
  entries-none k [] h = refl
  entries-none k (c ∷ cs) h = by (skips c) (id_of c == k) refl h (entries-none k cs)
    where
      by : (b e : Bool) → (id_of c == k) ≡ e → (e || has_id (map id_of cs) k) ≡ false → (has_id (map id_of cs) k ≡ false → value_at k (entries cs) ≡ None)
          → value_at k (cond b [] ((id_of c, gives c) ∷ []) ++ entries cs) ≡ None
      by b true f g later = absurd (true≢false g)
      by true false f g later = later g
      by false false f g later = ap (λ (t : Bool). cond t (Some (gives c)) (value_at k (entries cs))) (at_key k (id_of c) ∙ f) ∙ later g

  -- at an id of one of them stands what it gives, unless it is skipped
  pub record IsEntry (P : C → Type 0) (k : ℕ) (cs : List C) : Type 0 where
    pub one : C
    pub holds : P one
    pub same : id_of one ≡ k
    pub at : value_at k (entries cs) ≡ cond (skips one) None (Some (gives one))

  pub entries-some : (P : C → Type 0) (k : ℕ) (cs : List C) → IsStrictlySortedBy nat_cmp (map id_of cs) → AllByRecursion P cs
      → has_id (map id_of cs) k ≡ true → IsEntry P k cs
  unfolding IsStrictlySortedBy
  entries-some P k [] rise all h = absurd (true≢false (sym h))
  entries-some P k (c ∷ cs) rise all h = by (id_of c == k) refl h (entries-some P k cs rise.1 all.1)
    where
      by : (e : Bool) → (id_of c == k) ≡ e → (e || has_id (map id_of cs) k) ≡ true → (has_id (map id_of cs) k ≡ true → IsEntry P k cs) → IsEntry P k (c ∷ cs)
      by true f g later =
          let same = eqb-true (id_of c) k f in
          let removed : value_at k (entries cs) ≡ None =
          entries-none k cs (subst (λ i. has_id (map id_of cs) i ≡ false) same (not_below (id_of c) (map id_of cs) rise.0)) in
          record { one = c; holds = all.0; same = same; at = found (skips c) removed }
        where
          found : (b : Bool) → value_at k (entries cs) ≡ None
              → value_at k (cond b [] ((id_of c, gives c) ∷ []) ++ entries cs) ≡ cond b None (Some (gives c))
          found true removed = removed
          found false removed = ap (λ (t : Bool). cond t (Some (gives c)) (value_at k (entries cs))) (at_key k (id_of c) ∙ f)
      by false f g later =
          let there = later g in
          record { one = there.one; holds = there.holds; same = there.same; at = passed (skips c) ∙ there.at }
        where
          passed : (b : Bool) → value_at k (cond b [] ((id_of c, gives c) ∷ []) ++ entries cs) ≡ value_at k (entries cs)
          passed true = refl
          passed false = ap (λ (t : Bool). cond t (Some (gives c)) (value_at k (entries cs))) (at_key k (id_of c) ∙ f)

  -- the ids at which entries stand
  pub keys_of-entries : (cs : List C) → keys_of (entries cs) ≡ flat_map (λ c. cond (skips c) [] (id_of c ∷ [])) cs
  keys_of-entries [] = refl
  keys_of-entries (c ∷ cs) = by (skips c) (keys_of-entries cs)
    where
      by : (b : Bool) → keys_of (entries cs) ≡ flat_map (λ c. cond (skips c) [] (id_of c ∷ [])) cs
          → keys_of (cond b [] ((id_of c, gives c) ∷ []) ++ entries cs) ≡ cond b [] (id_of c ∷ []) ++ flat_map (λ c. cond (skips c) [] (id_of c ∷ [])) cs
      by true e = e
      by false e = ap (λ l. id_of c ∷ l) e

-- where more are skipped, entries stand at no other ids
module _ {C X : Type 0} (id_of : C → ℕ) (skips more : C → Bool) (gives : C → X) (skipped : (c : C) → skips c ≡ true → more c ≡ true) where
  pub entries-fewer : (id : ℕ) (cs : List C) → has_id (keys_of (entries id_of skips gives cs)) id ≡ false
      → has_id (keys_of (entries id_of more gives cs)) id ≡ false
  entries-fewer id [] h = refl
  entries-fewer id (c ∷ cs) h = by (skips c) refl (more c) refl (id_of c == id) refl h (λ g. entries-fewer id cs g)
    where
      by : (b : Bool) → skips c ≡ b → (m : Bool) → more c ≡ m → (t : Bool) → (id_of c == id) ≡ t
          → has_id (keys_of (cond b [] ((id_of c, gives c) ∷ []) ++ entries id_of skips gives cs)) id ≡ false
          → (has_id (keys_of (entries id_of skips gives cs)) id ≡ false → has_id (keys_of (entries id_of more gives cs)) id ≡ false)
          → has_id (keys_of (cond m [] ((id_of c, gives c) ∷ []) ++ entries id_of more gives cs)) id ≡ false
      by true e true f t g h later = later h
      by true e false f t g h later = absurd (true≢false (sym (skipped c e) ∙ f))
      by false e m f true g h later = absurd (true≢false (sym (ap (λ (b : Bool). b || has_id (keys_of (entries id_of skips gives cs)) id) g) ∙ h))
      by false e true f false g h later = later (sym (ap (λ (b : Bool). b || has_id (keys_of (entries id_of skips gives cs)) id) g) ∙ h)
      by false e false f false g h later =
          ap (λ (b : Bool). b || has_id (keys_of (entries id_of more gives cs)) id) g
          ∙ later (sym (ap (λ (b : Bool). b || has_id (keys_of (entries id_of skips gives cs)) id) g) ∙ h)

-- entries stand at no other ids than those of what they are made of
module _ {C X : Type 0} (id_of : C → ℕ) (skips : C → Bool) (gives : C → X) where
  pub entries-among : (id : ℕ) (cs : List C) → has_id (map id_of cs) id ≡ false → has_id (keys_of (entries id_of skips gives cs)) id ≡ false
  entries-among id [] h = refl
  entries-among id (c ∷ cs) h = by (skips c) (id_of c == id) refl h (λ g. entries-among id cs g)
    where
      by : (b t : Bool) → (id_of c == id) ≡ t → (t || has_id (map id_of cs) id) ≡ false
          → (has_id (map id_of cs) id ≡ false → has_id (keys_of (entries id_of skips gives cs)) id ≡ false)
          → has_id (keys_of (cond b [] ((id_of c, gives c) ∷ []) ++ entries id_of skips gives cs)) id ≡ false
      by b true e h later = absurd (true≢false h)
      by true false e h later = later h
      by false false e h later = ap (λ (b : Bool). b || has_id (keys_of (entries id_of skips gives cs)) id) e ∙ later h

-- what holds of all ids holds of one of them
pub stated_at : (P : ℕ → Type 0) (ids : List ℕ) → AllByRecursion P ids → (id : ℕ) → has_id ids id ≡ true → P id
stated_at P [] h id there = absurd (true≢false (sym there))
stated_at P (k ∷ ids) h id there = by (k == id) refl there (λ g. stated_at P ids h.1 id g)
  where
    by : (e : Bool) → (k == id) ≡ e → (e || has_id ids id) ≡ true → (has_id ids id ≡ true → P id) → P id
    by true e there later = subst P (eqb-true k id e) h.0
    by false e there later = later there
