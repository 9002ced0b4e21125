-- What a step makes of the records of a superstep, and how many executions it counts.
use Rattle.std.proofs.Common.{◌≡◌, ℕ, ◌==◌, ◌||◌, Bool, true, false, cond, List, [], ◌∷◌, map, Option}
use Rattle.std.proofs.Common.{None, Some, refl, sym, ap, ◌∙◌, subst, true≢false, filter, count_by}
use Rattle.std.specs.List.{AllByRecursion}
use Rattle.std.specs.List.Sorted.{IsStrictlySortedBy}
use Rattle.std.specs.Map.{keys_of}
use Rattle.std.specs.Option.{unwrap_or}
use Rattle.std.specs.Ordering.{nat_cmp}
use Rattle.std.specs.declared.cmp.Ordering.TheVariants.{Less}
use Rattle.std.proofs.lemmas.Bool.{eqb-true}
use Rattle.pg_graph.specs.Rows.{HasRisingIds, Rows}
use Rattle.pg_map.specs.Entries.{value_at, with_changes, HasRisingIds as Rises}
use Rattle.pg_map.proofs.Changing.{rises-changes, value_at-with_changes}
use Rattle.pg_map.proofs.Rising.{same_entries}
use Rattle.pg_model.specs.Job.{Job}
use Rattle.pg_model.specs.Needed.{is_needed, needed_in}
use Rattle.pg_model.specs.Run.{present_at, view_at}
use Rattle.pg_model.specs.Share.{belongs, present_in_share, records_in}
use Rattle.pg_model.specs.Superstep.{has_id, ids, is_active, outcome}
use Rattle.pg_model.proofs.LawsIds.{ids_rise}
use Rattle.pg_model.proofs.LawsLists.{all_to_map, all_weaker, count_by-map, same_count}
use Rattle.pg_model.proofs.LawsRising.{count-rising}
use Rattle.pg_model.proofs.LawsShares.{ids_rise_in_share}
use Rattle.pg_model.specs.declared.configuration.VertexWithInbox.{VertexWithInbox}
use Rattle.pg_model.specs.declared.record.Record.{Record}
use Rattle.pg_part_compute.specs.declared.found.VertexPair.{VertexPair}
use Rattle.pg_part_compute.proofs.WorkItems.{not_key}
use Rattle.pg_part_routing.proofs.Listing.{all_picked}
use Rattle.pg_part_compute.proofs.Changing.{IsEntry, entries, entries-none, entries-rise, entries-some}

-- ---- records of a partition, by rising id

module _ {V M : Type 0} (job : Job V M) (rows : Rows) (n p s : ℕ) where
  given : VertexWithInbox V M → Record V M
  given x = outcome job.program (view_at job rows s) x

  keys_above : (k : ℕ) (xs : List (VertexWithInbox V M)) → AllByRecursion (λ i. nat_cmp k i ≡ Less) (ids xs)
      → AllByRecursion (λ i. nat_cmp k i ≡ Less) (keys_of (map (λ x. (x.state.id, given x)) (filter is_active xs)))
  keys_above k [] h = tt
  keys_above k (x ∷ xs) h = by (is_active x) (keys_above k xs h.1)
    where
      by : (b : Bool) → AllByRecursion (λ i. nat_cmp k i ≡ Less) (keys_of (map (λ x. (x.state.id, given x)) (filter is_active xs)))
          → AllByRecursion (λ i. nat_cmp k i ≡ Less) (keys_of (map (λ x. (x.state.id, given x)) (cond b (x ∷ filter is_active xs) (filter is_active xs))))
      by true rest = (h.0, rest)
      by false rest = rest

  active_rise : (xs : List (VertexWithInbox V M)) → IsStrictlySortedBy nat_cmp (ids xs) → Rises (map (λ x. (x.state.id, given x)) (filter is_active xs))
  unfolding IsStrictlySortedBy
  active_rise [] h = tt
  active_rise (x ∷ xs) h = by (is_active x) (active_rise xs h.1) (keys_above x.state.id xs h.0)
    where
      by : (b : Bool) → Rises (map (λ x. (x.state.id, given x)) (filter is_active xs))
          → AllByRecursion (λ i. nat_cmp x.state.id i ≡ Less) (keys_of (map (λ x. (x.state.id, given x)) (filter is_active xs)))
          → Rises (map (λ x. (x.state.id, given x)) (cond b (x ∷ filter is_active xs) (filter is_active xs)))
      by true rest above = (above, rest)
      by false rest above = rest

  pub records_rise : HasRisingIds rows → Rises (records_in job rows n p s)
  unfolding given
  records_rise rising = active_rise (present_in_share job rows n p s) (ids_rise_in_share job rows n p rising s)

  -- no record stands at an id of another partition
  pub no_other_record : (id : ℕ) → belongs n p id ≡ false → value_at id (records_in job rows n p s) ≡ None
  unfolding given
  no_other_record id other = not_key id (records_in job rows n p s) (none (present_at job rows s))
    where
      none : (xs : List (VertexWithInbox V M))
          → has_id (keys_of (map (λ x. (x.state.id, given x)) (filter is_active (filter (λ x. belongs n p x.state.id) xs)))) id ≡ false
      none [] = refl
      none (x ∷ xs) = by (belongs n p x.state.id) refl (is_active x) (none xs)
        where
          rest : List (VertexWithInbox V M)
          rest = filter (λ x. belongs n p x.state.id) xs

          apart : (b : Bool) → (x.state.id == id) ≡ b → belongs n p x.state.id ≡ true → b ≡ false
          apart true e e' = absurd (true≢false (sym e' ∙ (ap (belongs n p) (eqb-true x.state.id id e) ∙ other)))
          apart false e e' = refl

          by : (b : Bool) → belongs n p x.state.id ≡ b → (a : Bool)
              → has_id (keys_of (map (λ x. (x.state.id, given x)) (filter is_active rest))) id ≡ false
              → has_id (keys_of (map (λ x. (x.state.id, given x)) (filter is_active (cond b (x ∷ rest) rest)))) id ≡ false
          by true e a h = at (is_active x)
            where
              at : (t : Bool) → has_id (keys_of (map (λ x. (x.state.id, given x)) (cond t (x ∷ filter is_active rest) (filter is_active rest)))) id ≡ false
              at true =
                  ap (λ (t : Bool). t || has_id (keys_of (map (λ x. (x.state.id, given x)) (filter is_active rest))) id) (apart (x.state.id == id) refl e) ∙ h
              at false = h
          by false e a h = h

-- ---- the changed records

module _ {V M : Type 0} (taken : VertexPair V M → Bool) (gives : VertexPair V M → Option (Record V M)) (base records : List (ℕ × Record V M)) where
  -- where the base is right for all that isn't looked at or is taken over, and what the others give is right, so is the whole
  pub record IsRight (c : VertexPair V M) : Type 0 where
    pub kept : taken c ≡ true → value_at c.id base ≡ value_at c.id records
    pub given_is : taken c ≡ false → gives c ≡ value_at c.id records

  pub records_are : (cs : List (VertexPair V M)) → IsStrictlySortedBy nat_cmp (map (λ c. c.id) cs) → AllByRecursion IsRight cs → Rises base → Rises records
      → ((id : ℕ) → has_id (map (λ c. c.id) cs) id ≡ false → value_at id base ≡ value_at id records)
      → with_changes (entries (λ c. c.id) taken gives cs) base ≡ records
  records_are cs rise right base_rises records_rise' others =
      same_entries (with_changes changes base) records (rises-changes changes base base_rises) records_rise'
      (λ q. value_at-with_changes changes base q changes_rise base_rises ∙ by q (has_id (map (λ c. c.id) cs) q) refl)
    where
      changes : List (ℕ × Option (Record V M))
      changes = entries (λ c. c.id) taken gives cs

      changes_rise : Rises changes
      changes_rise = entries-rise (λ c. c.id) taken gives cs rise

      at : (q : ℕ) (e : IsEntry (λ c. c.id) taken gives IsRight q cs) (b : Bool) → taken e.one ≡ b
          → unwrap_or (cond b None (Some (gives e.one))) (value_at q base) ≡ value_at q records
      at q e true is = subst (λ k. value_at k base ≡ value_at k records) e.same (e.holds.kept is)
      at q e false is = e.holds.given_is is ∙ ap (λ k. value_at k records) e.same

      by : (q : ℕ) (b : Bool) → has_id (map (λ c. c.id) cs) q ≡ b → unwrap_or (value_at q changes) (value_at q base) ≡ value_at q records
      by q true h =
          let e = entries-some (λ c. c.id) taken gives IsRight q cs rise right h in
          ap (λ o. unwrap_or o (value_at q base)) (e.at ∙ ap (λ (b : Bool). cond b None (Some (gives e.one))) refl) ∙ at q e (taken e.one) refl
      by q false h = ap (λ o. unwrap_or o (value_at q base)) (entries-none (λ c. c.id) taken gives q cs h) ∙ others q h

-- ---- needed executions

module _ {V M : Type 0} (value_eq : V → V → Bool) (message_eq : M → M → Bool) (job : Job V M) (kept : Option Rows) (rows : Rows) (n p s : ℕ) where
  needed : ℕ → Bool
  needed id = is_needed value_eq message_eq job kept rows s id

  -- a vertex pair is of the partition, and runs where its execution is needed
  pub record IsCounted (runs : VertexPair V M → Bool) (c : VertexPair V M) : Type 0 where
    pub mine : belongs n p c.id ≡ true
    pub same : runs c ≡ is_needed value_eq message_eq job kept rows s c.id

  pub counted_are : (runs : VertexPair V M → Bool) (cs : List (VertexPair V M)) → HasRisingIds rows → IsStrictlySortedBy nat_cmp (map (λ c. c.id) cs)
      → AllByRecursion (IsCounted runs) cs
      → ((id : ℕ) → has_id (ids (present_at job rows s)) id ≡ false → is_needed value_eq message_eq job kept rows s id ≡ false)
      → ((id : ℕ) → belongs n p id ≡ true → has_id (map (λ c. c.id) cs) id ≡ false → is_needed value_eq message_eq job kept rows s id ≡ false)
      → count_by runs cs ≡ needed_in value_eq message_eq job kept rows (belongs n p) s
  unfolding needed
  counted_are runs cs rising rise all removed others =
      each cs all ∙ sym (count-rising (ids (present_at job rows s)) (map (λ c. c.id) cs) (ids_rise job rows rising s) rise (belongs n p) needed
      (λ id mine h. removed id h) (λ id mine h. others id mine h))
    where
      each : (cs : List (VertexPair V M)) → AllByRecursion (IsCounted runs) cs → count_by runs cs ≡ count_by needed (filter (belongs n p) (map (λ c. c.id) cs))
      each cs h =
          same_count runs (λ c. needed c.id) cs (all_weaker (IsCounted runs) (λ c. runs c ≡ needed c.id) (λ c counted. counted.same) cs h)
          ∙ (sym (count_by-map needed (λ c. c.id) cs)
          ∙ ap (count_by needed) (sym (all_picked (belongs n p) (map (λ c. c.id) cs)
          (all_to_map (λ c. c.id) (λ k. belongs n p k ≡ true) cs
          (all_weaker (IsCounted runs) (λ c. belongs n p c.id ≡ true) (λ c counted. counted.mine) cs h)))))
