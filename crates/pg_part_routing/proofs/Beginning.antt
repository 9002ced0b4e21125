-- A partition begins with its share of the states with which the run begins.
use Rattle.std.proofs.Common.{◌≡◌, ℕ, ◌==◌, ◌&&◌, ◌||◌, Bool, true, false, cond, List, [], ◌∷◌, ◌++◌, map}
use Rattle.std.proofs.Common.{Option, None, Some, option_map, refl, sym, ap, ap₂, ◌∙◌, subst, filter}
use Rattle.std.specs.BTreeMap.{is_at}
use Rattle.std.specs.List.Sorted.{IsStrictlySortedBy}
use Rattle.std.specs.List.{AllByRecursion}
use Rattle.std.specs.Map.{keys_of, values_of}
use Rattle.std.specs.Option.{unwrap_or}
use Rattle.std.specs.Ordering.{nat_cmp}
use Rattle.std.specs.declared.cmp.Ordering.TheVariants.{Less}
use Rattle.std.proofs.lemmas.Bool.{eqb-true}
use Rattle.pg_graph.specs.Rows.{HasRisingIds, Rows, row_at}
use Rattle.pg_graph.specs.Handed.{Row}
use Rattle.pg_map.specs.Entries.{ChangesRise, HasRisingIds as Rises, value_at, with_changes}
use Rattle.pg_map.proofs.Changing.{rises-changes, value_at-with_changes}
use Rattle.pg_map.proofs.Rising.{same_entries}
use Rattle.pg_model.specs.ByIds.{state_first}
use Rattle.pg_model.specs.Job.{Job, Program}
use Rattle.pg_model.specs.Run.{beginning, configuration, first}
use Rattle.pg_model.specs.Share.{belongs, records_below, share}
use Rattle.pg_model.specs.Superstep.{has_id}
use Rattle.pg_model.proofs.LawsPresent.{at_key}
use Rattle.pg_model.specs.declared.configuration.VertexWithInbox.{VertexWithInbox}
use Rattle.pg_model.specs.declared.configuration.VertexState.{VertexState}
use Rattle.pg_part_routing.specs.Starting.{own, first_change, first_changes}
use Rattle.pg_trace.specs.Beginning.{ChangesById, IsById, by_id, with_first}
use Rattle.pg_trace.specs.OfRun.{HoldsRun}
use Rattle.pg_trace.proofs.Beginning.{rise-by_id, values-by_id}
use Rattle.pg_trace.specs.Trace.{StatesRise, begun}

-- ---- those of a partition, by rising id

module _ {X : Type 0} (n p : ℕ) where
  own_above : (k : ℕ) (xs : List (ℕ × X)) → AllByRecursion (λ i. nat_cmp k i ≡ Less) (keys_of xs)
      → AllByRecursion (λ i. nat_cmp k i ≡ Less) (keys_of (own n p xs))
  own_above k [] h = tt
  own_above k (x ∷ xs) h = by (belongs n p x.0) (own_above k xs h.1)
    where
      by : (b : Bool) → AllByRecursion (λ i. nat_cmp k i ≡ Less) (keys_of (own n p xs))
          → AllByRecursion (λ i. nat_cmp k i ≡ Less) (keys_of (cond b (x ∷ own n p xs) (own n p xs)))
      by true rest = (h.0, rest)
      by false rest = rest

  pub own_rise : (xs : List (ℕ × X)) → Rises xs → Rises (own n p xs)
  unfolding IsStrictlySortedBy
  own_rise [] h = tt
  own_rise (x ∷ xs) h = by (belongs n p x.0) (own_rise xs h.1) (own_above x.0 xs h.0)
    where
      by : (b : Bool) → Rises (own n p xs) → AllByRecursion (λ i. nat_cmp x.0 i ≡ Less) (keys_of (own n p xs)) → Rises (cond b (x ∷ own n p xs) (own n p xs))
      by true rest above = (above, rest)
      by false rest above = rest

module _ {V M : Type 0} (program : Program V M) (n p : ℕ) where
  states : Rows → List (VertexState V)
  states rows = map (λ r. state_first program r.0 r.1) (own n p rows)

  states_in_share : (rows : Rows) → states rows ≡ map (λ x. x.state) (filter (λ x. belongs n p x.state.id) (map (beginning program) rows))
  unfolding states
  states_in_share [] = refl
  states_in_share (r ∷ rows) = by (belongs n p r.0) (states_in_share rows)
    where
      rest : List (VertexWithInbox V M)
      rest = filter (λ x. belongs n p x.state.id) (map (beginning program) rows)

      by : (b : Bool) → states rows ≡ map (λ x. x.state) rest
          → map (λ r. state_first program r.0 r.1) (cond b (r ∷ own n p rows) (own n p rows)) ≡ map (λ x. x.state) (cond b (beginning program r ∷ rest) rest)
      by true h = ap (λ l. state_first program r.0 r.1 ∷ l) h
      by false h = h

  ids_of_states : (rows : Rows) → map (λ x. x.id) (map (λ r. state_first program r.0 r.1) rows) ≡ keys_of rows
  ids_of_states [] = refl
  ids_of_states (r ∷ rows) = ap (λ l. r.0 ∷ l) (ids_of_states rows)

  pub states_rise : (rows : Rows) → HasRisingIds rows → StatesRise (map (λ r. state_first program r.0 r.1) (own n p rows))
  states_rise rows rise = subst (IsStrictlySortedBy nat_cmp) (sym (ids_of_states (own n p rows))) (own_rise n p rows rise)

-- one row more
pub own_more : {X Y : Type 0} (n p : ℕ) (f : ℕ × X → Y) (x : ℕ × X) (rest : List (ℕ × X))
    → map f (own n p (x ∷ [])) ++ map f (own n p rest) ≡ map f (own n p (x ∷ rest))
own_more n p f x rest = by (belongs n p x.0)
  where
    by : (b : Bool) → map f (cond b (x ∷ []) []) ++ map f (own n p rest) ≡ map f (cond b (x ∷ own n p rest) (own n p rest))
    by true = refl
    by false = refl

-- a trace that has begun with them holds the run so far
pub begun_holds : {V M : Type 0} (job : Job V M) (rows : Rows) (n p : ℕ) → HasRisingIds rows → (program : Program V M) → job.program ≡ program
    → HoldsRun job rows n p 0 (begun (map (λ r. state_first program r.0 r.1) (own n p rows)))
unfolding states share records_below configuration first
begun_holds job rows n p rise program is = record {
  rise = rise;
  initial = ap (λ q. map (λ r. state_first q r.0 r.1) (own n p rows)) (sym is) ∙ states_in_share job.program n p rows;
  records = refl;
}

-- ---- against an old run

-- those that a test picks rise as they did
picked_rise : (picks : ℕ → Bool) (ids : List ℕ) → IsStrictlySortedBy nat_cmp ids → IsStrictlySortedBy nat_cmp (filter picks ids)
unfolding IsStrictlySortedBy
picked_rise picks [] h = tt
picked_rise picks (k ∷ ids) h = by (picks k) (picked_rise picks ids h.1) (above ids h.0)
  where
    above : (ids : List ℕ) → AllByRecursion (λ i. nat_cmp k i ≡ Less) ids → AllByRecursion (λ i. nat_cmp k i ≡ Less) (filter picks ids)
    above [] a = tt
    above (i ∷ ids) a = one (picks i) (above ids a.1)
      where
        one : (b : Bool) → AllByRecursion (λ i. nat_cmp k i ≡ Less) (filter picks ids)
            → AllByRecursion (λ i. nat_cmp k i ≡ Less) (cond b (i ∷ filter picks ids) (filter picks ids))
        one true later = (a.0, later)
        one false later = later

    by : (b : Bool) → IsStrictlySortedBy nat_cmp (filter picks ids) → AllByRecursion (λ i. nat_cmp k i ≡ Less) (filter picks ids)
        → IsStrictlySortedBy nat_cmp (cond b (k ∷ filter picks ids) (filter picks ids))
    by true later up = (up, later)
    by false later up = later

module _ {V M : Type 0} (program : Program V M) (n p : ℕ) where
  states_at : Rows → List (ℕ × VertexState V)
  states_at rows = by_id (map (λ r. state_first program r.0 r.1) (own n p rows))

  -- the state with which an id begins
  begins : Rows → ℕ → Option (VertexState V)
  begins rows id = cond (belongs n p id) (option_map (state_first program id) (row_at id rows)) None

  state_at_first : (rows : Rows) (id : ℕ) → value_at id (states_at rows) ≡ begins rows id
  unfolding states_at begins
  state_at_first [] id = by (belongs n p id)
    where
      none : Option (VertexState V)
      none = None

      by : (b : Bool) → none ≡ cond b none none
      by true = refl
      by false = refl
  state_at_first (r ∷ rows) id = by (belongs n p r.0) refl (r.0 == id) refl (state_at_first rows id)
    where
      found : is_at (nat_cmp id) r.0 ≡ (r.0 == id)
      found = at_key id r.0

      rest : List (ℕ × VertexState V)
      rest = by_id (map (λ r. state_first program r.0 r.1) (own n p rows))

      first : VertexState V
      first = state_first program r.0 r.1

      by : (b : Bool) → belongs n p r.0 ≡ b → (e : Bool) → (r.0 == id) ≡ e
          → value_at id rest ≡ cond (belongs n p id) (option_map (state_first program id) (row_at id rows)) None
          → value_at id (by_id (map (λ r. state_first program r.0 r.1) (cond b (r ∷ own n p rows) (own n p rows))))
          ≡ cond (belongs n p id) (option_map (state_first program id) (cond (is_at (nat_cmp id) r.0) (Some r.1) (row_at id rows))) None
      by true mine true e h =
          let same = eqb-true r.0 id e in
          ap (λ (t : Bool). cond t (Some first) (value_at id rest)) (found ∙ e)
          ∙ (ap (λ k. Some (state_first program k r.1)) same
          ∙ sym (ap₂ (λ (b t : Bool). cond b (option_map (state_first program id) (cond t (Some r.1) (row_at id rows))) None)
          (ap (belongs n p) (sym same) ∙ mine) (found ∙ e)))
      by true mine false e h =
          ap (λ (t : Bool). cond t (Some first) (value_at id rest)) (found ∙ e)
          ∙ (h ∙ sym (ap (λ (t : Bool). cond (belongs n p id) (option_map (state_first program id) (cond t (Some r.1) (row_at id rows))) None) (found ∙ e)))
      by false mine true e h =
          let apart : belongs n p id ≡ false = ap (belongs n p) (sym (eqb-true r.0 id e)) ∙ mine in
          h ∙ (ap (λ (b : Bool). cond b (option_map (state_first program id) (row_at id rows)) None) apart
          ∙ sym (ap (λ (b : Bool). cond b (option_map (state_first program id) (cond (is_at (nat_cmp id) r.0) (Some r.1) (row_at id rows))) None) apart))
      by false mine false e h =
          h ∙ sym (ap (λ (t : Bool). cond (belongs n p id) (option_map (state_first program id) (cond t (Some r.1) (row_at id rows))) None) (found ∙ e))

  change_at : (rows : Rows) (ids : List ℕ) (id : ℕ)
      → value_at id (first_changes program rows n p ids) ≡ cond (has_id ids id && belongs n p id)
      (Some (option_map (state_first program id) (row_at id rows))) None
  change_at rows [] id = refl
  change_at rows (k ∷ ids) id = by (belongs n p k) refl (k == id) refl (change_at rows ids id)
    where
      rest : List (ℕ × Option (VertexState V))
      rest = first_changes program rows n p ids

      found : is_at (nat_cmp id) k ≡ (k == id)
      found = at_key id k

      now : ℕ → Option (Option (VertexState V))
      now k = Some (option_map (state_first program k) (row_at k rows))

      by : (b : Bool) → belongs n p k ≡ b → (e : Bool) → (k == id) ≡ e → value_at id rest ≡ cond (has_id ids id && belongs n p id) (now id) None
          → value_at id (map (first_change program rows) (cond b (k ∷ filter (belongs n p) ids) (filter (belongs n p) ids)))
          ≡ cond ((e || has_id ids id) && belongs n p id) (now id) None
      by true mine true e h =
          let same = eqb-true k id e in
          ap (λ (t : Bool). cond t (now k) (value_at id rest)) (found ∙ e)
          ∙ (ap now same ∙ sym (ap (λ (b : Bool). cond b (now id) None) (ap (belongs n p) (sym same) ∙ mine)))
      by true mine false e h = ap (λ (t : Bool). cond t (now k) (value_at id rest)) (found ∙ e) ∙ h
      by false mine true e h =
          let apart : belongs n p id ≡ false = ap (belongs n p) (sym (eqb-true k id e)) ∙ mine in
          h ∙ (ap (λ (b : Bool). cond (has_id ids id && b) (now id) None) apart ∙ (none (has_id ids id) ∙ sym (ap (λ (b : Bool). cond b (now id) None) apart)))
        where
          none : (b : Bool) → cond (b && false) (now id) None ≡ None
          none true = refl
          none false = refl
      by false mine false e h = h

  change_keys : (rows : Rows) (ids : List ℕ) → keys_of (first_changes program rows n p ids) ≡ filter (belongs n p) ids
  change_keys rows ids = each (filter (belongs n p) ids)
    where
      each : (ids : List ℕ) → keys_of (map (first_change program rows) ids) ≡ ids
      each [] = refl
      each (k ∷ ids) = ap (λ l. k ∷ l) (each ids)

  pub changes_rise : (rows : Rows) (ids : List ℕ) → IsStrictlySortedBy nat_cmp ids → ChangesRise (first_changes program rows n p ids)
  changes_rise rows ids rise = subst (IsStrictlySortedBy nat_cmp) (sym (change_keys rows ids)) (picked_rise (belongs n p) ids rise)

  pub changes_by_id : (rows : Rows) (ids : List ℕ) → ChangesById (first_changes program rows n p ids)
  changes_by_id rows ids = each (filter (belongs n p) ids)
    where
      one : (k : ℕ) (o : Option Row) → IsById k (option_map (state_first program k) o)
      one k None = tt
      one k (Some r) = refl

      each : (ids : List ℕ) → ChangesById (map (first_change program rows) ids)
      each [] = tt
      each (k ∷ ids) = (one k (row_at k rows), each ids)

  -- what the old run began with, changed at the touched ids, is what the new one begins with
  pub first_again : (kept rows : Rows) → HasRisingIds kept → HasRisingIds rows → (ids : List ℕ) → IsStrictlySortedBy nat_cmp ids
      → ((id : ℕ) → has_id ids id ≡ false → row_at id kept ≡ row_at id rows)
      → with_first (first_changes program rows n p ids) (map (λ r. state_first program r.0 r.1) (own n p kept)) ≡ map
      (λ r. state_first program r.0 r.1) (own n p rows)
  unfolding states_at begins
  first_again kept rows rise rise' ids ordered same =
      ap values_of (same_entries (with_changes changes (states_at kept)) (states_at rows)
      (rises-changes changes (states_at kept) (rise-by_id _ (states_rise program n p kept rise)))
      (rise-by_id _ (states_rise program n p rows rise')) at)
      ∙ values-by_id (map (λ r. state_first program r.0 r.1) (own n p rows))
    where
      changes : List (ℕ × Option (VertexState V))
      changes = first_changes program rows n p ids

      at : (q : ℕ) → value_at q (with_changes changes (states_at kept)) ≡ value_at q (states_at rows)
      at q =
          value_at-with_changes changes (states_at kept) q (changes_rise rows ids ordered) (rise-by_id _ (states_rise program n p kept rise))
          ∙ (ap₂ unwrap_or (change_at rows ids q) (state_at_first kept q)
          ∙ (by (has_id ids q) refl (belongs n p q) ∙ sym (state_at_first rows q)))
        where
          now : Option (VertexState V)
          now = option_map (state_first program q) (row_at q rows)

          by : (b : Bool) → has_id ids q ≡ b → (t : Bool)
              → unwrap_or (cond (b && t) (Some now) None) (cond t (option_map (state_first program q) (row_at q kept)) None) ≡ cond t now None
          by true e true = refl
          by true e false = refl
          by false e true = ap (option_map (state_first program q)) (same q e)
          by false e false = refl
