-- The values with which a run ended, by those of the run against which it ran.
use Rattle.std.proofs.Common.{◌≡◌, ℕ, zero, suc, ◌+◌, ◌-◌, ◌<◌, ◌≤◌, ◌%◌, Bool, true, false, cond, ◌||◌, List, [], ◌∷◌, map, get_or}
use Rattle.std.proofs.Common.{Option, None, Some, option_map, refl, ap, sym, ◌∙◌, subst, arith, inl, inr, flat_map, unwrap_or}
use Rattle.std.specs.Prelude.{◌==◌}
use Rattle.std.specs.List.Sorted.{IsStrictlySortedBy}
use Rattle.std.specs.Map.{keys_of}
use Rattle.std.specs.Ordering.{nat_cmp}
use Rattle.std.proofs.Math.Nat.{mod-lt}
use Rattle.std.proofs.lemmas.Option.{none-some}
use Rattle.std.proofs.lemmas.Bool.{cases_lt, eq-eqb, eqb-true}
use Rattle.pg_core_values.specs.Values.{Ended, HasEnded, HasShare, HaveEnded, HaveShares, KeepsEnd, apart_in, new_values, ran_between, state_by, traces_of}
use Rattle.pg_core_values.proofs.ReadValues.{none_at, none_in_range, none_valued, rows_rise, same_state, state_is}
use Rattle.pg_inbox.proofs.Among.{in_neither}
use Rattle.pg_part.specs.PartRun.{diverged}
use Rattle.pg_graph.specs.Rows.{Rows}
use Rattle.pg_map.specs.Entries.{ChangesRise, HasRisingIds, value_at, with_changes}
use Rattle.pg_map.proofs.Changing.{rises-changes, value_at-with_changes}
use Rattle.pg_map.proofs.Rising.{same_entries}
use Rattle.pg_model.specs.ByIds.{state_at}
use Rattle.pg_model.specs.Job.{Inputs, Job}
use Rattle.pg_model.specs.Needed.{inputs_at, with_inbox_at}
use Rattle.pg_model.specs.Run.{configuration, run_length, values_of}
use Rattle.pg_model.specs.Share.{belongs, records_in}
use Rattle.pg_model.specs.Superstep.{has_id, ids}
use Rattle.pg_model.specs.declared.configuration.VertexWithInbox.{VertexWithInbox}
use Rattle.pg_model.proofs.LawsIds.{in_order}
use Rattle.pg_model.proofs.LawsPresent.{IsIdleAt-from_inputs, at_key}
use Rattle.pg_model.proofs.LawsSharesAlike.{record_in_share}
use Rattle.pg_part.specs.Part.{HoldsShare, PartState}
use Rattle.pg_trace.specs.Trace.{Trace, records_of}

-- ---- look-ups

module _ {V M : Type 0} where
  -- the value of an id, by its state
  value_of : (id : ℕ) (xs : List (VertexWithInbox V M))
      → value_at id (map (λ x. (x.state.id, x.state.value)) xs) ≡ option_map (λ x. x.value) (option_map (λ x. x.state) (with_inbox_at id xs))
  value_of id [] = refl
  value_of id (x ∷ xs) =
      ap (λ (b : Bool). cond b (Some x.state.value) (value_at id (map (λ x. (x.state.id, x.state.value)) xs))) (at_key id x.state.id)
      ∙ by (x.state.id == id) (value_of id xs)
    where
      by : (b : Bool) → value_at id (map (λ x. (x.state.id, x.state.value)) xs) ≡ option_map (λ x. x.value) (option_map (λ x. x.state) (with_inbox_at id xs))
          → cond b (Some x.state.value) (value_at id (map (λ x. (x.state.id, x.state.value)) xs)) ≡ option_map (λ x. x.value)
          (option_map (λ x. x.state) (cond b (Some x) (with_inbox_at id xs)))
      by true later = refl
      by false later = later

-- what a function makes of ids, looked up
found_at : {X : Type 0} (f : ℕ → X) (id : ℕ) (is : List ℕ) → value_at id (map (λ i. (i, f i)) is) ≡ cond (has_id is id) (Some (f id)) None
found_at f id [] = refl
found_at {X} f id (i ∷ is) = ap (λ (b : Bool). cond b (Some (f i)) (value_at id (map (λ i. (i, f i)) is))) (at_key id i) ∙ by (i == id) refl (found_at f id is)
  where
    by : (b : Bool) → (i == id) ≡ b → value_at id (map (λ i. (i, f i)) is) ≡ cond (has_id is id) (Some (f id)) None
        → cond b (Some (f i)) (value_at id (map (λ i. (i, f i)) is)) ≡ cond (b || has_id is id) (Some (f id)) None
    by true e later = ap (λ (k : ℕ). Some (f k)) (eqb-true i id e)
    by false e later = later

keys_made : {X : Type 0} (f : ℕ → X) (is : List ℕ) → keys_of (map (λ i. (i, f i)) is) ≡ is
keys_made f [] = refl
keys_made f (i ∷ is) = ap (λ l. i ∷ l) (keys_made f is)

-- ---- where an old run went on, and a vertex didn't run, it ended as it was

module _ {V M : Type 0} (job : Job V M) (old : Rows) (rise : HasRisingIds old) (n p id : ℕ) (mine : belongs n p id ≡ true) where
  no_inputs : (o : Option (Inputs V M)) → option_map job.program.step o ≡ None → o ≡ None
  no_inputs None e = refl
  no_inputs (Some i) e = absurd (none-some (job.program.step i) (sym e))

  stays : (s k : ℕ) → s + k ≤ run_length job old → ((t : ℕ) → t < k → value_at id (records_in job old n p (s + t)) ≡ None)
      → state_at job old (s + k) id ≡ state_at job old s id
  stays s zero within none = ap (λ (t : ℕ). state_at job old t id) (let e : s + 0 ≡ s = omega arith in e)
  stays s (suc k) within none =
      let there : s + k < run_length job old = omega (arith, within) in
      let idle = IsIdleAt-from_inputs job old (s + k) id there
      (no_inputs (inputs_at job old (s + k) id) (sym (record_in_share job old n p (s + k) id rise there mine) ∙ none k (omega arith))) in
      ap (λ (t : ℕ). state_at job old t id) (let e : s + suc k ≡ suc (s + k) = omega arith in e)
      ∙ (idle.state ∙ stays s k (omega (arith, within)) (λ t less. none t (omega (arith, less))))

-- ---- one partition

module _ {V M : Type 0} (job : Job V M) (old rows : Rows) (n p id : ℕ) (mine : belongs n p id ≡ true) (part : PartState V M)
    (holds : HoldsShare job (Some old) rows n p (run_length job rows) part)
    (other : has_id (apart_in (run_length job rows) (run_length job old) (Some part)) id ≡ false) where
  abbrev s : ℕ
  s = run_length job rows

  abbrev end : ℕ
  end = run_length job old

  apart : (has_id (diverged part.part_run) id ≡ false) × (has_id (ran_between s end part.part_run.trace) id ≡ false)
  apart = in_neither (diverged part.part_run) (ran_between s end part.part_run.trace) (apart_in s end (Some part)) refl id other

  -- it ended as in the old run
  ended_alike : state_at job old end id ≡ state_at job rows s id
  ended_alike =
      elim (cases_lt s end) [
        | inl less ↦ (
            let none : (t : ℕ) → t < end - s → value_at id (records_in job old n p (s + t)) ≡ None = λ t within.
            ap (value_at id) (sym (holds.part_run.warm.later (s + t) (omega arith) (omega (arith, within, less))))
            ∙ none_valued id (records_of (s + t) part.part_run.trace)
            (none_in_range id (λ t. keys_of (records_of t part.part_run.trace)) s (end - s) apart.1 t within) in
            let all : s + (end - s) ≡ end = omega (arith, less) in
            ap (λ (k : ℕ). state_at job old k id) (sym all)
            ∙ (stays job old holds.part_run.warm.whole.rise n p id mine s (end - s) (omega (arith, all)) none
            ∙ holds.part_run.warm.others id mine apart.0 (omega (arith, less)))
            )
        | inr more ↦ holds.part_run.warm.as_ended id mine apart.0 more
      ]

-- ---- all of them

module _ {V M : Type 0} (job : Job V M) (old rows : Rows) (n s : ℕ) (parts : List (Option (PartState V M)))
    (ended : HaveEnded job (λ p. Some old) rows n s parts) where
  have_shares : HaveShares job rows n s parts
  have_shares =
      record {
        shares = λ p within. subst (λ (k : ℕ). HasShare job rows n p k (get_or parts p None)) (sym ended.last)
            (by p (get_or parts p None) (ended.parts_are p within));
        some = ended.some;
      }
    where
      by : (p : ℕ) (part : Option (PartState V M)) → HasEnded job (Some old) rows n p part → HasShare job rows n p (run_length job rows) part
      by p None h = absurd h
      by p (Some part) h = h.part_run.run

  old_rise : HasRisingIds old
  old_rise = by (get_or parts 0 None) (ended.parts_are 0 ended.some)
    where
      by : (part : Option (PartState V M)) → HasEnded job (Some old) rows n 0 part → HasRisingIds old
      by None h = absurd h
      by (Some part) h = h.part_run.warm.whole.rise

  state_kept : (id : ℕ) → has_id (flat_map (apart_in s (run_length job old)) parts) id ≡ false
      → state_at job old (run_length job old) id ≡ state_at job rows s id
  state_kept id other =
      by (get_or parts (id % n) None) (ended.parts_are (id % n) (mod-lt id ended.some))
      (none_at id (apart_in s (run_length job old)) None refl parts (id % n) other)
    where
      by : (part : Option (PartState V M)) → HasEnded job (Some old) rows n (id % n) part → has_id (apart_in s (run_length job old) part) id ≡ false
          → state_at job old (run_length job old) id ≡ state_at job rows s id
      by None h none = absurd h
      by (Some part) h none =
          ended_alike job old rows n (id % n) id (eq-eqb (id % n) (id % n) refl) part h
          (subst (λ (k : ℕ). has_id (apart_in k (run_length job old) (Some part)) id ≡ false) ended.last none)
          ∙ ap (λ (k : ℕ). state_at job rows k id) (sym ended.last)

  abbrev before : List (ℕ × V)
  before = values_of job old (configuration job old (run_length job old))

  abbrev now : List (ℕ × V)
  now = values_of job rows (configuration job rows s)

  keys_are : (xs : List (VertexWithInbox V M)) → keys_of (map (λ x. (x.state.id, x.state.value)) xs) ≡ ids xs
  keys_are [] = refl
  keys_are (x ∷ xs) = ap (λ l. x.state.id ∷ l) (keys_are xs)

  values_rise : (rs : Rows) → HasRisingIds rs → (k : ℕ) → HasRisingIds (values_of job rs (configuration job rs k))
  values_rise rs rise k = subst (IsStrictlySortedBy nat_cmp) (sym (keys_are (configuration job rs k).with_inboxes)) (in_order job rs rise k).with_inboxes

  -- the old values with those of these rising ids, among which all are that may have ended otherwise
  pub patched_are : (is : List ℕ) → IsStrictlySortedBy nat_cmp is → ((id : ℕ) → has_id is id ≡ has_id (flat_map (apart_in s (run_length job old)) parts) id)
      → with_changes (new_values n s (traces_of parts) is) before ≡ now
  patched_are is rise same =
      same_entries (with_changes changes before) now (rises-changes changes before old_rises) new_rises
      (λ q. value_at-with_changes changes before q changes_rise old_rises
      ∙ (ap (λ o. unwrap_or o (value_at q before)) (found_at made q is) ∙ by q (has_id is q) refl))
    where
      made : ℕ → Option V
      made id = option_map (λ x. x.value) (state_by n s (traces_of parts) id)

      changes : List (ℕ × Option V)
      changes = new_values n s (traces_of parts) is

      old_rises : HasRisingIds before
      old_rises = values_rise old old_rise (run_length job old)

      new_rises : HasRisingIds now
      new_rises = values_rise rows (rows_rise job rows n s parts have_shares) s

      changes_rise : ChangesRise changes
      changes_rise = subst (IsStrictlySortedBy nat_cmp) (sym (keys_made made is)) rise

      by : (q : ℕ) (b : Bool) → has_id is q ≡ b → unwrap_or (cond b (Some (made q)) None) (value_at q before) ≡ value_at q now
      by q true e =
          ap (option_map (λ x. x.value)) (same_state n s parts q ∙ state_is job rows n s parts have_shares q)
          ∙ sym (value_of q (configuration job rows s).with_inboxes)
      by q false e =
          value_of q (configuration job old (run_length job old)).with_inboxes
          ∙ (ap (option_map (λ x. x.value)) (state_kept q (sym (same q) ∙ e)) ∙ sym (value_of q (configuration job rows s).with_inboxes))

-- the same of what is borrowed of the old run's end, where that run is kept for each partition
module _ {V M : Type 0} (job : Job V M) (rows : Rows) (n s : ℕ) (parts : List (Option (PartState V M))) (step_input : Ended V) where
  pub patched_warm : (keeps : ℕ → Option Rows) → HaveEnded job keeps rows n s parts → KeepsEnd job keeps n (Some step_input) → (is : List ℕ)
      → IsStrictlySortedBy nat_cmp is → ((id : ℕ) → has_id is id ≡ has_id (flat_map (apart_in s step_input.supersteps) parts) id)
      → with_changes (new_values n s (traces_of parts) is) step_input.values ≡ values_of job rows (configuration job rows s)
  patched_warm keeps ended end is rise same =
      ap (with_changes (new_values n s (traces_of parts) is)) end.answered.values_are
      ∙ patched_are job end.old rows n s parts ended_warm is rise
      (subst (λ (k : ℕ). (id : ℕ) → has_id is id ≡ has_id (flat_map (apart_in s k) parts) id) end.answered.supersteps_are same)
    where
      ended_warm : HaveEnded job (λ p. Some end.old) rows n s parts
      ended_warm = record {
        parts_are = λ p within. subst (λ k. HasEnded job k rows n p (get_or parts p None)) (end.for_all p within) (ended.parts_are p within);
        some = ended.some;
        last = ended.last;
      }

-- ids that rise, with values, rise
pub new_values_rise : {V M : Type 0} (n s : ℕ) (traces : List (Option (Trace V M))) (is : List ℕ) → IsStrictlySortedBy nat_cmp is
    → ChangesRise (new_values n s traces is)
new_values_rise n s traces is rise =
    subst (IsStrictlySortedBy nat_cmp) (sym (keys_made (λ id. option_map (λ x. x.value) (state_by n s traces id)) is)) rise
