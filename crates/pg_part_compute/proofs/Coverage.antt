-- The vertices that a step looks at are all that may be active.
use Rattle.std.proofs.Common.{◌≡◌, ℕ, zero, suc, ◌<◌, ◌==◌, ◌||◌, not, Bool, true, false, cond, List, [], ◌∷◌, map, length, slice_index_or}
use Rattle.std.proofs.Common.{Option, None, Some, option_map, is_some, refl, sym, ap, ◌∙◌, arith, true≢false, filter, inl, inr}
use Rattle.std.proofs.lemmas.Bool.{cases_lt, eqb-true}
use Rattle.std.proofs.lemmas.List.{get_or-take, get_or_append_left, get_or_push, length-append}
use Rattle.std.proofs.lemmas.Option.{none-some, same_Some}
use Rattle.pg_graph.specs.Rows.{Rows}
use Rattle.pg_map.specs.Entries.{value_at}
use Rattle.pg_model.specs.ByIds.{state_at as run_state_at, state_left}
use Rattle.pg_model.specs.Job.{Job}
use Rattle.pg_model.specs.Needed.{with_inbox_at}
use Rattle.pg_model.specs.Run.{configuration, present_at, run_length, view_at}
use Rattle.pg_model.specs.Share.{belongs, records_below, records_in, share}
use Rattle.pg_model.specs.Superstep.{has_id, ids, is_active, is_empty, outcome}
use Rattle.pg_model.proofs.LawsAgreement.{outcome-active, outcome-idle}
use Rattle.pg_model.proofs.LawsInputs.{inputs_of_executed}
use Rattle.pg_model.proofs.LawsPresent.{is_some-with_inbox_at, at_key, state_at-next}
use Rattle.pg_model.proofs.LawsSharesAlike.{record_in_share}
use Rattle.pg_model.specs.declared.configuration.VertexWithInbox.{VertexWithInbox}
use Rattle.pg_model.specs.declared.configuration.VertexState.{VertexState}
use Rattle.pg_model.specs.declared.record.Record.{Record}
use Rattle.pg_part_compute.specs.VertexPairs.{unhalted_ids}
use Rattle.pg_trace.specs.Handed.{unhalted_after}
use Rattle.pg_trace.specs.OfRun.{HoldsRun}
use Rattle.pg_trace.specs.Trace.{Trace, records_of}

module _ {V M : Type 0} where
  -- one that isn't halted by its record isn't halted after it
  unhalted_by_record : (id : ℕ) (records : List (ℕ × Record V M)) (r : Record V M) → value_at id records ≡ Some r → r.halted ≡ false
      → has_id (unhalted_after records) id ≡ true
  unhalted_by_record id [] r e h = absurd (none-some r e)
  unhalted_by_record id (x ∷ records) r e h =
      by (x.0 == id) refl (sym (ap (λ (b : Bool). cond b (Some x.1) (value_at id records)) (at_key id x.0)) ∙ e)
      (λ k. unhalted_by_record id records r k h) (x.1.halted) refl
    where
      rest : List ℕ
      rest = unhalted_after records

      by : (b : Bool) → (x.0 == id) ≡ b → cond b (Some x.1) (value_at id records) ≡ Some r → (value_at id records ≡ Some r → has_id rest id ≡ true)
          → (t : Bool) → x.1.halted ≡ t → has_id
          (map (λ r. r.0) (cond (not t) (x ∷ filter (λ r. not r.1.halted) records) (filter (λ r. not r.1.halted) records))) id ≡ true
      by true f k later true g = absurd (true≢false (sym g ∙ (ap (λ (q : Record V M). q.halted) (same_Some x.1 r k) ∙ h)))
      by true f k later false g = ap (λ (b : Bool). b || has_id rest id) f
      by false f k later true g = later k
      by false f k later false g = ap (λ (b : Bool). b || has_id rest id) f ∙ later k

  -- ids among those of a partition
  id_in_part : (n p id : ℕ) → belongs n p id ≡ true → (xs : List (VertexWithInbox V M)) → has_id (ids xs) id ≡ true
      → has_id (map (λ x. x.id) (map (λ x. x.state) (filter (λ x. belongs n p x.state.id) xs))) id ≡ true
  id_in_part n p id mine [] h = absurd (true≢false (sym h))
  id_in_part n p id mine (x ∷ xs) h = by (x.state.id == id) refl h (id_in_part n p id mine xs) (belongs n p x.state.id) refl
    where
      picked : List (VertexWithInbox V M)
      picked = filter (λ x. belongs n p x.state.id) xs

      rest : Bool
      rest = has_id (map (λ x. x.id) (map (λ x. x.state) picked)) id

      by : (b : Bool) → (x.state.id == id) ≡ b → (b || has_id (ids xs) id) ≡ true → (has_id (ids xs) id ≡ true → rest ≡ true)
          → (t : Bool) → belongs n p x.state.id ≡ t → has_id (map (λ x. x.id) (map (λ x. x.state) (cond t (x ∷ picked) picked))) id ≡ true
      by true e k later true g = ap (λ (b : Bool). b || rest) e
      by true e k later false g = absurd (true≢false (sym mine ∙ (ap (belongs n p) (sym (eqb-true x.state.id id e)) ∙ g)))
      by false e k later true g = ap (λ (b : Bool). b || rest) e ∙ later k
      by false e k later false g = later k

  module _ (job : Job V M) (rows : Rows) (n p : ℕ) (trace : Trace V M) where
    pub length_below : (r : ℕ) → length (records_below job rows n p r) ≡ r
    unfolding records_below
    length_below zero = refl
    length_below (suc r) = length-append (records_below job rows n p r) (records_in job rows n p r ∷ []) ∙ (let h = length_below r in omega arith)

    at_below : (r s : ℕ) → s < r → slice_index_or (records_below job rows n p r) s [] ≡ records_in job rows n p s
    unfolding records_below
    at_below zero s below = absurd (omega arith)
    at_below (suc r) s below =
        let long = length_below r in
        elim (cases_lt s r) [
          | inl less ↦
              get_or_append_left (records_below job rows n p r) (records_in job rows n p r ∷ []) [] s (omega (arith, long, less)) ∙ at_below r s less
          | inr more ↦
              let same : s ≡ r = omega (arith, below, more) in
              get_or_push (records_below job rows n p r) (records_in job rows n p r) [] s (long ∙ sym same) ∙ ap (records_in job rows n p) (sym same)
        ]

    -- a trace's records of a superstep that it holds are the run's
    pub records_held : (s r : ℕ) → HoldsRun job rows n p r trace → s < r → records_of s trace ≡ records_in job rows n p s
    records_held s r holds below = sym (get_or-take r trace.records s [] below) ∙ (ap (λ l. slice_index_or l s []) holds.records ∙ at_below r s below)

    -- what isn't halted as a superstep begins isn't halted by the trace
    pub unhalted_in_run : (r id : ℕ) → HoldsRun job rows n p r trace → r < run_length job rows → belongs n p id ≡ true → (state : VertexState V)
        → run_state_at job rows r id ≡ Some state → state.halted ≡ false → has_id (unhalted_ids r trace) id ≡ true
    unfolding share
    unhalted_in_run zero id holds within mine state at up =
        ap (λ l. has_id (map (λ x. x.id) l) id) holds.initial
        ∙ id_in_part n p id mine (configuration job rows 0).with_inboxes
        (sym (is_some-with_inbox_at id (configuration job rows 0).with_inboxes) ∙ some_of (with_inbox_at id (configuration job rows 0).with_inboxes) at)
      where
        some_of : (o : Option (VertexWithInbox V M)) → option_map (λ x. x.state) o ≡ Some state → is_some o ≡ true
        some_of None e = absurd (none-some state e)
        some_of (Some x) e = refl
    unhalted_in_run (suc s) id holds within mine state at up =
        ap (λ l. has_id (unhalted_after l) id) (records_held s (suc s) holds (omega arith))
        ∙ by (with_inbox_at id (present_at job rows s)) refl (sym (state_at-next job rows s id) ∙ at)
      where
        given : VertexWithInbox V M → Record V M
        given x = outcome job.program (view_at job rows s) x

        by : (o : Option (VertexWithInbox V M)) → with_inbox_at id (present_at job rows s) ≡ o → option_map (state_left job rows s) o ≡ Some state
            → has_id (unhalted_after (records_in job rows n p s)) id ≡ true
        by None e k = absurd (none-some state k)
        by (Some x) e k = found (is_active x) refl
          where
            stays_up : (given x).halted ≡ false
            stays_up = ap (λ (y : VertexState V). y.halted) (same_Some (state_left job rows s x) state k) ∙ up

            below : s < run_length job rows
            below = omega (arith, within)

            found : (b : Bool) → is_active x ≡ b → has_id (unhalted_after (records_in job rows n p s)) id ≡ true
            found true active =
                unhalted_by_record id (records_in job rows n p s) (given x)
                (record_in_share job rows n p s id holds.rise below mine
                ∙ (ap (option_map job.program.step) (inputs_of_executed job rows s id x (record { within = below; present = e; active = active }))
                ∙ ap Some (sym (outcome-active job.program (view_at job rows s) x active))))
                stays_up
            found false idle =
                let down = ap (λ (r : Record V M). r.halted) (sym (outcome-idle job.program (view_at job rows s) x idle)) ∙ stays_up in
                absurd (true≢false (sym (ap (λ (b : Bool). not b || not (is_empty x.inbox)) down) ∙ idle))
