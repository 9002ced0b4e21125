-- A partition that goes on by the records of the run holds its share of that.
use Rattle.std.proofs.Common.{◌≡◌, ℕ, ◌+◌, ◌-◌, ◌<◌, ◌==◌, Bool, true, false, cond, is_some, List, [], ◌∷◌, ◌++◌, length, Option, None, Some}
use Rattle.std.proofs.Common.{slice_set, option_map, refl, sym, ap, ◌∙◌, arith, subst, append_assoc, true≢false, inl, inr, ◌⊎◌}
use Rattle.std.specs.Map.{keys_of}
use Rattle.std.proofs.lemmas.Bool.{cases_Bool, eq-eqb}
use Rattle.std.proofs.lemmas.List.{append-nil, get_or_push, length-append, set-append_right}
use Rattle.std.proofs.lemmas.Option.{none-some}
use Rattle.pg_graph.specs.Rows.{Rows}
use Rattle.pg_map.specs.Entries.{HasRisingIds, value_at, with_changes}
use Rattle.pg_model.specs.Job.{Inputs, Job}
use Rattle.pg_model.specs.Needed.{inputs_at}
use Rattle.pg_model.specs.Run.{run_length}
use Rattle.pg_model.specs.Share.{belongs, records_in}
use Rattle.pg_model.specs.Superstep.{has_id}
use Rattle.pg_model.specs.declared.record.Record.{Record}
use Rattle.pg_model.proofs.LawsPresent.{IsIdleAt-from_inputs}
use Rattle.pg_model.proofs.LawsSharesAlike.{record_in_share}
use Rattle.pg_trace.proofs.Handed.{each_some, given_some}
use Rattle.pg_part_compute.proofs.WorkItems.{has_key, not_key}
use Rattle.pg_part_compute.proofs.Recording.{no_other_record, records_rise}
use Rattle.pg_part.specs.PartRun.{AreTheOnly, PartRunState, Holds, IsResumed, with_resumed}
use Rattle.pg_part.proofs.RunStepping.{reaching_next, stepped_holds}
use Rattle.pg_trace.specs.OfRun.{HoldsRun}
use Rattle.pg_trace.specs.Trace.{Trace, reaching, records_of, with_replaced, with_superstep}

module _ {V M : Type 0} where
  -- the records of the superstep that comes next are one superstep more
  pub next_recorded : (s : ℕ) (records : List (ℕ × Record V M)) (trace : Trace V M) → HasRisingIds records → length trace.records ≡ s
      → with_replaced s (each_some records) (reaching s trace) ≡ with_superstep records trace
  next_recorded s records trace rise long = by (length trace.records == s) (eq-eqb (length trace.records) s long)
    where
      nothing : List (List (ℕ × Record V M))
      nothing = [] ∷ []

      by : (b : Bool) → b ≡ true → with_replaced s (each_some records) (cond b (with_superstep [] trace) trace) ≡ with_superstep records trace
      by true e =
          let none : s - s ≡ 0 = omega arith in
          let given = ap (with_changes (each_some records)) (get_or_push trace.records [] [] s long) ∙ given_some records rise in
          let put = set-append_right trace.records ([] ∷ []) s s (with_changes (each_some records) (records_of s (with_superstep [] trace))) long (omega arith)
          ∙ ap (λ k. trace.records ++ slice_set ([] ∷ []) k (with_changes (each_some records) (records_of s (with_superstep [] trace)))) none
          ∙ ap (λ l. trace.records ++ l ∷ []) given in
          λ i. record { initial = trace.initial; records = put i }
      by false e = absurd (true≢false (sym e))

  pub resumed_trace : (s : ℕ) (records : List (ℕ × Record V M)) {changes : List (ℕ × Option (Record V M))} (trace : Trace V M) {after : Trace V M}
      → HasRisingIds records → length trace.records ≡ s → changes ≡ each_some records → after ≡ with_replaced s changes (reaching s trace)
      → after ≡ with_superstep records trace
  resumed_trace s records trace rise long given is = is ∙ ap (λ l. with_replaced s l (reaching s trace)) given ∙ next_recorded s records trace rise long

  -- no superstep more, and one
  pub resumed_none : (part_run : PartRunState V M) → part_run.kept ≡ None → IsResumed [] part_run part_run
  resumed_none part_run cold = record {
    partition_stays = refl;
    partitions_stay = refl;
    missing_stays = refl;
    place_is = omega arith;
    trace_is = λ i. record { initial = part_run.trace.initial; records = sym (append-nil part_run.trace.records) i };
    cold = cold;
  }

  pub resumed_more : (before part_run after : PartRunState V M) (records : List (List (ℕ × Record V M))) (one : List (ℕ × Record V M))
      → IsResumed records before part_run → after ≡ with_resumed one part_run → IsResumed (records ++ one ∷ []) before after
  resumed_more before part_run after records one resumed is =
      subst (IsResumed (records ++ one ∷ []) before) (sym is) (record {
        partition_stays = resumed.partition_stays;
        partitions_stay = resumed.partitions_stay;
        missing_stays = resumed.missing_stays;
        place_is = let more = length-append records (one ∷ []) in let so_far = resumed.place_is in omega (arith, more, so_far);
        trace_is =
            ap (with_superstep one) resumed.trace_is
            ∙ (λ i. record { initial = before.trace.initial; records = append_assoc before.trace.records records (one ∷ []) i });
        cold = refl;
      })

module _ {V M : Type 0} (job : Job V M) (rows : Rows) (n p s : ℕ) (part_run : PartRunState V M) (holds : Holds job None rows n p s part_run)
    (records : List (ℕ × Record V M)) (are : records ≡ records_in job rows n p s) where
  long : length part_run.trace.records ≡ s
  long = let e = holds.supersteps in omega (arith, e)

  rise : HasRisingIds records
  rise = subst HasRisingIds (sym are) (records_rise job rows n p s holds.run.rise)

  -- with the records of the run's next superstep it holds its share of that too
  pub resumed_holds : Holds job None rows n p (s + 1) (with_resumed records part_run)
  resumed_holds = record {
    partition_is = holds.partition_is;
    partitions_are = holds.partitions_are;
    missing_is = holds.missing_is;
    place_is = ap (λ k. k + 1) holds.place_is;
    run = subst (HoldsRun job rows n p (s + 1)) (next_recorded s records part_run.trace rise long)
        (stepped_holds job rows n p s part_run.trace (each_some records) holds.run (omega (arith, long))
        (ap (with_changes (each_some records)) (reaching_next s part_run.trace long).0 ∙ given_some records rise ∙ are));
    supersteps = let more = length-append part_run.trace.records (records ∷ []) in omega (arith, more, long);
    warm = refl;
  }

  -- and their ids are all that the superstep may have changed
  pub resumed_only : s < run_length job rows → AreTheOnly job rows n p s (keys_of records)
  resumed_only within = record {
    rise = rise;
    mine = λ id among. mine id among (cases_Bool (belongs n p id));
    records = none_else;
    states = λ id belongs other.
        (IsIdleAt-from_inputs job rows s id within
        (no_inputs (inputs_at job rows s id) (sym (record_in_share job rows n p s id holds.run.rise within belongs) ∙ none_else id other))).state;
  }
    where
      none_else : (id : ℕ) → has_id (keys_of records) id ≡ false → value_at id (records_in job rows n p s) ≡ None
      none_else id other = ap (value_at id) (sym are) ∙ not_key id records other

      mine : (id : ℕ) → has_id (keys_of records) id ≡ true → (belongs n p id ≡ true) ⊎ (belongs n p id ≡ false) → belongs n p id ≡ true
      mine id among (inl own) = own
      mine id among (inr other) =
          absurd (true≢false (sym among ∙ sym (has_key id records) ∙ ap is_some (ap (value_at id) are ∙ no_other_record job rows n p s id other)))

      no_inputs : (o : Option (Inputs V M)) → option_map job.program.step o ≡ None → o ≡ None
      no_inputs None e = refl
      no_inputs (Some i) e = absurd (none-some (job.program.step i) (sym e))
