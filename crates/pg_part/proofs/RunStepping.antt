-- A trace that holds a run up to a superstep holds it one further with that superstep's records.
use Rattle.std.proofs.Common.{◌≡◌, ℕ, ◌+◌, ◌<◌, ◌≤◌, ◌==◌, Bool, true, false, cond, List, [], ◌∷◌, ◌++◌}
use Rattle.std.proofs.Common.{length, slice_set, Option, refl, sym, ap, ap₂, ◌∙◌, arith, le_refl, suc}
use Rattle.std.proofs.lemmas.Bool.{eq-eqb}
use Rattle.std.proofs.lemmas.List.{get_or-set_same, get_or_push, length-append, length-set, take-append-le, take-set-le, take_more}
use Rattle.pg_graph.specs.Rows.{Rows}
use Rattle.pg_map.specs.Entries.{with_changes}
use Rattle.pg_model.specs.Job.{Job}
use Rattle.pg_model.specs.Share.{records_below, records_in}
use Rattle.pg_model.specs.declared.record.Record.{Record}
use Rattle.pg_trace.specs.Trace.{reaching, Trace, records_of, with_replaced, with_superstep}
use Rattle.pg_trace.specs.OfRun.{HoldsRun}

module _ {V M : Type 0} (s : ℕ) where
  nothing : List (List (ℕ × Record V M))
  nothing = [] ∷ []

  pub length-reaching : (trace : Trace V M) → s ≤ length trace.records → s < length (reaching s trace).records
  unfolding nothing
  length-reaching trace within = by (length trace.records == s) refl
    where
      by : (b : Bool) → (length trace.records == s) ≡ b → s < length (cond b (with_superstep [] trace) trace).records
      by true e = let more = length-append trace.records nothing in omega (arith, more, within)
      by false e =
          let apart : length trace.records ≡ s → ⊥ = λ same. absurd (true_false (sym (eq-eqb (length trace.records) s same) ∙ e)) in
          omega (arith, within, apart)
        where
          true_false : true ≡ false → ⊥
          true_false h = cc

  -- with changed records of the superstep, the one after it can come next
  pub next_within : (trace : Trace V M) (changes : List (ℕ × Option (Record V M))) {after : Trace V M} {next : ℕ} → s ≤ length trace.records
      → after ≡ with_replaced s changes (reaching s trace) → next ≡ s + 1 → next ≤ length after.records
  next_within trace changes within is next =
      let reached = length-reaching trace within in
      let long = ap (λ t. length t.records) is ∙ length-set (reaching s trace).records s (with_changes changes (records_of s (reaching s trace))) in
      omega (arith, next, long, reached)

  -- the superstep that comes next has no records yet
  pub reaching_next : (trace : Trace V M) → length trace.records ≡ s → (records_of s (reaching s trace) ≡ []) × (length (reaching s trace).records ≡ s + 1)
  unfolding nothing
  reaching_next trace long = by (length trace.records == s) (eq-eqb (length trace.records) s long)
    where
      by : (b : Bool) → b ≡ true
          → (records_of s (cond b (with_superstep [] trace) trace) ≡ []) × (length (cond b (with_superstep [] trace) trace).records ≡ s + 1)
      by true e = (get_or_push trace.records [] [] s long, (let more = length-append trace.records nothing in omega (arith, more, long)))
      by false e = absurd (false_true e)
        where
          false_true : false ≡ true → ⊥
          false_true h = cc

module _ {V M : Type 0} (job : Job V M) (rows : Rows) (n p s : ℕ) where
  -- with one superstep more it still holds the run so far
  reaching_holds : (trace : Trace V M) → HoldsRun job rows n p s trace → s ≤ length trace.records → HoldsRun job rows n p s (reaching s trace)
  reaching_holds trace holds within = by (length trace.records == s)
    where
      by : (b : Bool) → HoldsRun job rows n p s (cond b (with_superstep [] trace) trace)
      by true = record { rise = holds.rise; initial = holds.initial; records = take-append-le s trace.records ([] ∷ []) within ∙ holds.records }
      by false = holds

  -- and with the records of that superstep it holds the run one further
  replaced_holds : (trace : Trace V M) (changes : List (ℕ × Option (Record V M))) → HoldsRun job rows n p s trace → s < length trace.records
      → with_changes changes (records_of s trace) ≡ records_in job rows n p s → HoldsRun job rows n p (s + 1) (with_replaced s changes trace)
  unfolding records_below
  replaced_holds trace changes holds within are = record {
    rise = holds.rise;
    initial = holds.initial;
    records =
        let now = slice_set trace.records s (with_changes changes (records_of s trace)) in
        take_more now s [] (let long = length-set trace.records s (with_changes changes (records_of s trace)) in omega (arith, within, long))
        ∙ ap₂ (λ l x. l ++ x ∷ [])
        (take-set-le s trace.records s (with_changes changes (records_of s trace)) (le_refl s) ∙ holds.records)
        (get_or-set_same trace.records s (with_changes changes (records_of s trace)) [] within ∙ are)
        ∙ ap (records_below job rows n p) (let e : suc s ≡ s + 1 = omega arith in e);
  }

  pub stepped_holds : (trace : Trace V M) (changes : List (ℕ × Option (Record V M))) → HoldsRun job rows n p s trace → s ≤ length trace.records
      → with_changes changes (records_of s (reaching s trace)) ≡ records_in job rows n p s
      → HoldsRun job rows n p (s + 1) (with_replaced s changes (reaching s trace))
  stepped_holds trace changes holds within are =
      replaced_holds (reaching s trace) changes (reaching_holds trace holds within) (length-reaching s trace within) are
