-- Traces with other records.
use Rattle.std.proofs.Common.{◌≡◌, ◌==◌, ℕ, Bool, true, false, cond, List, [], ◌∷◌, ◌++◌, Option, length, refl, ap, ◌∙◌}
use Rattle.pg_trace_index.specs.Records.{put_at}
use Rattle.pg_model.specs.declared.configuration.VertexState.{VertexState}
use Rattle.pg_model.specs.declared.record.Record.{Record}
use Rattle.pg_trace.specs.Trace.{Trace, reaching, with_replaced, with_superstep}

module _ {V M : Type 0} where
  abbrev pub trace_of : List (VertexState V) → List (List (ℕ × Record V M)) → Trace V M
  trace_of initial records = record { initial = initial; records = records }

  put_reached : (s : ℕ) (changes : List (ℕ × Option (Record V M))) (trace : Trace V M)
      → trace_of trace.initial (put_at s changes trace.records) ≡ with_replaced s changes (reaching s trace)
  put_reached s changes trace = by (length trace.records == s)
    where
      by : (b : Bool) → with_replaced s changes (trace_of trace.initial (cond b (trace.records ++ [] ∷ []) trace.records))
          ≡ with_replaced s changes (cond b (with_superstep [] trace) trace)
      by true = refl
      by false = refl

  pub one_put : (s n : ℕ) (changes : List (ℕ × Option (Record V M))) {before now : Trace V M} {after : List (List (ℕ × Record V M))}
      → before ≡ now → n ≡ s → after ≡ put_at n changes before.records → trace_of before.initial after ≡ with_replaced s changes (reaching s now)
  one_put s n changes {before = before} same number made =
      ap (trace_of before.initial) (made ∙ ap (λ k. put_at k changes before.records) number)
      ∙ put_reached s changes before ∙ ap (λ t. with_replaced s changes (reaching s t)) same

  pub one_pushed : (records : List (ℕ × Record V M)) {kept : List (ℕ × Record V M)} {before now : Trace V M} {after : List (List (ℕ × Record V M))}
      → before ≡ now → kept ≡ records → after ≡ before.records ++ kept ∷ [] → trace_of before.initial after ≡ with_superstep records now
  one_pushed records {before = before} same kept pushed =
      ap (trace_of before.initial) (pushed ∙ ap (λ r. before.records ++ r ∷ []) kept) ∙ ap (with_superstep records) same
