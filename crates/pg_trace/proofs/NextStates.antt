-- The states of a trace with changes of the superstep that comes next.
use Rattle.std.proofs.Common.{◌≡◌, ℕ, ◌+◌, ◌==◌, Bool, true, false, cond, List, [], ◌∷◌, ◌++◌, length, set, take, Option}
use Rattle.std.proofs.Common.{refl, ap, ap₂, ◌∙◌, arith, le_refl, option_map}
use Rattle.std.specs.Option.{option_or}
use Rattle.std.proofs.lemmas.Bool.{eq-eqb}
use Rattle.std.proofs.lemmas.List.{get_or-set_same, get_or_push, length-append, length-set, take-append-le, take-set-le, take_more}
use Rattle.pg_trace_index.specs.Records.{last_record}
use Rattle.pg_map.specs.Entries.{value_at, with_changes}
use Rattle.pg_model.specs.declared.record.Record.{Record}
use Rattle.pg_trace.specs.Trace.{Trace, left_by, reaching, records_of, state_at, state_of, with_replaced, with_superstep}
use Rattle.pg_trace.proofs.RunStates.{last-push, or_map}

module _ {V M : Type 0} (s : ℕ) (trace : Trace V M) (long : length trace.records ≡ s) (changes : List (ℕ × Option (Record V M))) where
  abbrev pub next : Trace V M
  next = with_replaced s changes (reaching s trace)

  more : take (s + 1) next.records ≡ take s trace.records ++ with_changes changes [] ∷ []
  more = by (length trace.records == s) (eq-eqb (length trace.records) s long)
    where
      by : (b : Bool) → b ≡ true
          → take (s + 1) (with_replaced s changes (cond b (with_superstep [] trace) trace)).records ≡ take s trace.records ++ with_changes changes [] ∷ []
      by false e = absurd cc
      by true e =
          let there = trace.records ++ [] ∷ [] in
          let long' = length-append trace.records ([] ∷ []) in
          let here = with_changes changes (records_of s (with_superstep [] trace)) in
          take_more (set there s here) s [] (let l = length-set there s here in omega (arith, l, long', long))
          ∙ ap₂ (λ l x. l ++ x ∷ []) (take-set-le s there s here (le_refl s) ∙ take-append-le s trace.records ([] ∷ []) (omega (arith, long)))
          (get_or-set_same there s here [] (omega (arith, long', long)) ∙ ap (with_changes changes) (get_or_push trace.records [] [] s long))

  same : take s next.records ≡ take s trace.records
  same = by (length trace.records == s) (eq-eqb (length trace.records) s long)
    where
      by : (b : Bool) → b ≡ true → take s (with_replaced s changes (cond b (with_superstep [] trace) trace)).records ≡ take s trace.records
      by false e = absurd cc
      by true e =
          take-set-le s (trace.records ++ [] ∷ []) s (with_changes changes (records_of s (with_superstep [] trace))) (le_refl s)
          ∙ take-append-le s trace.records ([] ∷ []) (omega (arith, long))

  begun : next.initial ≡ trace.initial
  begun = by (length trace.records == s)
    where
      by : (b : Bool) → (with_replaced s changes (cond b (with_superstep [] trace) trace)).initial ≡ trace.initial
      by true = refl
      by false = refl

  -- the state that an id has as that superstep begins
  pub state_before : (id : ℕ) → state_at id s next ≡ state_at id s trace
  state_before id = ap₂ (λ l states. option_or (option_map (left_by id) (last_record id l)) (state_of id states)) same begun

  -- and as the one after it begins
  pub state_next : (id : ℕ) → state_at id (s + 1) next ≡ option_or (option_map (left_by id) (value_at id (with_changes changes []))) (state_at id s trace)
  state_next id =
      ap₂ (λ l states. option_or (option_map (left_by id) (last_record id l)) (state_of id states)) more begun
      ∙ (ap (λ o. option_or (option_map (left_by id) o) (state_of id trace.initial)) (last-push id (take s trace.records) (with_changes changes []))
      ∙ or_map (left_by id) (value_at id (with_changes changes [])) (last_record id (take s trace.records)) (state_of id trace.initial))
