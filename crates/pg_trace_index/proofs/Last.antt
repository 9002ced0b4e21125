-- The last record of an id before a superstep, by what an index has of the id.
use Rattle.std.proofs.Common.{◌≡◌, ℕ, List, [], take, get_or, Option, sym, ap, ◌∙◌, subst}
use Rattle.std.specs.List.Sorted.{IsNonDecreasingBy}
use Rattle.std.specs.Option.{option_and_then}
use Rattle.pg_map.specs.Entries.{value_at}
use Rattle.pg_trace_index.specs.Occurrences.{IsIndex, StepsRise, last_of, steps_below, steps_in}
use Rattle.pg_trace_index.specs.Records.{last_record}
use Rattle.pg_trace_index.proofs.Supersteps.{last_before, ran_rises}

module _ {X : Type 0} where
  -- it is that of the last superstep before this one in which the id ran
  pub record_before : (id : ℕ) (rs : List (List (ℕ × X))) (index : List (ℕ × List ℕ)) → IsIndex rs index → (s : ℕ) (step : Option ℕ)
      → step ≡ last_of (steps_below s (steps_in (value_at id index))) → option_and_then (λ t. value_at id (get_or rs t [])) step ≡ last_record id (take s rs)
  record_before id rs index is s step last =
      ap (option_and_then (λ t. value_at id (get_or rs t []))) (last ∙ ap (λ l. last_of (steps_below s l)) (is id))
      ∙ sym (last_before id rs s)

  pub index_rises : (rs : List (List (ℕ × X))) (index : List (ℕ × List ℕ)) → IsIndex rs index → StepsRise index
  index_rises rs index is id = subst (IsNonDecreasingBy (λ t. t)) (sym (is id)) (ran_rises id 0 rs)
