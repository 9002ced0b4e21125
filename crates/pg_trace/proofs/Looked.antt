-- States by what an index and the records of supersteps have.
use Rattle.std.proofs.Common.{◌≡◌, ℕ, List, [], get_or, Option, None, Some, option_map, sym, ap, ◌∙◌}
use Rattle.std.specs.Option.{option_and_then, option_or}
use Rattle.pg_map.specs.Entries.{value_at}
use Rattle.pg_trace_index.specs.Occurrences.{IsIndex, last_of, steps_below, steps_in}
use Rattle.pg_trace_index.proofs.Last.{record_before}
use Rattle.pg_model.specs.declared.configuration.VertexState.{VertexState}
use Rattle.pg_model.specs.declared.record.Record.{Record}
use Rattle.pg_trace.specs.Trace.{Trace, left_by, state_at, state_of}

module _ {V M : Type 0} (initial : List (VertexState V)) (rs : List (List (ℕ × Record V M))) (index : List (ℕ × List ℕ)) (is : IsIndex rs index)
    {now : Trace V M} (are : record { initial = initial; records = rs } ≡ now) (id s : ℕ) (step : Option ℕ)
    (last : step ≡ last_of (steps_below s (steps_in (value_at id index)))) {found : Option (Record V M)}
    (looked : found ≡ option_and_then (λ t. value_at id (get_or rs t [])) step) where
  -- the state that is found is that of the trace
  pub state_found : option_or (option_map (left_by id) found) (state_of id initial) ≡ state_at id s now
  state_found =
      ap (λ o. option_or (option_map (left_by id) o) (state_of id initial)) (looked ∙ record_before id rs index is s step last) ∙ ap (state_at id s) are

  pub left_found : {r : Record V M} {x : VertexState V} → x ≡ left_by id r → found ≡ Some r → Some x ≡ state_at id s now
  left_found produced there =
      ap Some produced ∙ ap (λ o. option_or (option_map (left_by id) o) (state_of id initial)) (sym there) ∙ state_found

  pub begun_found : {o : Option (VertexState V)} → o ≡ state_of id initial → found ≡ None → o ≡ state_at id s now
  begun_found begun there = begun ∙ ap (λ o. option_or (option_map (left_by id) o) (state_of id initial)) (sym there) ∙ state_found
