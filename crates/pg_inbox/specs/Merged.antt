-- Lists of envelopes by target, and the inboxes that they make together.
use Rattle.std.specs.Prelude.{◌≡◌, ℕ, ◌≤◌, false, List, [], map, drop, Option, MatchOption}
use Rattle.std.specs.List.{AllByRecursion, flat_map}
use Rattle.std.specs.List.Sorted.{IsNonDecreasingBy}
use Rattle.std.specs.Option.{option_map}
use Rattle.pg_map.specs.Entries.{HasRisingIds, value_at}
use Rattle.pg_model.specs.Superstep.{is_empty}
use Rattle.pg_inbox_messages.specs.Contents.{messages}
use Rattle.pg_inbox_messages.specs.Grouping.{any_of, items_to, run_len}
use Rattle.pg_inbox_bundles.specs.Ordered.{in_order}

module _ {X : Type 0} where
  -- what the lists have for a target, list by list
  abbrev pub all_to : ℕ → List (List (ℕ × X)) → List X
  all_to target lists = flat_map (items_to target) lists

  -- the lists behind what they have for a target at their beginning
  abbrev pub lists_after : ℕ → List (List (ℕ × X)) → List (List (ℕ × X))
  lists_after target lists = map (λ l. drop (run_len target l) l) lists

  -- each list stands by target
  abbrev pub StandByTarget : List (List (ℕ × X)) → Type 0
  StandByTarget lists = AllByRecursion (λ l. IsNonDecreasingBy (λ i. i.0) l) lists

  -- and none has a lower target
  abbrev pub StandFrom : ℕ → List (List (ℕ × X)) → Type 0
  StandFrom lowest lists = AllByRecursion (λ l. IsNonDecreasingBy (λ i. i.0) l × AllByRecursion (λ i. lowest ≤ i.0) l)
      lists

  -- it is the lowest target of all lists
  pub record IsLowest (lists : List (List (ℕ × X))) (target : ℕ) : Type 0 where
    pub from : StandFrom target lists
    pub some : is_empty (all_to target lists) ≡ false

  -- so it is, or all lists are empty
  abbrev pub IsLowestOf : List (List (ℕ × X)) → Option ℕ → Type 0
  IsLowestOf lists lowest = MatchOption lowest (AllByRecursion (λ l. l ≡ []) lists) (IsLowest lists)

module _ {M : Type 0} where
  -- an inbox of these envelopes, if there are any
  abbrev pub inbox_by_sender : List (ℕ × M) → Option (List M)
  inbox_by_sender envelopes = option_map (λ l. messages (in_order l)) (any_of envelopes)

  -- each target has an inbox of what all lists have for it, by rising target
  pub record AreMerged (lists : List (List (ℕ × (ℕ × M)))) (inboxes : List (ℕ × List M)) : Type 0 where
    pub rise : HasRisingIds inboxes
    pub each : (id : ℕ) → value_at id inboxes ≡ inbox_by_sender (all_to id lists)
