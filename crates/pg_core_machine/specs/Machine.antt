-- The status machine of a run over partitions: what each event needs, and what it makes of the state (this project's).
use Rattle.std.specs.Prelude.{◌≡◌, ℕ, ◌+◌, ◌%◌, ◌==◌, ◌<◌, nat_lt, nat_le, Bool, true, false, cond, not, ◌||◌, ◌&&◌}
use Rattle.std.specs.Prelude.{List, [], ◌∷◌, ◌++◌, map, length}
use Rattle.std.specs.Prelude.{slice_index_or, slice_set, Option, None, Some, is_some}
use Rattle.std.specs.List.{list_all, range_with_len, count_by}
use Rattle.std.specs.Option.{option_map}
use Rattle.pg_core_machine.specs.declared.event.Closed.{Closed}
use Rattle.pg_core_machine.specs.declared.event.Closed.TheVariants.{Next, Ended}
use Rattle.pg_core_machine.specs.declared.event.Event.{Event}
use Rattle.pg_core_machine.specs.declared.event.Event.TheVariants.{Step, Lose, Host, Restore, Save, Close}

-- by partition the worker that hosts it, the superstep that it is at (none where it is lost) and the one that was
-- saved; the open superstep; by worker whether it is alive; whether the run has ended
pub record State : Type 0 where
  pub hosts : List ℕ
  pub places : List (Option ℕ)
  pub saved : List (Option ℕ)
  pub current : ℕ
  pub alive : List Bool
  pub ended : Bool

-- as a run begins
abbrev pub first_state : ℕ → ℕ → State
first_state partitions workers = record {
  hosts = map (λ p. p % workers) (range_with_len 0 partitions);
  places = map (λ p. Some 0) (range_with_len 0 partitions);
  saved = map (λ p. None) (range_with_len 0 partitions);
  current = 0;
  alive = map (λ w. true) (range_with_len 0 workers);
  ended = false;
}

abbrev pub host_of : ℕ → State → ℕ
host_of p state = slice_index_or state.hosts p 0

abbrev pub place_at : ℕ → State → Option ℕ
place_at p state = slice_index_or state.places p None

abbrev pub saved_at : ℕ → State → Option ℕ
saved_at p state = slice_index_or state.saved p None

abbrev pub is_alive : ℕ → State → Bool
is_alive w state = slice_index_or state.alive w false

abbrev pub is_partition : ℕ → State → Bool
is_partition p state = nat_lt p (length state.places)

-- a partition is at superstep r, or at r or later; a lost one is at none
abbrev pub is_at : ℕ → Option ℕ → Bool
is_at r None = false
is_at r (Some place) = place == r

abbrev pub is_from : ℕ → Option ℕ → Bool
is_from r None = false
is_from r (Some place) = nat_le r place

-- a partition at this place may step: the superstep is open or was, and every partition is there or further
abbrev pub may_step : State → Option ℕ → Bool
may_step state None = false
may_step state (Some r) = nat_le r state.current && list_all (is_from r) state.places

-- what an event needs, in a run that hasn't ended
abbrev pub may_happen : State → Event → Bool
may_happen state (Step p) = may_step state (place_at p state)
may_happen state (Lose w) = is_alive w state
may_happen state (Host p w) = is_partition p state && is_alive w state
may_happen state (Restore p r) =
    is_partition p state && (not (is_some (place_at p state))
    && (is_alive (host_of p state) state && ((r == 0) || is_at r (saved_at p state))))
may_happen state (Save p) = is_some (place_at p state)
may_happen state (Close answer) = list_all (is_at (state.current + 1)) state.places

-- no event follows the end
abbrev pub is_allowed : State → Event → Bool
is_allowed state event = not state.ended && may_happen state event

-- the places as worker w leaves them, by their hosts
abbrev pub places_without : ℕ → List ℕ → List (Option ℕ) → List (Option ℕ)
places_without w [] places = places
places_without w (host ∷ hosts) [] = []
places_without w (host ∷ hosts) (place ∷ places) = cond (host == w) None place ∷ places_without w hosts places

abbrev pub closed : State → Closed → State
closed state Next = record state { current = state.current + 1 }
closed state Ended = record state { ended = true }

-- the state after an event
abbrev pub after : State → Event → State
after state (Step p) = record state { places = slice_set state.places p (option_map (λ r. r + 1) (place_at p state)) }
after state (Lose w) = record state {
  alive = slice_set state.alive w false;
  places = places_without w state.hosts
      state.places;
}
after state (Host p w) = record state { hosts = slice_set state.hosts p w }
after state (Restore p r) = record state { places = slice_set state.places p (Some r) }
after state (Save p) = record state { saved = slice_set state.saved p (place_at p state) }
after state (Close answer) = closed state answer

-- the state after these events
abbrev pub after_all : State → List Event → State
after_all state [] = state
after_all state (event ∷ events) = after_all (after state event) events

-- each of these events is allowed where it happens
abbrev pub are_allowed : State → List Event → Bool
are_allowed state [] = true
are_allowed state (event ∷ events) = is_allowed state event && are_allowed (after state event) events

-- these events lead from one state to another
pub record Reaches (from : State) (events : List Event) (to : State) : Type 0 where
  pub allowed : are_allowed from events ≡ true
  pub leads : after_all from events ≡ to

-- an event takes partition p away
abbrev pub takes : ℕ → State → Event → Bool
takes p state (Step q) = false
takes p state (Lose w) = host_of p state == w
takes p state (Host q w) = false
takes p state (Restore q r) = false
takes p state (Save q) = false
takes p state (Close answer) = false

-- one of these events takes partition p away
abbrev pub was_lost : ℕ → State → List Event → Bool
was_lost p state [] = false
was_lost p state (event ∷ events) = takes p state event || was_lost p (after state event) events

abbrev pub is_step : ℕ → Event → Bool
is_step p (Step q) = q == p
is_step p (Lose w) = false
is_step p (Host q w) = false
is_step p (Restore q r) = false
is_step p (Save q) = false
is_step p (Close answer) = false

-- how many steps partition p made
abbrev pub steps_of : ℕ → List Event → ℕ
steps_of p events = count_by (is_step p) events

-- each Restore follows a Lose that took its partition
abbrev pub RestoresFollowLosses : State → List Event → Type 0
RestoresFollowLosses from events =
    (p r : ℕ) (before later : List Event) → events ≡ before ++ Restore p r ∷ later → was_lost p from before ≡ true

-- a partition that none of these events took has made as many steps as it is far, and as there were supersteps in a run
-- that has ended
pub record StepsTell (partitions : ℕ) (from : State) (events : List Event) (to : State) : Type 0 where
  pub place : (p : ℕ) → p < partitions → was_lost p from events ≡ false → place_at p to ≡ Some (steps_of p events)
  pub all : to.ended ≡ true → (p : ℕ) → p < partitions → was_lost p from events ≡ false
      → steps_of p events ≡ to.current + 1
