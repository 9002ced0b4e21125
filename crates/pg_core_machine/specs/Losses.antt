-- What a list of events says of workers that fell, and what it counts.
use Rattle.std.specs.Prelude.{◌≡◌, ℕ, ◌+◌, ◌==◌, ◌≤◌, nat_le, Bool, true, false, cond, ◌||◌, List, [], ◌∷◌, ◌++◌}
use Rattle.std.specs.Prelude.{length, Option, None, Some}
use Rattle.std.specs.List.{count_by}
use Rattle.pg_core_machine.specs.Machine.{State, after, place_at, takes}
use Rattle.pg_core_machine.specs.declared.event.Event.{Event}
use Rattle.pg_core_machine.specs.declared.event.Event.TheVariants.{Step, Lose, Host, Restore, Save, Close}

-- the lesser of two places; a partition that is lost has none
abbrev pub lesser : Option ℕ → Option ℕ → Option ℕ
lesser None other = other
lesser (Some r) None = Some r
lesser (Some r) (Some s) = Some (cond (nat_le r s) r s)

-- the least place of a partition that worker w hosts, if it hosts one that has a place
abbrev pub least_hosted : ℕ → List ℕ → List (Option ℕ) → Option ℕ
least_hosted w [] places = None
least_hosted w (host ∷ hosts) [] = None
least_hosted w (host ∷ hosts) (place ∷ places) =
    cond (host == w) (lesser place (least_hosted w hosts places)) (least_hosted w hosts places)

-- the worker that an event takes away, with that place just before it
abbrev pub lost_by : State → Event → List (ℕ × Option ℕ)
lost_by state (Step p) = []
lost_by state (Lose w) = (w, least_hosted w state.hosts state.places) ∷ []
lost_by state (Host p w) = []
lost_by state (Restore p r) = []
lost_by state (Save p) = []
lost_by state (Close answer) = []

-- those that events take away, in order, from a state on
abbrev pub losses_in : State → List Event → List (ℕ × Option ℕ)
losses_in state [] = []
losses_in state (event ∷ events) = lost_by state event ++ losses_in (after state event) events

-- how often worker w is among them
abbrev pub falls_of : ℕ → List (ℕ × Option ℕ) → ℕ
falls_of w losses = count_by (λ l. l.0 == w) losses

-- what an event counts, where a step counts what its partition needs from its place, by whether a loss has taken it
abbrev pub counts_by : (Bool → ℕ → ℕ → ℕ) → (ℕ → Bool) → State → Event → ℕ
counts_by needs lost state (Step p) = elim (place_at p state) [ None ↦ 0 | Some r ↦ needs (lost p) p r ]
counts_by needs lost state (Lose w) = 0
counts_by needs lost state (Host p w) = 0
counts_by needs lost state (Restore p r) = 0
counts_by needs lost state (Save p) = 0
counts_by needs lost state (Close answer) = 0

-- what events count, one after another, from a state on
abbrev pub counts_in : (Bool → ℕ → ℕ → ℕ) → (ℕ → Bool) → State → List Event → ℕ
counts_in needs lost state [] = 0
counts_in needs lost state (event ∷ events) =
    counts_by needs lost state event + counts_in needs (λ p. lost p || takes p state event) (after state event) events

-- an event gives no partition a place that it had saved
abbrev pub is_anew : Event → Bool
is_anew (Step p) = true
is_anew (Lose w) = true
is_anew (Host p w) = true
is_anew (Restore p r) = r == 0
is_anew (Save p) = true
is_anew (Close closed) = true
