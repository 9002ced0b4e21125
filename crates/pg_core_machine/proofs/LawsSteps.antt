-- What a step of the status machine leaves: the partition that steps, and the others.
use Rattle.std.proofs.Common.{◌≡◌, ℕ, ◌+◌, ◌<◌, ◌≤◌, ◌≢◌, true, false, List, length, Option, None, Some}
use Rattle.std.proofs.Common.{refl, ap, sym, ◌∙◌}
use Rattle.std.specs.Prelude.{nat_le}
use Rattle.std.specs.List.{list_all}
use Rattle.std.specs.Option.{option_map}
use Rattle.std.proofs.lemmas.Bool.{and_parts, leb-true, true≢false}
use Rattle.std.proofs.lemmas.List.{get_or-set_other, get_or-set_same}
use Rattle.std.proofs.lemmas.List.Sums.{AllPass-from_list_all}
use Rattle.pg_core_machine.specs.Limits.{Limits}
use Rattle.pg_core_machine.specs.Machine.{Reaches, State, after, first_state, is_allowed, is_from, may_step, place_at}
use Rattle.pg_core_machine.specs.declared.event.Event.{Event}
use Rattle.pg_core_machine.specs.declared.event.Event.TheVariants.{Step}
use Rattle.pg_core_machine.proofs.LawsMachine.{length-first, length-places_all, some_within}

-- ---- the partition that steps

-- a partition that may step is at a superstep that is open or was, and so are the others, or further
pub record StepsFrom (state : State) (p : ℕ) : Type 0 where
  pub from : ℕ
  pub at : place_at p state ≡ Some from
  pub open_or_before : from ≤ state.current
  pub others : (q : ℕ) → q < length state.places → is_from from (place_at q state) ≡ true

pub StepsFrom-from_allowed : (state : State) (p : ℕ) → is_allowed state (Step p) ≡ true → StepsFrom state p
StepsFrom-from_allowed state p allowed = by (place_at p state) refl (and_parts _ _ allowed).1
  where
    by : (place : Option ℕ) → place_at p state ≡ place → may_step state place ≡ true → StepsFrom state p
    by None at may = absurd (true≢false (sym may))
    by (Some r) at may =
        let parts : (nat_le r state.current ≡ true) × (list_all (is_from r) state.places ≡ true) = and_parts _ _ may in
        record {
          from = r;
          at = at;
          open_or_before = leb-true r state.current parts.0;
          others = λ q within. AllPass-from_list_all (is_from r) state.places parts.1 q None within;
        }

-- the place of the partition after its step, and those of the others
pub place_after_own : (state : State) (p r : ℕ) → place_at p state ≡ Some r → place_at p (after state (Step p)) ≡ Some (r + 1)
place_after_own state p r at =
    get_or-set_same state.places p _ None (some_within state.places p r at) ∙ ap (option_map (λ r. r + 1)) at

pub place_after_other : (state : State) (p q : ℕ) → q ≢ p → place_at q (after state (Step p)) ≡ place_at q state
place_after_other state p q apart = get_or-set_other state.places p q _ None apart

-- there are as many partitions as there were at first
pub length-places_lawful : (limits : Limits) (state : State) (history : List Event)
    → Reaches (first_state limits.partitions limits.workers) history state
    → length state.places ≡ limits.partitions
length-places_lawful limits state history reaches =
    ap (λ (s : State). length s.places) (sym reaches.leads)
    ∙ (length-places_all (first_state limits.partitions limits.workers) history ∙ length-first limits.partitions limits.workers)
