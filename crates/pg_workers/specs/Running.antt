-- What the coordinator of a run keeps from round to round.
use Rattle.std.specs.Prelude.{◌≡◌, ℕ, ◌<◌, ◌≤◌, ◌^◌, Bool, true, List, []}
use Rattle.std.specs.Prelude.{◌∷◌, ◌++◌, map, length, Option, Some, Result, OnOk}
use Rattle.pg_checkpoint.specs.Loading.{key_of, part_coding}
use Rattle.pg_checkpoint.specs.Records.{AreCodable, own_records}
use Rattle.pg_checkpoint.specs.Shelf.{Fades, IsPut, ShelfState, at_key}
use Rattle.pg_checkpoint.specs.declared.shelf.ShelfFault.{ShelfFault}
use Rattle.pg_core.specs.Driving.{IsSameRun, calls_in, losses_of}
use Rattle.pg_core.specs.Progress.{IsPartAt, IsRight, Progress, part_at}
use Rattle.pg_graph.specs.Rows.{Rows}
use Rattle.pg_core.specs.Handed.{Reaches, State, after, first_state, saved_at, Event}
use Rattle.pg_model.specs.Job.{Job}
use Rattle.pg_model.specs.Run.{run_length}
use Rattle.pg_model.specs.Superstep.{capped}
use Rattle.pg_workers_rounds.specs.Handed.{HoldsShare, PartState}
use Rattle.pg_workers.specs.Losses.{AreFated, Fated, Trusts, as_reported}
use Rattle.pg_workers.specs.Meaning.{Meaning, job_of_meaning}
use Rattle.pg_workers.specs.Refused.{MayRefuse}
use Rattle.pg_workers.specs.declared.counts.Loss.{Loss}
use Rattle.pg_workers.specs.declared.fault.RefreshFault.{RefreshFault}

-- an event happened to a run, and nothing that stays with it is another
pub record Happens {P C A V M : Type 0} (event : Event) (before now : Progress P C A V M) : Type 0 where
  pub same : IsSameRun before now
  pub state_is : now.state ≡ after before.state event
  pub history_is : now.history ≡ before.history ++ event ∷ []

-- the part of partition p that is here was put on the shelf under the run's number, or it was tried
pub record HasPut {P C A V M : Type 0} (is_value : V → Type 0) (value : V → List ℕ) (is_message : M → Type 0)
    (message : M → List ℕ)
    (core : Progress P C A V M) (p : ℕ) (part : PartState V M) (before : ShelfState)
    (result : Result (Unit {0}) ShelfFault) (after : ShelfState)
    : Type 0 where
  pub here : part_at p core ≡ Some part
  pub at : IsPartAt core.limits.partitions core.state p part
  pub put : IsPut (key_of part.part_run.partition) (part_coding value message core.run part) before result after
  pub codable : OnOk result (AreCodable is_value is_message (own_records part))
  pub fits : OnOk result (length (part_coding value message core.run part) < 2 ^ 64)

-- the run, how many calls were counted, and the losses so far
pub record Coordination (P C A V M : Type 0) : Type 0 where
  pub core : Progress P C A V M
  pub calls : ℕ
  pub losses : List Loss

module _ {P C A V M : Type 0} (own : Meaning P C A V M) where
  -- partition p of n was saved at place r, in a run of this number: a part that held its share there, whose bytes have
  -- faded to what remains of them
  pub record IsSaved (job : Job V M) (rows : Rows) (n run p r : ℕ) (remaining : Option (List ℕ)) : Type 0 where
    pub part : PartState V M
    pub kept : Option Rows
    pub within : r ≤ run_length job rows
    pub holds : HoldsShare job kept rows n p r part
    pub codable : AreCodable own.is_value own.is_message (own_records part)
    pub fits : length (part_coding own.value own.message run part) < 2 ^ 64
    pub faded : Fades (Some (part_coding own.value own.message run part)) remaining

  -- the shelf has what remains of each partition that was saved
  abbrev pub AreSaved : Job V M → Rows → ℕ → ℕ → State → ShelfState → Type 0
  AreSaved job rows n run state shelf =
      (p r : ℕ) → p < n → saved_at p state ≡ Some r → IsSaved job rows n run p r (at_key shelf (key_of p))

  module _ (fated : Fated) where
    -- a run has gone on from its first state, by events that the status machine allows: the losses and the calls so far
    -- are those of its history; it is right where it was so at first, if the shelf may be trusted; and then an honest
    -- shelf has what remains of each partition that was saved
    pub record IsRunning (first : Progress P C A V M) (shelf : ShelfState) (now : Coordination P C A V M) : Type 0 where
      pub same : IsSameRun first now.core
      pub leads : Reaches (first_state now.core.limits.partitions now.core.limits.workers) now.core.history
          now.core.state
      pub losses_are : map as_reported now.losses ≡ losses_of now.core
      pub fated_are : AreFated fated 0 now.losses
      pub right : (kept : Option Rows) → IsRight (job_of_meaning own first) kept first
          → Trusts shelf.is_honest now.core.history
          → IsRight (job_of_meaning own first) kept now.core
      pub calls_are : (kept : Option Rows) → IsRight (job_of_meaning own first) kept first
          → Trusts shelf.is_honest now.core.history
          → now.calls ≡ capped (calls_in own.value_eq own.message_eq (job_of_meaning own first) kept now.core)
      pub saved : shelf.is_honest ≡ true → (kept : Option Rows) → IsRight (job_of_meaning own first) kept first
          → AreSaved (job_of_meaning own first) first.graph first.limits.partitions first.run now.core.state shelf

    -- whatever run it was that went on to the one state of things, it has gone on to the other
    abbrev pub Keeps : ShelfState → Coordination P C A V M → ShelfState → Coordination P C A V M → Type 0
    Keeps shelf before shelf_after after = (first : Progress P C A V M) → IsRunning first shelf before
        → IsRunning first shelf_after after

    -- or it may be refused for this reason
    abbrev pub MayEnd : ShelfState → Coordination P C A V M → RefreshFault → Type 0
    MayEnd shelf before fault = (first : Progress P C A V M) → IsRunning first shelf before
        → MayRefuse fated first.limits fault

  -- whatever run it was, by whatever fate, that went on to the one state of things, it has gone on to the other
  abbrev pub GoesOn : ShelfState → Coordination P C A V M → ShelfState → Coordination P C A V M → Type 0
  GoesOn shelf before shelf_after after = (fated : Fated) → Keeps fated shelf before shelf_after after

  -- so it is on whatever shelf
  abbrev pub GoesOnAnywhere : Coordination P C A V M → Coordination P C A V M → Type 0
  GoesOnAnywhere before after =
      (fated : Fated) (first : Progress P C A V M) (shelf : ShelfState)
      → IsRunning fated first shelf before → IsRunning fated first shelf after
