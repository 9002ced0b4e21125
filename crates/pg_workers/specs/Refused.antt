-- Why a run on workers is refused.
use Rattle.std.specs.Prelude.{◌≡◌, ℕ, ◌<◌, ◌≤◌, Bool, true, false, List, map, length, Result, Ok, Err}
use Rattle.pg_checkpoint.specs.declared.shelf.ShelfFault.{ShelfFault}
use Rattle.pg_checkpoint.specs.declared.shelf.ShelfFault.TheVariants.{Memory as OutOfMemory, Device as Failed}
use Rattle.pg_core.specs.Handed.{Limits, losses_in, Reaches, State, first_state, Event}
use Rattle.pg_workers.specs.Losses.{AreAll, AreFated, Fated, as_reported}
use Rattle.pg_workers.specs.declared.counts.Loss.{Loss}
use Rattle.pg_workers.specs.declared.fault.RefreshFault.{RefreshFault}
use Rattle.pg_workers.specs.declared.fault.RefreshFault.TheVariants.{Memory, TooManyLosses, NoWorkers, Device}

-- the number of a refusal
abbrev pub refusal_number : RefreshFault → ℕ
refusal_number Memory = 1
refusal_number (TooManyLosses losses) = 2
refusal_number (NoWorkers losses) = 3
refusal_number Device = 4

-- the refusal for a fault of the shelf
abbrev pub refusal_by : ShelfFault → RefreshFault
refusal_by OutOfMemory = Memory
refusal_by Failed = Device

-- the refusals for the faults of a shelf
abbrev pub IsOfShelf : RefreshFault → Type 0
IsOfShelf fault = (by : ShelfFault) × (fault ≡ refusal_by by)

-- the shelf's device has failed
abbrev pub is_failure : {X : Type 0} → Result X RefreshFault → Bool
is_failure (Ok x) = false
is_failure (Err Memory) = false
is_failure (Err (TooManyLosses losses)) = false
is_failure (Err (NoWorkers losses)) = false
is_failure (Err Device) = true

module _ (fated : Fated) (limits : Limits) where
  -- these are all losses of a history that the status machine allows
  pub record AreLosses (losses : List Loss) : Type 0 where
    pub history : List Event
    pub reached : State
    pub leads : Reaches (first_state limits.partitions limits.workers) history reached
    pub losses_are : map as_reported losses ≡ losses_in (first_state limits.partitions limits.workers) history
    pub fated_are : AreFated fated 0 losses

  -- more workers fell than may; or all of them did, and no more than may
  abbrev pub MayRefuse : RefreshFault → Type 0
  MayRefuse Memory = Unit {0}
  MayRefuse (TooManyLosses losses) = AreLosses losses.items × (limits.max_losses < length losses.items)
  MayRefuse (NoWorkers losses) = AreLosses losses.items
      × ((length losses.items ≤ limits.max_losses) × AreAll limits.workers losses.items)
  MayRefuse Device = Unit {0}
