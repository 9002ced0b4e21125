-- The workers that fell, why they fell, and what may be said of a run where a shelf isn't to be trusted.
use Rattle.std.specs.Prelude.{◌≡◌, ℕ, ◌+◌, ◌≤◌, nat_lt, Bool, true, cond, ◌||◌, List, [], ◌∷◌, map, Option, Some}
use Rattle.std.specs.List.{list_all}
use Rattle.pg_core.specs.Handed.{falls_of, is_anew, Event}
use Rattle.pg_workers.specs.declared.counts.Loss.{Loss}
use Rattle.pg_workers_rounds.specs.declared.cause.Cause.TheVariants.{Fate}

-- a loss as a history has it: the worker, and the least superstep of what it hosted
abbrev pub as_reported : Loss → ℕ × Option ℕ
as_reported loss = (loss.worker, Some loss.superstep)

-- whether a worker falls: by the superstep, how many losses were recorded before the round, the worker, and the
-- partition that it has stepped
abbrev pub Fated : Type 0
Fated = ℕ → ℕ → ℕ → ℕ → Bool

module _ (fated : Fated) where
  -- by the fate the worker falls in that superstep once it has stepped some partition, in a round before which at most
  -- so many losses were recorded
  pub record WasFated (most : ℕ) (loss : Loss) : Type 0 where
    pub attempt : ℕ
    pub partition : ℕ
    pub early : attempt ≤ most
    pub falls : fated loss.superstep attempt loss.worker partition ≡ true

  -- so it is of each of these losses of which the fate is the cause; the first of them stands at this place among all
  abbrev pub AreFated : ℕ → List Loss → Type 0
  AreFated place [] = Unit {0}
  AreFated place (loss ∷ losses) = (loss.cause ≡ Fate → WasFated place loss) × AreFated (place + 1) losses

-- each worker is among these losses once, and no other is
abbrev pub AreAll : ℕ → List Loss → Type 0
AreAll workers losses = (w : ℕ) → falls_of w (map as_reported losses) ≡ cond (nat_lt w workers) 1 0

-- the shelf is honest, or no partition went on from what it gave
abbrev pub Trusts : Bool → List Event → Type 0
Trusts honest history = (honest || list_all is_anew history) ≡ true
