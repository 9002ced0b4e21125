use Rattle.std.proofs.Common.{◌≡◌, ℕ, None, get_or}
use Rattle.pg_workers.proofs.outcomes.no_steps.Given as goal

-- no step stands there yet
abbrev pub invariant-loop : goal.invariant-loop
invariant-loop g l = (p : ℕ) → get_or l.steps.items p None ≡ None
