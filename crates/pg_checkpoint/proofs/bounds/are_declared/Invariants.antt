use Rattle.std.proofs.Common.{◌≡◌, drop}
use Rattle.std.specs.List.{list_all}
use Rattle.pg_model.specs.Job.{has_place}
use Rattle.pg_checkpoint.proofs.bounds.are_declared.Given as goal

abbrev pub invariant-loop-contribution : goal.invariant-loop-contribution
invariant-loop-contribution l =
    list_all (λ c. has_place l.writes c.0) (drop l.contribution-index l.contributed) ≡ list_all (λ c. has_place l.writes c.0) l.contributed
