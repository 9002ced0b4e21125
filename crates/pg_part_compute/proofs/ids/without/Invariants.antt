use Rattle.std.proofs.Common.{◌≡◌, take}
use Rattle.pg_part_compute.specs.Diverged.{without}
use Rattle.pg_part_compute.proofs.ids.without.Given as goal

abbrev pub invariant-loop-id : goal.invariant-loop-id
invariant-loop-id l = record { rest : l.rest.items ≡ without (take l.id-index l.ids) l.others }
