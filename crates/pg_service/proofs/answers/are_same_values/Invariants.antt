use Rattle.std.proofs.Common.{◌≡◌, take}
use Rattle.pg_service.proofs.answers.are_same_values.Given as goal

-- the entries so far are the same
abbrev pub invariant-loop-place : goal.invariant-loop-place
invariant-loop-place g l = take l.place l.own ≡ take l.place l.others
