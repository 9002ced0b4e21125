use Rattle.std.proofs.Common.{◌≡◌, ◌++◌, map, take}
use Rattle.pg_program.proofs.context.push_to_all.Given as goal

abbrev pub invariant-loop-edge : goal.invariant-loop-edge
invariant-loop-edge g l = l.sent ≡ l.initial.sent ++ map (λ e. (e.0, l.message)) (take l.edge-index l.edges)
