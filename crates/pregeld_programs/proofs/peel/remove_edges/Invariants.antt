use Rattle.std.proofs.Common.{◌≡◌, take}
use Rattle.pg_model.specs.Programs.{edges_left}
use Rattle.pregeld_programs.proofs.peel.remove_edges.Given as goal

abbrev pub invariant-loop-message : goal.invariant-loop-message
invariant-loop-message l = l.vertex ≡ record l.initial.vertex { edges = edges_left l.initial.vertex.edges (take l.message-index l.messages) }
