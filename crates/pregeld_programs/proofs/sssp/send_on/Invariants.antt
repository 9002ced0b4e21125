use Rattle.std.proofs.Common.{◌≡◌, ◌++◌, ◌+ℤ◌, map, take}
use Rattle.std.specs.Int.{w64, saturate_signed}
use Rattle.pregeld_programs.proofs.sssp.send_on.Given as goal

abbrev pub invariant-loop-target : goal.invariant-loop-target
invariant-loop-target l =
    l.cx ≡ record l.initial.cx { sent = l.initial.cx.sent ++ map (λ e. (e.0, saturate_signed w64 (l.distance +ℤ e.1))) (take l.target-index l.edges) }
