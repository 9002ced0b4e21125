use Rattle.std.proofs.Common.{◌≡◌, ◌++◌, map, take}
use Rattle.std.specs.Int.{int_min}
use Rattle.example_widest.proofs.program.send_on.Given as goal

abbrev pub invariant-loop-target : goal.invariant-loop-target
invariant-loop-target l = l.cx ≡ record l.initial.cx {
  sent = l.initial.cx.sent ++ map (λ e. (e.0, int_min l.width e.1)) (take l.target-index l.edges);
}
