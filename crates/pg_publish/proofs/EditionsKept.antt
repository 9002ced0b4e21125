-- Editions along a list and along its beginnings.
use Rattle.std.proofs.Common.{◌≤◌, ◌-◌, length, arith}
use Rattle.pg_publish.specs.Editions.{LooksNeverGoBack}
use Rattle.pg_publish.proofs.Fronts.{prefix_get, prefix_length}

pub looks_go_on : (V : Type 0) → LooksNeverGoBack V
looks_go_on V earlier later pre rises = (
  (λ i j a b le at there. rises i j a b le (prefix_get earlier later i a pre at) (prefix_get earlier later j b pre there)),
  (λ a b at there.
      let shorter : length earlier ≤ length later = prefix_length earlier later pre in
      rises (length earlier - 1) (length later - 1) a b (omega arith) (prefix_get earlier later (length earlier - 1) a pre at) there),
)
