use Rattle.std.proofs.Common.{take}
use Rattle.pg_import.proofs.SourceFacts.{LeadElsewhere}
use Rattle.pg_import.proofs.looked_up.sources.has_target_of_few.Given as goal

abbrev pub invariant-loop-edge : goal.invariant-loop-edge
invariant-loop-edge l = LeadElsewhere l.target (take l.edge-index l.edges)
