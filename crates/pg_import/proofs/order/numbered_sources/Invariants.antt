use Rattle.pg_sort.specs.ById.{AreEntriesOf}
use Rattle.pg_import.specs.Ranks.{sources_of}
use Rattle.pg_import.proofs.order.numbered_sources.Given as goal

abbrev pub invariant-loop-place : goal.invariant-loop-place
invariant-loop-place l = AreEntriesOf (sources_of l.lines) l.sources.items
