-- In which of two forms runs lie.
use Rattle.std.specs.Prelude.{ℕ, List}
use Rattle.pg_trace_index.specs.LogEntry.{chain}
use Rattle.pg_trace_index.specs.declared.chain.Form.{Form}
use Rattle.pg_trace_index.specs.declared.chain.Form.TheVariants.{Listed, Chained}
use Rattle.pg_trace_index.specs.declared.base.Lies.{Lies}
use Rattle.pg_trace_index.specs.declared.base.Lies.TheVariants.{InMap, InLog}
use Rattle.pg_trace_index.specs.declared.base.Finding.{Finding}
use Rattle.pg_trace_index.specs.declared.base.Finding.TheVariants.{ByMap, ByLog}

abbrev pub steps_by : Form → List ℕ
steps_by (Listed steps) = steps.now
steps_by (Chained last earlier) = chain earlier.now last

abbrev pub entries_by : Lies → List (ℕ × List ℕ)
entries_by (InMap map) = map
entries_by (InLog log) = log

abbrev pub found_by : Finding → List (ℕ × List ℕ)
found_by (ByMap cursor) = cursor
found_by (ByLog cursor) = cursor
