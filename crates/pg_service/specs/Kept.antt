-- What a service keeps of its last run, for the next one.
use Rattle.std.specs.Prelude.{ℕ, List, map}
use Rattle.pg_workers.specs.Handed.{AreTouched, IsRetainedBy, Traces}
use Rattle.pg_graph.specs.Handed.{source_of, Edit}
use Rattle.pg_graph.specs.Rows.{Rows}
use Rattle.pg_model.specs.Job.{Job}

-- what a run retained, and ids that batches have named since
pub record KeptRun (V M : Type 0) : Type 0 where
  pub traces : Traces V M
  pub touched : List ℕ

-- the run was that of this job over n partitions, and its graph had the rows of this one but for the touched ids
pub record IsKept {V M : Type 0} (job : Job V M) (n : ℕ) (graph : Rows) (kept : KeptRun V M) : Type 0 where
  pub retained : IsRetainedBy job kept.traces.graph n kept.traces
  pub untouched : AreTouched kept.touched kept.traces.graph graph

-- the vertices whose rows a batch changes
abbrev pub sources : List Edit → List ℕ
sources edits = map source_of edits
