use Rattle.std.proofs.Common.{subst}
use Rattle.pg_trace_index.specs.Chunks.{all_of}
use Rattle.pg_map.specs.Entries.{HasRisingIds}
use Rattle.pg_trace_index.proofs.Chains.{chains_rise}
use Rattle.pg_trace_index.proofs.log.Log.listed.Goals as goal

pub returns-clause-rising : goal.returns-clause-rising
returns-clause-rising c =
    subst (λ l. HasRisingIds l) c.self.view_is
    (chains_rise c.self.inside.earlier.items (all_of c.self.inside.last.items) c.self.invariant.0.rise)
