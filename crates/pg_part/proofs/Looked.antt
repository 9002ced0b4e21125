-- The same stats by other names of what they look at.
use Rattle.std.proofs.Common.{◌≡◌, ℕ, List, subst}
use Rattle.pg_graph.specs.Rows.{Rows}
use Rattle.pg_graph.specs.declared.missing.Missing.{Missing}
use Rattle.pg_inbox.specs.LoggedBundle.{Slots}
use Rattle.pg_inbox.specs.Handed.{LoggedBundle}
use Rattle.pg_part.specs.StatsHistories.{IsCountedWarm}
use Rattle.pg_stats.specs.MessageCounts.{HasMessageCountDelta}
use Rattle.pg_stats.specs.declared.stats.VertexCounts.{VertexCounts}
use Rattle.pg_stats.specs.declared.stats.MessageCounts.{MessageCounts}
use Rattle.pg_trace.specs.Trace.{Trace}

pub counted_at : {V M : Type 0} (old looked trace : Trace V M) (s : ℕ) (seen ids : List ℕ) (before old_before old_after after : VertexCounts)
    → looked ≡ trace → seen ≡ ids
    → IsCountedWarm old looked s seen before old_before old_after after → IsCountedWarm old trace s ids before old_before old_after after
counted_at old looked trace s seen ids before old_before old_after after same are h =
    subst (λ (x : List ℕ). IsCountedWarm old trace s x before old_before old_after after) are
    (subst (λ x. IsCountedWarm old x s seen before old_before old_after after) same h)

pub retold_at : {M : Type 0} (seen missing : Missing) (rows : Rows) (member_changes : List ℕ) (logs : Slots M)
    (s q p : ℕ) (bundles : List (LoggedBundle M)) (before after : MessageCounts)
    → seen ≡ missing → q ≡ p → HasMessageCountDelta seen rows member_changes logs s q bundles before after → HasMessageCountDelta missing rows member_changes logs s p bundles before after
retold_at seen missing rows member_changes logs s q p bundles before after same at h =
    subst (λ m. HasMessageCountDelta m rows member_changes logs s p bundles before after) same (subst (λ (k : ℕ). HasMessageCountDelta seen rows member_changes logs s k bundles before after) at h)
