use Rattle.std.proofs.Common.{List, ℕ, sym, subst, subst₂}
use Rattle.pg_core.specs.Beginning.{HaveBegunWarm}
use Rattle.pg_stats.specs.MessageCounts.{AreMemberChanges}
use Rattle.pg_core.proofs.beginning.begun_parts_warm.Goals as goal

pub returns-clause-begun : goal.returns-clause-begun
returns-clause-begun g c =
    let rows = c.args.graph.now in
    let touched = c.args.touched.now in
    let n = c.args.limits.partitions in
    let parts = c.in_ok-parts.parts.items in
    let before = c.into_parts-retained_parts.result.1 in
    let retained_parts = c.into_parts-retained_parts.result.0.items in
    let begins : HaveBegunWarm
    (g.P.Computation.program c.args.program.now) c.args.limits.missing c.args.registry.now rows touched before retained_parts n n parts =
    (λ job e m a untouched. c.in_ok-parts.ensures.begun job before e m a untouched
    (subst (λ (ids : List ℕ). AreMemberChanges ids before rows) (sym c.as_slice-member_changes.ensures.value) (c.in_ok-member_changes.ensures untouched))) in
    subst₂ (λ graph retained_parts. HaveBegunWarm
    (g.P.Computation.program c.args.program.now) c.args.limits.missing c.args.registry.now rows touched graph retained_parts n n parts)
    c.into_parts-retained_parts.ensures.graph c.into_parts-retained_parts.ensures.retained_parts begins
