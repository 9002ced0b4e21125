use Rattle.std.proofs.Common.{ℕ, IfOk, None, Some, refl, ap, sym, ◌∙◌, subst}
use Rattle.pg_core.specs.Losing.{IsShareFound}
use Rattle.pg_core.specs.Progress.{job_of_core}
use Rattle.pg_core.proofs.Recovery.{IfOk-both}
use Rattle.pg_global.specs.Master.{job_of}
use Rattle.pg_part.specs.Part.{HoldsShare}
use Rattle.pg_part.specs.Handed.{PartRows}
use Rattle.pg_stats.specs.GlobalStats.{aggregators_of}
use Rattle.pg_core.proofs.running.Core.found_or_begun.Goals as goal

pub returns-in-None-clause-share : goal.returns-in-None-clause-share
returns-in-None-clause-share g c =
    let inside = c.self.inside in
    let p = c.args.partition in
    let program_of = g.P.Computation.program in
    let combining_of = g.C.MessageCombiner.combining in
    let master_of = g.M.MasterCompute.master in
    let n = inside.limits.partitions in
    let job =
    job_of (program_of inside.program.now) (combining_of inside.combiner.now) (master_of inside.master.now) inside.limits.missing inside.limits.limit in
    let rows_are = c.rows-rows.ensures ∙ (λ i. record {
      graph = inside.graph.now;
      partition = p;
      partitions = c.partitioner_of.ensures.value i;
    }) in
    subst (λ core. IfOk c.begin.result (λ part. IsShareFound (job_of_core program_of combining_of master_of core) core p c.args.found
    → IsShareFound (job_of_core program_of combining_of master_of core) core p (Some part))) c.self.view_is
    (IfOk-both c.begin.result _ _ _ (λ part begun holds none.
    subst (λ (r : ℕ). HoldsShare job None inside.graph.now n p r part) (sym begun.place_is)
    (subst (λ (r : PartRows). HoldsShare job None r.graph r.partitions r.partition 0 part) rows_are
    (holds job refl (sym c.missing.ensures) (ap aggregators_of (sym c.self.invariant.registry_is)))))
    c.begin.ensures.begins c.begin.ensures.holds)
