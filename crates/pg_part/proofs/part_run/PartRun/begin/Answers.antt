use Rattle.std.proofs.Common.{length, ap, sym, ◌∙◌, subst, refl}
use Rattle.pg_part_routing.proofs.Beginning.{begun_holds}
use Rattle.pg_trace.specs.OfRun.{HoldsRun}
use Rattle.pg_trace.specs.Trace.{begun}
use Rattle.pg_part.proofs.part_run.PartRun.begin.Goals as goal

pub returns-clause-holds : goal.returns-clause-holds
returns-clause-holds g c job rise missing are =
    let n = c.args.rows.partitions in
    let p = c.args.rows.partition in
    let graph = c.args.rows.graph in
    record {
      partition_is = ap (λ r. r.partition) c.rows.view_is;
      partitions_are = ap (λ r. r.partitions) c.rows.view_is;
      missing_is = sym missing;
      place_is = c.new-2.ensures;
      run = subst (HoldsRun job graph n p 0) (sym (c.in_ok-trace.ensures ∙ ap begun are)) (begun_holds job graph n p rise job.program refl);
      supersteps = ap (λ t. length t.records) c.in_ok-trace.ensures;
      warm = refl;
    }
