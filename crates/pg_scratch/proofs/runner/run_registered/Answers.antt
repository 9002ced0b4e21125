use Rattle.std.proofs.Common.{ℕ, length, subst, sym, ◌∙◌, arith}
use Rattle.pg_global.specs.Master.{job_of}
use Rattle.pg_scratch.specs.Stages.{HasStepped}
use Rattle.pg_scratch.proofs.Runs.{running_first, running_on, ending_is, answers, counts, ends_by_limit}
use Rattle.pg_scratch.proofs.runner.run_registered.Goals as goal

pub loop-done-init : goal.loop-done-init
loop-done-init g c =
    running_first (g.P.Computation.program c.args.runner.now.program.now)
    (g.C.MessageCombiner.combining c.args.runner.now.combiner.now)
    (g.M.MasterCompute.master c.args.runner.now.master.now) c.args.runner.now.missing c.args.runner.now.limit
    c.args.graph.now c.args.runner.now.registrations.now c.args.meter c.in_ok-progress.progress c.requires.prepared
    c.in_ok-progress.ensures.rising c.in_ok-progress.ensures.edges.1 c.requires.fits
    (record {
      configuration = c.in_ok-progress.ensures.configuration;
      ids = c.in_ok-progress.ensures.ids;
      work = c.in_ok-progress.ensures.work;
      edges = c.in_ok-progress.ensures.edges.0;
      meter = c.in_ok-progress.ensures.meter;
    })

pub returns-in-Some-clause-run : goal.returns-in-Some-clause-run
returns-in-Some-clause-run g c =
    let job =
    job_of (g.P.Computation.program c.args.runner.now.program.now)
    (g.C.MessageCombiner.combining c.args.runner.now.combiner.now)
    (g.M.MasterCompute.master c.args.runner.now.master.now) c.args.runner.now.missing c.args.runner.now.limit in
    let places : ℕ = length c.args.runner.now.registrations.now in
    let step = subst (λ (s : ℕ). HasStepped job places s c.loop-done.progress c.in_ok-next.next c.in_ok-next.halt) c.new.ensures c.in_ok-next.ensures in
    let ends =
    ending_is job c.args.graph.now places c.args.meter c.loop-done.done c.loop-done.progress c.in_ok-next.next
    c.in_ok-next.halt c.loop-done.invariant step c.ending_of.result c.ending_of.ensures in (
      answers job c.args.graph.now places c.args.meter c.loop-done.done c.loop-done.progress c.in_ok-next.next
          c.in_ok-next.halt c.loop-done.invariant step c.loop-done-test.true c.in-Some.ending (sym c.in-Some.is ∙ ends)
          c.in_ok-run.run' c.in_ok-run.ensures,
      counts job c.args.graph.now places c.args.meter c.loop-done.done c.loop-done.progress c.in_ok-next.next
          c.in_ok-next.halt c.loop-done.invariant step c.loop-done-test.true c.in-Some.ending (sym c.in-Some.is ∙ ends),
    )

pub loop-done-preserved : goal.loop-done-preserved
loop-done-preserved g c =
    let job =
    job_of (g.P.Computation.program c.args.runner.now.program.now)
    (g.C.MessageCombiner.combining c.args.runner.now.combiner.now)
    (g.M.MasterCompute.master c.args.runner.now.master.now) c.args.runner.now.missing c.args.runner.now.limit in
    let places : ℕ = length c.args.runner.now.registrations.now in
    let step = subst (λ (s : ℕ). HasStepped job places s c.loop-done.progress c.in_ok-next.next c.in_ok-next.halt) c.new.ensures c.in_ok-next.ensures in
    let ends =
    ending_is job c.args.graph.now places c.args.meter c.loop-done.done c.loop-done.progress c.in_ok-next.next
    c.in_ok-next.halt c.loop-done.invariant step c.ending_of.result c.ending_of.ensures in
    running_on job c.args.graph.now places c.args.meter c.loop-done.done c.loop-done.progress c.in_ok-next.next
    c.in_ok-next.halt c.loop-done.invariant step (sym ends ∙ c.in_default.is)

pub unreachable-requires : goal.unreachable-requires
unreachable-requires g c =
    let job =
    job_of (g.P.Computation.program c.args.runner.now.program.now)
    (g.C.MessageCombiner.combining c.args.runner.now.combiner.now)
    (g.M.MasterCompute.master c.args.runner.now.master.now) c.args.runner.now.missing c.args.runner.now.limit in
    ends_by_limit job c.args.graph.now (length c.args.runner.now.registrations.now) c.args.meter c.loop-done.done
    c.loop-done.progress c.loop-done.invariant
    (omega (arith, c.requires.limit, c.loop-done-test.false, c.loop-done.auto))
    (omega (arith, c.loop-done-test.false, c.loop-done.auto))
