use Rattle.std.proofs.Common.{◌∷◌, [], refl, ap, sym, ◌∙◌, subst}
use Rattle.pg_core.specs.Progress.{IsLawful}
use Rattle.pg_core.proofs.Opened.{IsLawful-opened, IsRight-opened, are_here, run_totals_first, visible_first}
use Rattle.pg_core.proofs.running.open_with.Goals as goal
use Rattle.pg_global.specs.Master.{job_of}

pub invariant_of-result : goal.invariant_of-result
invariant_of-result g c =
    let program = g.P.Computation.program c.args.program.now in
    let combining = g.C.MessageCombiner.combining c.args.combiner.now in
    let master = g.M.MasterCompute.master c.args.master.now in
    let limits = c.args.limits in
    let parts = c.args.parts.items in
    let start = c.args.start in
    subst
    (λ events. IsLawful limits program.declared master.registrations start.registry start.state events parts start.shown.items start.run_totals)
    (sym c.new.ensures.items)
    (IsLawful-opened program master limits c.args.graph.now parts c.requires.each c.requires.first start c.requires.started c.requires.registered)

pub returns-clause-opened : goal.returns-clause-opened
returns-clause-opened g c =
    let program = g.P.Computation.program c.args.program.now in
    let combining = g.C.MessageCombiner.combining c.args.combiner.now in
    let master = g.M.MasterCompute.master c.args.master.now in
    record {
      program_is = refl;
      combiner_is = refl;
      master_is = refl;
      graph_is = refl;
      rising = c.requires.started.rising;
      limits_are = refl;
      run_is = refl;
      state_is = c.requires.started.state_is;
      history_is = c.new.ensures.items;
      parts_are = are_here program master c.args.limits c.args.graph.now c.args.parts.items c.requires.each c.requires.first;
    }

pub returns-clause-right : goal.returns-clause-right
returns-clause-right g c old keeps begun =
    let program = g.P.Computation.program c.args.program.now in
    let combining = g.C.MessageCombiner.combining c.args.combiner.now in
    let master = g.M.MasterCompute.master c.args.master.now in
    let limits = c.args.limits in
    let rows = c.args.graph.now in
    let started = c.requires.started in
    let run_totals = c.args.start.run_totals in
    let job = job_of program combining master limits.missing limits.limit in
    IsRight-opened program master combining limits rows c.args.parts.items c.requires.each old begun _ started.limits_are refl refl refl
    started.state_is
    c.new.ensures.items
    c.new-2.ensures
    (started.shown_is ∙ ap (λ v. v ∷ []) (visible_first job rows run_totals.gathered (ap (λ t. t.gathered) started.run_totals_is)))
    (run_totals_first job rows run_totals started.run_totals_is)
    refl keeps
