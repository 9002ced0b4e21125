use Rattle.std.proofs.Common.{◌≤◌, Bool, length, ap, sym, ◌∙◌, subst, Err}
use Rattle.pg_workers.specs.Meaning.{meaning}
use Rattle.std.specs.Prelude.{IfErr}
use Rattle.std.proofs.lemmas.Result.{err_from_is_err_and}
use Rattle.pg_workers.specs.Refused.{MayRefuse}
use Rattle.pg_workers.specs.Running.{IsRunning}
use Rattle.pg_workers.specs.Driven.{IsDriven}
use Rattle.pg_workers.proofs.Ending.{running_first}
use Rattle.pg_workers.proofs.job.run_job.Goals as goal

pub returns-in_err-drive-clause-refused : goal.returns-in_err-drive-clause-refused
returns-in_err-drive-clause-refused g c =
    let own = meaning g.P.Computation.program g.C.MessageCombiner.combining g.M.MasterCompute.master g.P.Value.PartialEq.eq g.P.Message.PartialEq.eq
    g.P.Value.Plain.is_value g.P.Value.Coded.coding g.P.Message.Plain.is_value g.P.Message.Coded.coding in
    let fated = g.F.Fate.fated c.args.fate.now in
    let core = c.args.core in
    let begun = running_first own fated core (g.S.Shelf.state c.args.shelf.now) c.new-coordinator.ensures.leads c.requires.begins in
    let p = err_from_is_err_and c.from_residual.result c.from_residual.ensures.1 in
    subst (λ (r : _). IfErr r (MayRefuse fated core.limits)) (sym (p.1 ∙ ap Err p.2))
    (c.in_err-drive.ensures.refused core (subst (IsRunning own fated core (g.S.Shelf.state c.args.shelf.now)) (sym c.new-coordinator.ensures.value) begun))

pub returns-clause-driven : goal.returns-clause-driven
returns-clause-driven g c =
    let own = meaning g.P.Computation.program g.C.MessageCombiner.combining g.M.MasterCompute.master g.P.Value.PartialEq.eq g.P.Message.PartialEq.eq
    g.P.Value.Plain.is_value g.P.Value.Coded.coding g.P.Message.Plain.is_value g.P.Message.Coded.coding in
    let fated = g.F.Fate.fated c.args.fate.now in
    let core = c.args.core in
    let begun = running_first own fated core (g.S.Shelf.state c.args.shelf.now) c.new-coordinator.ensures.leads c.requires.begins in
    let runs = c.in_ok-drive.ensures.keeps core
    (subst (IsRunning own fated core (g.S.Shelf.state c.args.shelf.now)) (sym c.new-coordinator.ensures.value) begun) in
    let few = subst (λ (l : _). length c.drive.new.self.losses ≤ l.max_losses) runs.same.limits_are c.in_ok-drive.ensures.few in
    subst (λ (b : Bool). IsDriven own fated b core c.in_ok-finish.field-0.0.0 c.in_ok-finish.field-0.0.1 c.in_ok-finish.field-0.1)
    c.in_ok-drive.ensures.counted.honest
    (c.in_ok-finish.ensures.driven fated core (g.S.Shelf.state c.drive.new.shelf) runs few)

pub returns-clause-unlost : goal.returns-clause-unlost
returns-clause-unlost g c kept right none =
    let own = meaning g.P.Computation.program g.C.MessageCombiner.combining g.M.MasterCompute.master g.P.Value.PartialEq.eq g.P.Message.PartialEq.eq
    g.P.Value.Plain.is_value g.P.Value.Coded.coding g.P.Message.Plain.is_value g.P.Message.Coded.coding in
    let fated = g.F.Fate.fated c.args.fate.now in
    let core = c.args.core in
    let begun = running_first own fated core (g.S.Shelf.state c.args.shelf.now) c.new-coordinator.ensures.leads c.requires.begins in
    let runs = c.in_ok-drive.ensures.keeps core
    (subst (IsRunning own fated core (g.S.Shelf.state c.args.shelf.now)) (sym c.new-coordinator.ensures.value) begun) in
    c.in_ok-finish.ensures.unlost fated core (g.S.Shelf.state c.drive.new.shelf) runs kept right none

pub returns-clause-cold : goal.returns-clause-cold
returns-clause-cold g c one =
    let own = meaning g.P.Computation.program g.C.MessageCombiner.combining g.M.MasterCompute.master g.P.Value.PartialEq.eq g.P.Message.PartialEq.eq
    g.P.Value.Plain.is_value g.P.Value.Coded.coding g.P.Message.Plain.is_value g.P.Message.Coded.coding in
    let fated = g.F.Fate.fated c.args.fate.now in
    let core = c.args.core in
    let begun = running_first own fated core (g.S.Shelf.state c.args.shelf.now) c.new-coordinator.ensures.leads c.requires.begins in
    let runs = c.in_ok-drive.ensures.keeps core
    (subst (IsRunning own fated core (g.S.Shelf.state c.args.shelf.now)) (sym c.new-coordinator.ensures.value) begun) in
    c.in_ok-finish.ensures.cold fated core (g.S.Shelf.state c.drive.new.shelf) runs one
