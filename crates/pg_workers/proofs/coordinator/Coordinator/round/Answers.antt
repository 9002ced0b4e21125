use Rattle.std.proofs.Common.{sym, subst}
use Rattle.std.proofs.lemmas.Result.{IfErr-weaker, on_ok_weaker}
use Rattle.pg_workers.specs.Meaning.{meaning}
use Rattle.pg_workers.specs.Running.{Coordination, IsRunning}
use Rattle.pg_workers.proofs.Composing.{after_steps, steps_next}
use Rattle.pg_workers.proofs.coordinator.Coordinator.round.Goals as goal

pub take_in-requires-after_bounds : goal.take_in-requires-after_bounds
take_in-requires-after_bounds g c κs within =
    let own = meaning g.P.Computation.program g.C.MessageCombiner.combining g.M.MasterCompute.master g.P.Value.PartialEq.eq g.P.Message.PartialEq.eq
    g.P.Value.Plain.is_value g.P.Value.Coded.coding g.P.Message.Plain.is_value g.P.Message.Coded.coding in
    let inside = c.self.inside in
    let before : Coordination _ _ _ _ _ = record { core = inside.core; calls = inside.calls; losses = inside.losses.items } in
    steps_next own (g.F.Fate.fated c.args.fate.now) c.args.superstep inside.core.limits.workers before c.assign.new.core c.in_ok-assignments.assignments.items
    c.in_ok-outcomes.outcomes.items c.in_ok-steps.field-0 c.in_ok-assignments.ensures
    (c.in_ok-outcomes.ensures inside.core inside.core.limits.workers c.in_ok-assignments.ensures) c.in_ok-steps.ensures

pub returns-clause-keeps : goal.returns-clause-keeps
returns-clause-keeps g c =
    let own = meaning g.P.Computation.program g.C.MessageCombiner.combining g.M.MasterCompute.master g.P.Value.PartialEq.eq g.P.Message.PartialEq.eq
    g.P.Value.Plain.is_value g.P.Value.Coded.coding g.P.Message.Plain.is_value g.P.Message.Coded.coding in
    let inside = c.self.inside in
    let fated = g.F.Fate.fated c.args.fate.now in
    let shelf = g.S.Shelf.state c.args.shelf.now in
    let before : Coordination _ _ _ _ _ = record { core = inside.core; calls = inside.calls; losses = inside.losses.items } in
    on_ok_weaker c.recover.result
    (λ keeps first runs.
    let there = after_steps own fated c.args.superstep inside.core.limits.workers before c.assign.new.core c.in_ok-assignments.assignments.items
    c.in_ok-outcomes.outcomes.items c.in_ok-steps.field-0 c.in_ok-assignments.ensures
    (c.in_ok-outcomes.ensures inside.core inside.core.limits.workers c.in_ok-assignments.ensures) c.in_ok-steps.ensures
    first shelf c.take_in.new.self c.in_ok-take_in.ensures.recorded c.in_ok-take_in.ensures.losses (c.in_ok-take_in.ensures.keeps fated first shelf)
    (subst (IsRunning own fated first shelf) (sym c.self.view_is) runs) in
    keeps fated first there.0 there.1)
    c.recover.ensures.keeps

pub returns-clause-refused : goal.returns-clause-refused
returns-clause-refused g c =
    let own = meaning g.P.Computation.program g.C.MessageCombiner.combining g.M.MasterCompute.master g.P.Value.PartialEq.eq g.P.Message.PartialEq.eq
    g.P.Value.Plain.is_value g.P.Value.Coded.coding g.P.Message.Plain.is_value g.P.Message.Coded.coding in
    let inside = c.self.inside in
    let fated = g.F.Fate.fated c.args.fate.now in
    let shelf = g.S.Shelf.state c.args.shelf.now in
    let before : Coordination _ _ _ _ _ = record { core = inside.core; calls = inside.calls; losses = inside.losses.items } in
    IfErr-weaker c.recover.result _ _
    (λ fault may first runs.
    let there = after_steps own fated c.args.superstep inside.core.limits.workers before c.assign.new.core c.in_ok-assignments.assignments.items
    c.in_ok-outcomes.outcomes.items c.in_ok-steps.field-0 c.in_ok-assignments.ensures
    (c.in_ok-outcomes.ensures inside.core inside.core.limits.workers c.in_ok-assignments.ensures) c.in_ok-steps.ensures
    first shelf c.take_in.new.self c.in_ok-take_in.ensures.recorded c.in_ok-take_in.ensures.losses (c.in_ok-take_in.ensures.keeps fated first shelf)
    (subst (IsRunning own fated first shelf) (sym c.self.view_is) runs) in
    may fated first there.0 there.1)
    c.recover.ensures.refused
