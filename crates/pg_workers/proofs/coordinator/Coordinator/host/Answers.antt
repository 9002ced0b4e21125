use Rattle.std.proofs.Common.{◌≡◌, true, refl, ap, sym, ◌∙◌, subst}
use Rattle.pg_workers.specs.Meaning.{meaning}
use Rattle.pg_core.specs.Handed.{is_allowed, Host}
use Rattle.pg_workers.specs.Running.{Coordination, IsRunning}
use Rattle.pg_workers.proofs.Saved.{running_host}
use Rattle.pg_workers.proofs.coordinator.Coordinator.host.Goals as goal

pub returns-in_ok-host-clause-keeps : goal.returns-in_ok-host-clause-keeps
returns-in_ok-host-clause-keeps g c fated first shelf runs =
    let own = meaning g.P.Computation.program g.C.MessageCombiner.combining g.M.MasterCompute.master g.P.Value.PartialEq.eq g.P.Message.PartialEq.eq
    g.P.Value.Plain.is_value g.P.Value.Coded.coding g.P.Message.Plain.is_value g.P.Message.Coded.coding in
    let inside = c.self.inside in
    let before : Coordination _ _ _ _ _ = record { core = inside.core; calls = inside.calls; losses = inside.losses.items } in
    let allowed : is_allowed inside.core.state (Host c.args.partition c.args.worker) ≡ true =
    ap (λ (s : _). is_allowed s (Host c.args.partition c.args.worker)) (sym c.state.ensures) ∙ (sym c.may_host.ensures ∙ c.if-may_host.true) in
    running_host own fated first shelf before (record before { core = c.host.new.self }) c.args.partition c.args.worker allowed
    c.in_ok-host.ensures.core c.in_ok-host.ensures.right refl refl (subst (IsRunning own fated first shelf) (sym c.self.view_is) runs)
