use Rattle.std.proofs.Common.{◌≡◌, ℕ, true, refl, ap, sym, ◌∙◌, subst}
use Rattle.pg_workers.specs.Meaning.{meaning}
use Rattle.pg_core.specs.Losing.{place_found}
use Rattle.pg_core.specs.Handed.{is_allowed, Restore}
use Rattle.pg_workers.specs.Recovering.{IsFoundRight}
use Rattle.pg_workers.specs.Running.{Coordination, IsRunning}
use Rattle.pg_workers.proofs.Saved.{running_restore}
use Rattle.pg_workers.proofs.coordinator.Coordinator.restore.Goals as goal

pub returns-in_ok-restore-clause-keeps : goal.returns-in_ok-restore-clause-keeps
returns-in_ok-restore-clause-keeps g c fated first shelf runs found_right =
    let own = meaning g.P.Computation.program g.C.MessageCombiner.combining g.M.MasterCompute.master g.P.Value.PartialEq.eq g.P.Message.PartialEq.eq
    g.P.Value.Plain.is_value g.P.Value.Coded.coding g.P.Message.Plain.is_value g.P.Message.Coded.coding in
    let inside = c.self.inside in
    let before : Coordination _ _ _ _ _ = record { core = inside.core; calls = inside.calls; losses = inside.losses.items } in
    let p = c.args.partition in
    let found = c.args.found in
    let allowed : is_allowed inside.core.state (Restore p (place_found found)) ≡ true =
    ap (λ (r : ℕ). is_allowed inside.core.state (Restore p r)) (sym c.place_of-place.ensures)
    ∙ (ap (λ (s : _). is_allowed s (Restore p c.place_of-place.result)) (sym c.state.ensures) ∙ (sym c.may_restore.ensures ∙ c.if-may_restore.true)) in
    running_restore own fated first shelf before (record before { core = c.restore.new.self }) p found allowed
    c.in_ok-restore.ensures.core c.in_ok-restore.ensures.right refl refl (subst (IsRunning own fated first shelf) (sym c.self.view_is) runs)
    (subst (λ (s : Coordination _ _ _ _ _). IsFoundRight own first shelf s.core p found) (sym c.self.view_is) found_right)
