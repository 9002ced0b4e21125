use Rattle.std.proofs.Common.{◌≡◌, ◌≤◌, ◌<◌, true, refl, ap, sym, ◌∙◌, subst, Ok}
use Rattle.pg_workers.specs.Meaning.{meaning}
use Rattle.pg_core.specs.Handed.{is_allowed, Save}
use Rattle.pg_workers.specs.Running.{Coordination, HasPut, IsRunning}
use Rattle.pg_workers.proofs.Saved.{running_save}
use Rattle.pg_workers.proofs.coordinator.Coordinator.save_one.Goals as goal

pub returns-clause-keeps : goal.returns-clause-keeps
returns-clause-keeps g c fated first runs =
    let own = meaning g.P.Computation.program g.C.MessageCombiner.combining g.M.MasterCompute.master g.P.Value.PartialEq.eq g.P.Message.PartialEq.eq
    g.P.Value.Plain.is_value g.P.Value.Coded.coding g.P.Message.Plain.is_value g.P.Message.Coded.coding in
    let inside = c.self.inside in
    let before : Coordination _ _ _ _ _ = record { core = inside.core; calls = inside.calls; losses = inside.losses.items } in
    let p = c.args.partition in
    let allowed : is_allowed inside.core.state (Save p) ≡ true =
    ap (λ (s : _). is_allowed s (Save p)) (sym c.state.ensures) ∙ (sym c.may_save.ensures ∙ c.if-not-may_save.false) in
    let part = c.in_ok-put.ensures.0 in
    let put = subst (λ (s : Coordination _ _ _ _ _). HasPut own.is_value own.value own.is_message own.message s.core p part (g.S.Shelf.state c.args.shelf.now)
    (Ok c.in_ok-put.field-0) (g.S.Shelf.state c.put.new.shelf)) (sym c.self.view_is) c.in_ok-put.ensures.1 in
    let few = subst (λ (s : Coordination _ _ _ _ _). s.core.limits.partitions ≤ 64) (sym c.self.view_is) c.requires.few in
    let mine = subst (λ (s : Coordination _ _ _ _ _). p < s.core.limits.partitions) (sym c.self.view_is) c.requires.inside in
    running_save own fated first (g.S.Shelf.state c.args.shelf.now) (g.S.Shelf.state c.put.new.shelf) before (record before { core = c.saved.new.self }) p part
    c.in_ok-put.field-0 allowed few mine put.here put.at put.put put.codable put.fits c.in_ok-saved.ensures.core c.in_ok-saved.ensures.right refl refl
    (subst (IsRunning own fated first (g.S.Shelf.state c.args.shelf.now)) (sym c.self.view_is) runs)
