use Rattle.std.proofs.Common.{◌≡◌, true, refl, sym, subst}
use Rattle.std.proofs.lemmas.Result.{on_ok_weaker}
use Rattle.pg_workers.specs.Meaning.{meaning}
use Rattle.pg_core.specs.Handed.{is_allowed, Next, Close}
use Rattle.pg_workers.specs.Running.{Coordination, IsRunning}
use Rattle.pg_workers.proofs.Saved.{running_close}
use Rattle.pg_workers.proofs.coordinator.Coordinator.close.Goals as goal

pub returns-in-Ended-clause-keeps : goal.returns-in-Ended-clause-keeps
returns-in-Ended-clause-keeps g c fated first runs =
    let own = meaning g.P.Computation.program g.C.MessageCombiner.combining g.M.MasterCompute.master g.P.Value.PartialEq.eq g.P.Message.PartialEq.eq
    g.P.Value.Plain.is_value g.P.Value.Coded.coding g.P.Message.Plain.is_value g.P.Message.Coded.coding in
    let inside = c.self.inside in
    let before : Coordination _ _ _ _ _ = record { core = inside.core; calls = inside.calls; losses = inside.losses.items } in
    let allowed = subst (λ (s : Coordination _ _ _ _ _). is_allowed s.core.state (Close Next) ≡ true) (sym c.self.view_is) c.requires.allowed in
    running_close own fated first (g.S.Shelf.state c.args.shelf.now) before (record before { core = c.close.new.self }) c.in_ok-close.field-0 allowed
    c.in_ok-close.ensures.core c.in_ok-close.ensures.right refl refl
    (subst (IsRunning own fated first (g.S.Shelf.state c.args.shelf.now)) (sym c.self.view_is) runs)

pub returns-in-Next-clause-keeps : goal.returns-in-Next-clause-keeps
returns-in-Next-clause-keeps g c =
    let own = meaning g.P.Computation.program g.C.MessageCombiner.combining g.M.MasterCompute.master g.P.Value.PartialEq.eq g.P.Message.PartialEq.eq
    g.P.Value.Plain.is_value g.P.Value.Coded.coding g.P.Message.Plain.is_value g.P.Message.Coded.coding in
    let inside = c.self.inside in
    let before : Coordination _ _ _ _ _ = record { core = inside.core; calls = inside.calls; losses = inside.losses.items } in
    let allowed = subst (λ (s : Coordination _ _ _ _ _). is_allowed s.core.state (Close Next) ≡ true) (sym c.self.view_is) c.requires.allowed in
    on_ok_weaker c.save_all.result
    (λ keeps fated first runs. keeps fated first
    (running_close own fated first (g.S.Shelf.state c.args.shelf.now) before (record before { core = c.close.new.self }) c.in_ok-close.field-0 allowed
    c.in_ok-close.ensures.core c.in_ok-close.ensures.right refl refl
    (subst (IsRunning own fated first (g.S.Shelf.state c.args.shelf.now)) (sym c.self.view_is) runs)))
    c.save_all.ensures.keeps
