use Rattle.std.proofs.Common.{◌≡◌, true, ◌∷◌, refl, ap, sym, ◌∙◌, subst}
use Rattle.pg_workers.specs.Meaning.{meaning}
use Rattle.pg_core.specs.Handed.{is_allowed, Lose}
use Rattle.pg_workers.specs.Recovering.{LosesOn}
use Rattle.pg_workers.specs.Running.{Coordination}
use Rattle.pg_workers.proofs.Losing.{loses_none, loses_one}
use Rattle.pg_workers.proofs.coordinator.Coordinator.lose.Goals as goal

pub returns-in_ok-push-clause-keeps : goal.returns-in_ok-push-clause-keeps
returns-in_ok-push-clause-keeps g c fated first shelf attempt rest on =
    let own = meaning g.P.Computation.program g.C.MessageCombiner.combining g.M.MasterCompute.master g.P.Value.PartialEq.eq g.P.Message.PartialEq.eq
    g.P.Value.Plain.is_value g.P.Value.Coded.coding g.P.Message.Plain.is_value g.P.Message.Coded.coding in
    let inside = c.self.inside in
    let before : Coordination _ _ _ _ _ = record { core = inside.core; calls = inside.calls; losses = inside.losses.items } in
    let loss = c.args.loss in
    let allowed : is_allowed inside.core.state (Lose loss.worker) ≡ true =
    ap (λ (s : _). is_allowed s (Lose loss.worker)) (sym c.state.ensures) ∙ (sym c.may_lose.ensures ∙ c.if-may_lose.true) in
    loses_one own fated first shelf attempt before (record { core = c.lose.new.self; calls = inside.calls; losses = c.push.new.self.items }) loss rest allowed
    c.in_ok-lose.ensures.core c.in_ok-lose.ensures.right c.in_ok-push.ensures.items refl
    (subst (λ (s : Coordination _ _ _ _ _). LosesOn own fated first shelf attempt s (loss ∷ rest)) (sym c.self.view_is) on)

pub returns-else-may_lose-clause-keeps : goal.returns-else-may_lose-clause-keeps
returns-else-may_lose-clause-keeps g c fated first shelf attempt rest on =
    let own = meaning g.P.Computation.program g.C.MessageCombiner.combining g.M.MasterCompute.master g.P.Value.PartialEq.eq g.P.Message.PartialEq.eq
    g.P.Value.Plain.is_value g.P.Value.Coded.coding g.P.Message.Plain.is_value g.P.Message.Coded.coding in
    loses_none own fated first shelf attempt c.args.self.now c.args.loss rest on
