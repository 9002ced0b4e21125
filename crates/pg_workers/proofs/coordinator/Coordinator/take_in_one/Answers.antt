use Rattle.std.proofs.Common.{◌≡◌, ◌+◌, true, refl, sym, subst, arith, Option}
use Rattle.pg_workers.specs.Meaning.{meaning}
use Rattle.pg_workers.specs.Rounds.{IsStepRight}
use Rattle.pg_workers.specs.Running.{Coordination, IsRunning}
use Rattle.pg_model.specs.Superstep.{capped}
use Rattle.pg_core.specs.Handed.{is_allowed, Step}
use Rattle.pg_core.specs.Progress.{IsRight}
use Rattle.pg_workers.specs.Losses.{Trusts}
use Rattle.pg_workers.specs.Meaning.{job_of_meaning}
use Rattle.pg_workers.proofs.Stepping.{running_step}
use Rattle.pg_graph.specs.Rows.{Rows}
use Rattle.pg_workers.proofs.coordinator.Coordinator.take_in_one.Goals as goal

pub returns-clause-keeps : goal.returns-clause-keeps
returns-clause-keeps g c fated first shelf runs steps =
    let own = meaning g.P.Computation.program g.C.MessageCombiner.combining g.M.MasterCompute.master g.P.Value.PartialEq.eq g.P.Message.PartialEq.eq
    g.P.Value.Plain.is_value g.P.Value.Coded.coding g.P.Message.Plain.is_value g.P.Message.Coded.coding in
    let inside = c.self.inside in
    let before : Coordination _ _ _ _ _ = record { core = inside.core; calls = inside.calls; losses = inside.losses.items } in
    let p = c.args.partition in
    let allowed = subst (λ (s : Coordination _ _ _ _ _). is_allowed s.core.state (Step p) ≡ true) (sym c.self.view_is) c.requires.allowed in
    let right = subst (λ (s : Coordination _ _ _ _ _). (kept : Option Rows) → IsRight (job_of_meaning own first) kept first → Trusts shelf.is_honest s.core.history
    → IsStepRight own kept s.core p c.args.done) (sym c.self.view_is) steps in
    let called : c.saturating_add-self-inside.result ≡ capped (inside.calls + c.args.done.calls) = omega (arith, c.saturating_add-self-inside.ensures) in
    running_step own fated first shelf before (record { core = c.stepped.new.self; calls = c.saturating_add-self-inside.result; losses = inside.losses.items })
    p c.args.done allowed c.in_ok-stepped.ensures.core c.in_ok-stepped.ensures.right called refl
    (subst (IsRunning own fated first shelf) (sym c.self.view_is) runs) right
