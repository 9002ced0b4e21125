use Rattle.std.proofs.Common.{◌≡◌, ◌≤◌, ◌<◌, true, length, refl, ap, sym, ◌∙◌, subst, arith}
use Rattle.pg_workers.specs.Meaning.{meaning}
use Rattle.std.specs.Prelude.{map}
use Rattle.std.specs.List.{range_with_len}
use Rattle.pg_core.specs.Handed.{Limits, steps_of}
use Rattle.pg_workers.specs.Running.{Coordination, IsRunning}
use Rattle.pg_workers.proofs.Ending.{cold_unlost, is_driven, is_unlost}
use Rattle.pg_workers.proofs.coordinator.Coordinator.finish.Goals as goal

pub returns-clause-driven : goal.returns-clause-driven
returns-clause-driven g c fated first shelf runs few =
    let own = meaning g.P.Computation.program g.C.MessageCombiner.combining g.M.MasterCompute.master g.P.Value.PartialEq.eq g.P.Message.PartialEq.eq
    g.P.Value.Plain.is_value g.P.Value.Coded.coding g.P.Message.Plain.is_value g.P.Message.Coded.coding in
    let inside = c.self.inside in
    let before : Coordination _ _ _ _ _ = record { core = inside.core; calls = inside.calls; losses = inside.losses.items } in
    let many = c.partitions.ensures.value ∙ ap (λ (l : Limits). l.partitions) c.limits.ensures in
    let steps = c.in_ok-steps.ensures ∙ (λ i. map (λ p. steps_of p (c.history.ensures.value i)) (range_with_len 0 (many i))) in
    let now = subst (IsRunning own fated first shelf) (sym c.self.view_is) runs in
    let ended = subst (λ (s : Coordination _ _ _ _ _). s.core.state.ended ≡ true) (sym c.self.view_is) c.requires in
    is_driven own fated first shelf before now ended c.in_ok-finished.finished.0 c.in_ok-finished.finished.1
    (record { calls = inside.calls; steps = c.in_ok-steps.steps; losses = c.from_vec.result })
    steps refl c.from_vec.ensures c.in_ok-finished.ensures.finished
    (subst (λ (s : Coordination _ _ _ _ _). length s.losses ≤ first.limits.max_losses) (sym c.self.view_is) few) c.in_ok-finished.ensures.each
    c.in_ok-finished.ensures.places

pub returns-clause-unlost : goal.returns-clause-unlost
returns-clause-unlost g c fated first shelf runs kept right none =
    let own = meaning g.P.Computation.program g.C.MessageCombiner.combining g.M.MasterCompute.master g.P.Value.PartialEq.eq g.P.Message.PartialEq.eq
    g.P.Value.Plain.is_value g.P.Value.Coded.coding g.P.Message.Plain.is_value g.P.Message.Coded.coding in
    let inside = c.self.inside in
    let before : Coordination _ _ _ _ _ = record { core = inside.core; calls = inside.calls; losses = inside.losses.items } in
    let many = c.partitions.ensures.value ∙ ap (λ (l : Limits). l.partitions) c.limits.ensures in
    let steps = c.in_ok-steps.ensures ∙ (λ i. map (λ p. steps_of p (c.history.ensures.value i)) (range_with_len 0 (many i))) in
    let now = subst (IsRunning own fated first shelf) (sym c.self.view_is) runs in
    let ended = subst (λ (s : Coordination _ _ _ _ _). s.core.state.ended ≡ true) (sym c.self.view_is) c.requires in
    is_unlost own fated first shelf before now ended c.in_ok-finished.finished.0 c.in_ok-finished.finished.1
    (record { calls = inside.calls; steps = c.in_ok-steps.steps; losses = c.from_vec.result })
    steps refl c.from_vec.ensures c.in_ok-finished.ensures.finished none kept right c.history.ensures.steps c.history.ensures.unlost

pub returns-clause-cold : goal.returns-clause-cold
returns-clause-cold g c fated first shelf runs one =
    let own = meaning g.P.Computation.program g.C.MessageCombiner.combining g.M.MasterCompute.master g.P.Value.PartialEq.eq g.P.Message.PartialEq.eq
    g.P.Value.Plain.is_value g.P.Value.Coded.coding g.P.Message.Plain.is_value g.P.Message.Coded.coding in
    let inside = c.self.inside in
    let before : Coordination _ _ _ _ _ = record { core = inside.core; calls = inside.calls; losses = inside.losses.items } in
    let many = c.partitions.ensures.value ∙ ap (λ (l : Limits). l.partitions) c.limits.ensures in
    let steps = c.in_ok-steps.ensures ∙ (λ i. map (λ p. steps_of p (c.history.ensures.value i)) (range_with_len 0 (many i))) in
    let now = subst (IsRunning own fated first shelf) (sym c.self.view_is) runs in
    let ended = subst (λ (s : Coordination _ _ _ _ _). s.core.state.ended ≡ true) (sym c.self.view_is) c.requires in
    let some : 0 < first.limits.partitions = omega
    (arith, ap (λ (l : _). l.partitions) c.limits.ensures, ap (λ (l : _). l.partitions) now.same.limits_are, c.partitions.ensures.are.partitions_least) in
    cold_unlost own fated first shelf before now ended c.in_ok-finished.finished.0 c.in_ok-finished.finished.1
    (record { calls = inside.calls; steps = c.in_ok-steps.steps; losses = c.from_vec.result })
    steps refl c.from_vec.ensures c.in_ok-finished.ensures.finished some one
