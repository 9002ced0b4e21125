use Rattle.std.proofs.Common.{rules, ◌≡◌, ◌≤◌, ◌<◌, ℕ, List, [], length, ap, sym, ◌∙◌, subst, subst₂}
use Rattle.pg_workers.specs.Meaning.{meaning}
use Rattle.std.proofs.lemmas.Bool.{eqb-true}
use Rattle.std.proofs.lemmas.List.{nil_from_length}
use Rattle.std.proofs.lemmas.Result.{on_ok_weaker}
use Rattle.pg_workers.specs.Losses.{AreAll}
use Rattle.pg_workers.specs.Refused.{AreLosses}
use Rattle.pg_core.specs.Handed.{Limits}
use Rattle.pg_workers.specs.declared.counts.Loss.{Loss}
use Rattle.pg_workers.proofs.Ending.{all_fell, losses_are}
use Rattle.pg_workers.proofs.coordinator.Coordinator.recover.Goals as goal

pub returns-clause-keeps : goal.returns-clause-keeps
returns-clause-keeps g c =
    on_ok_weaker c.restore_all.result
    (λ keeps fated first runs falls. keeps fated first (c.in_ok-lose_all.ensures.keeps fated first (g.S.Shelf.state c.args.shelf.now) runs falls))
    c.restore_all.ensures.keeps

pub returns-then-len-max_losses-clause-refused : goal.returns-then-len-max_losses-clause-refused
returns-then-len-max_losses-clause-refused g c fated first runs falls =
    let own = meaning g.P.Computation.program g.C.MessageCombiner.combining g.M.MasterCompute.master g.P.Value.PartialEq.eq g.P.Message.PartialEq.eq
    g.P.Value.Plain.is_value g.P.Value.Coded.coding g.P.Message.Plain.is_value g.P.Message.Coded.coding in
    let shelf = g.S.Shelf.state c.args.shelf.now in
    let now = c.lose_all.new.self in
    let gone = c.in_ok-lose_all.ensures.keeps fated first shelf runs falls in
    let same : now.losses ≡ c.replace-losses.result.items = search rules in
    let more : now.core.limits.max_losses < length now.losses = search rules in (
      subst (AreLosses fated first.limits) same (losses_are own fated first shelf now gone),
      subst₂ (λ (n : ℕ) (l : List Loss). n < length l) (ap (λ (l : Limits). l.max_losses) gone.same.limits_are) same more,
    )

pub returns-then-is_empty-2-clause-refused : goal.returns-then-is_empty-2-clause-refused
returns-then-is_empty-2-clause-refused g c fated first runs falls =
    let own = meaning g.P.Computation.program g.C.MessageCombiner.combining g.M.MasterCompute.master g.P.Value.PartialEq.eq g.P.Message.PartialEq.eq
    g.P.Value.Plain.is_value g.P.Value.Coded.coding g.P.Message.Plain.is_value g.P.Message.Coded.coding in
    let shelf = g.S.Shelf.state c.args.shelf.now in
    let now = c.lose_all.new.self in
    let gone = c.in_ok-lose_all.ensures.keeps fated first shelf runs falls in
    let same : now.losses ≡ c.replace-losses-then-is_empty-2.result.items = search rules in
    let few : length now.losses ≤ now.core.limits.max_losses = search rules in
    let alive = c.in_ok-alive.alive in
    let none : alive.items ≡ [] = nil_from_length alive.items (sym alive.ok.0 ∙ eqb-true alive.len 0 (sym c.if-is_empty-2.ensures)) in (
      subst (AreLosses fated first.limits) same (losses_are own fated first shelf now gone),
      (
        subst₂ (λ (n : ℕ) (l : List Loss). length l ≤ n) (ap (λ (l : Limits). l.max_losses) gone.same.limits_are) same few,
        subst (AreAll first.limits.workers) same (all_fell own fated first shelf now gone (c.in_ok-alive.ensures none)),
      ),
    )
