use Rattle.std.proofs.Common.{◌≡◌, ℕ, ◌<◌, [], ◌∷◌, ◌++◌, true, cond, map, filter, All, ap, sym, ◌∙◌, subst, arith}
use Rattle.std.specs.List.{range_with_len}
use Rattle.pg_core_machine.specs.Machine.{Reaches, first_state, host_of, is_alive}
use Rattle.pg_core.specs.Progress.{is_ready}
use Rattle.pg_core.proofs.Parts.{listed_more}
use Rattle.pg_core.proofs.Recovery.{ready_are_alive}
use Rattle.pg_core.proofs.running.Core.ready.Goals as goal

pub loop-number-preserved : goal.loop-number-preserved
loop-number-preserved g c =
    let core = c.args.self.now in
    let before = c.loop-number.ready.items in
    listed_more (is_ready core) (λ p. (host_of p core.state, p)) c.loop-number.number before c.push_ready.new.ready.items c.loop-number.invariant
    (c.in_ok-push_ready.ensures ∙ ap (λ (p : ℕ). before ++ cond (is_ready core p) ((host_of p core.state, p) ∷ []) []) c.new.ensures)

pub returns-clause-ready : goal.returns-clause-ready
returns-clause-ready g c =
    let core = c.args.self.now in
    let all : c.loop-number.number ≡ c.partitions-number-end.result = omega (arith, c.loop-number-test.false, c.loop-number.auto) in
    c.loop-number.invariant
    ∙ ap (λ (n : ℕ). map (λ p. (host_of p core.state, p)) (filter (is_ready core) (range_with_len 0 n)))
    (all ∙ (c.partitions-number-end.ensures.value ∙ ap (λ core. core.limits.partitions) c.self.view_is))

pub returns-clause-alive : goal.returns-clause-alive
returns-clause-alive g c =
    let core = c.args.self.now in
    let some = subst (λ core. 0 < core.limits.workers) c.self.view_is c.self.invariant.limits_are.workers_least in
    let events =
    subst (λ core. Reaches (first_state core.limits.partitions core.limits.workers) core.history core.state) c.self.view_is c.self.invariant.events in
    subst (All (λ r. is_alive r.0 core.state ≡ true)) (sym (returns-clause-ready g c)) (ready_are_alive core some events)
