use Rattle.std.proofs.Common.{◌≡◌, ℕ, ◌+◌, ◌≤◌, length, map, ap, subst, sym, ◌∙◌}
use Rattle.std.proofs.lemmas.List.{length-map}
use Rattle.pg_model.specs.Run.{executions}
use Rattle.pg_model.specs.Superstep.{capped}
use Rattle.pg_global.specs.Master.{has_places, job_of}
use Rattle.pg_scratch.proofs.runner.run.Goals as goal

pub run_registered-requires-clause-prepared : goal.run_registered-requires-clause-prepared
run_registered-requires-clause-prepared g c κs within =
    let registry = c.in_ok-registry.registry in
    let declared = (g.P.Computation.program c.args.program.now).declared in
    let slice = c.as_slice.ensures.value ∙ c.in_ok-registrations.ensures.value in
    let count : length c.as_slice.result.now ≡ length registry = ap length slice ∙ length-map registry (λ e. e.1) in
    record {
      registered = slice ∙ ap (map (λ e. e.1)) c.in_ok-registry.ensures.ok;
      few = subst (λ (n : ℕ). n ≤ 16) (sym count) c.in_ok-registrations.ensures.few;
      declared =
          ap (has_places declared) (count ∙ sym c.len.ensures.value) ∙ ap (λ d. has_places d c.len.result) (sym c.declared.ensures)
          ∙ sym c.are_within.ensures ∙ c.if-not-are_within.false;
    }

pub returns-clause-answer : goal.returns-clause-answer
returns-clause-answer g c = c.in_ok-answer.ensures.run.0

pub returns-clause-meter : goal.returns-clause-meter
returns-clause-meter g c =
    let job = job_of (g.P.Computation.program c.args.program.now) (g.C.MessageCombiner.combining c.args.combiner.now)
    (g.M.MasterCompute.master c.args.master.now) c.args.missing c.args.limit in
    c.in_ok-answer.ensures.run.1 ∙ ap (λ (n : ℕ). capped (n + executions job c.args.graph.now)) c.copy.ensures.value
