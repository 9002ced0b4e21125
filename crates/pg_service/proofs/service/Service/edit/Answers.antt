use Rattle.std.proofs.Common.{rules, ◌≡◌, ◌+◌, ap, sym, subst, ◌∙◌, arith}
use Rattle.std.proofs.lemmas.Result.{IfOk-from_err}
use Rattle.std.specs.Arc.{arc_value}
use Rattle.pg_publish.specs.History.{last_of}
use Rattle.pg_service.specs.Service.{Stands, next_graph}
use Rattle.pg_service.proofs.Leading.{edit_accepted, edit_refused}
use Rattle.pg_service.proofs.Refreshed.{refused_so, stands_later}
use Rattle.pg_service.proofs.service.Service.edit.Goals as goal

pub returns-in_default-clause-leads : goal.returns-in_default-clause-leads
returns-in_default-clause-leads g c batches led = led

pub invariant_of-self : goal.invariant_of-self
invariant_of-self g c = record {
  can_run = c.self.invariant.can_run;
  named = c.self.invariant.named;
  answered = c.self.invariant.answered;
  warm = c.mark_touched.ensures.before _ _ _ c.self.invariant.warm;
}

pub returns-in_err-mark_touched-clause-ok : goal.returns-in_err-mark_touched-clause-ok
returns-in_err-mark_touched-clause-ok g c = IfOk-from_err c.from_residual.result _ c.from_residual.ensures.0

pub returns-in_err-mark_touched-clause-edition : goal.returns-in_err-mark_touched-clause-edition
returns-in_err-mark_touched-clause-edition g c = IfOk-from_err c.from_residual.result _ c.from_residual.ensures.0

pub returns-in_err-mark_touched-clause-rest : goal.returns-in_err-mark_touched-clause-rest
returns-in_err-mark_touched-clause-rest g c = IfOk-from_err c.from_residual.result _ c.from_residual.ensures.0

pub returns-in_err-mark_touched-clause-err : goal.returns-in_err-mark_touched-clause-err
returns-in_err-mark_touched-clause-err g c =
    refused_so c.from_residual.result
    (λ i. record (c.self.view_is i) { kept = (c.mark_touched.ensures.graph ∙ ap (λ s. s.kept) c.self.view_is) i })

pub returns-in_err-mark_touched-clause-leads : goal.returns-in_err-mark_touched-clause-leads
returns-in_err-mark_touched-clause-leads g c batches led =
    edit_refused _ _ _ _ c.args.batch.now c.args.self.now _ c.from_residual.result c.from_residual.ensures.0
    (returns-in_err-mark_touched-clause-err g c) batches led

pub invariant_of-self-in_err-apply : goal.invariant_of-self-in_err-apply
invariant_of-self-in_err-apply g c =
    let inside = c.self.inside in
    let program = g.P.Computation.program inside.program in
    let combining = g.C.MessageCombiner.combining inside.combiner in
    let master = g.M.MasterCompute.master inside.master in
    subst (λ graph. Stands program combining master inside.limits (arc_value inside.registry) graph inside.edition
    (last_of inside.publisher.list) c.mark_touched.new.kept)
    (sym c.in_err-apply.ensures.err) (record {
      can_run = c.self.invariant.can_run;
      named = c.self.invariant.named;
      answered = c.self.invariant.answered;
      warm = c.mark_touched.ensures.before _ _ _ c.self.invariant.warm;
    })

pub returns-in_err-apply-clause-ok : goal.returns-in_err-apply-clause-ok
returns-in_err-apply-clause-ok g c = IfOk-from_err c.from_residual-in_err-apply.result _ c.from_residual-in_err-apply.ensures.0

pub returns-in_err-apply-clause-edition : goal.returns-in_err-apply-clause-edition
returns-in_err-apply-clause-edition g c = IfOk-from_err c.from_residual-in_err-apply.result _ c.from_residual-in_err-apply.ensures.0

pub returns-in_err-apply-clause-rest : goal.returns-in_err-apply-clause-rest
returns-in_err-apply-clause-rest g c = IfOk-from_err c.from_residual-in_err-apply.result _ c.from_residual-in_err-apply.ensures.0

pub returns-in_err-apply-clause-err : goal.returns-in_err-apply-clause-err
returns-in_err-apply-clause-err g c =
    refused_so c.from_residual-in_err-apply.result
    (λ i. record (c.self.view_is i) {
      graph = (c.in_err-apply.ensures.err ∙ ap (λ s. s.graph) c.self.view_is) i;
      kept = (c.mark_touched.ensures.graph ∙ ap (λ s. s.kept) c.self.view_is) i;
    })

pub returns-in_err-apply-clause-leads : goal.returns-in_err-apply-clause-leads
returns-in_err-apply-clause-leads g c batches led =
    edit_refused _ _ _ _ c.args.batch.now c.args.self.now _ c.from_residual-in_err-apply.result c.from_residual-in_err-apply.ensures.0
    (returns-in_err-apply-clause-err g c) batches led

pub invariant_of-self-2 : goal.invariant_of-self-2
invariant_of-self-2 g c =
    let next : c.new-self-inside.result ≡ c.self.inside.edition + 1 = omega arith in
    stands_later c.self.invariant next
    (c.in_ok-mark_touched.ensures.after _ _ c.self.inside.graph c.apply.new.self c.in_ok-apply.ensures.ok c.self.invariant.warm)

pub returns-clause-rest : goal.returns-clause-rest
returns-clause-rest g c =
    let next : c.new-self-inside.result ≡ c.self.inside.edition + 1 = omega arith in
    λ i. record (c.self.view_is i) {
      graph = c.apply.new.self;
      edition = (next ∙ ap (λ s. s.edition + 1) c.self.view_is) i;
      kept = (c.mark_touched.ensures.graph ∙ ap (λ s. s.kept) c.self.view_is) i;
    }

pub returns-clause-leads : goal.returns-clause-leads
unfolding next_graph
returns-clause-leads g c batches led =
    edit_accepted _ _ _ _ c.args.batch.now c.args.self.now _ (search rules) (returns-clause-rest g c) batches led
