use Rattle.std.proofs.Common.{option_map, ap, ◌∙◌}
use Rattle.pg_publish.specs.History.{last_of}
use Rattle.pg_publish.specs.Sender.{told_of}
use Rattle.pg_publish.proofs.Fronts.{last_of-append}
use Rattle.pg_service.proofs.Leading.{refresh_answered, refresh_refused}
use Rattle.pg_service.proofs.Refreshed.{refreshed, reported, stands_refreshed}
use Rattle.pg_service.proofs.service.Service.refresh.Goals as goal

pub returns-in_err-finished-clause-leads : goal.returns-in_err-finished-clause-leads
returns-in_err-finished-clause-leads g c =
    refresh_refused _ _ _ _ c.args.self.now _ (λ i. record (c.self.view_is i) {
      graph = (c.compact.ensures ∙ ap (λ s. s.graph) c.self.view_is) i;
      kept = option_map (λ run. run.traces.graph) (c.take-kept.ensures.after i);
    })

pub returns-in_err-answers-clause-leads : goal.returns-in_err-answers-clause-leads
returns-in_err-answers-clause-leads g c =
    refresh_refused _ _ _ _ c.args.self.now _ (λ i. record (c.self.view_is i) {
      graph = (c.compact.ensures ∙ ap (λ s. s.graph) c.self.view_is) i;
      kept = option_map (λ run. run.traces.graph) (c.take-kept.ensures.after i);
    })

pub returns-in_err-publish-clause-leads : goal.returns-in_err-publish-clause-leads
returns-in_err-publish-clause-leads g c =
    refresh_refused _ _ _ _ c.args.self.now _ (λ i. record (c.self.view_is i) {
      graph = (c.compact.ensures ∙ ap (λ s. s.graph) c.self.view_is) i;
      told = (ap told_of c.in_err-publish.ensures.list ∙ ap (λ s. s.told) c.self.view_is) i;
      readers = (ap (λ p. p.readers) c.in_err-publish.ensures.list ∙ ap (λ s. s.readers) c.self.view_is) i;
      kept = option_map (λ run. run.traces.graph) (c.take-kept.ensures.after i);
    })

pub invariant_of-self-2 : goal.invariant_of-self-2
invariant_of-self-2 g c =
    stands_refreshed c.self.invariant c.in_ok-answers.ensures
    (ap (λ p. last_of p.list) c.in_ok-publish.ensures.list ∙ last_of-append c.self.inside.publisher.list c.in_ok-answers.answers)
    c.new-2.ensures c.in_ok-finished.ensures.ran.answers c.in_ok-finished.ensures.ran.leaves

pub returns-clause-report : goal.returns-clause-report
returns-clause-report g c =
    reported g.P.Computation.program g.C.MessageCombiner.combining g.M.MasterCompute.master
    (λ i. record (c.self.view_is i) { graph = (c.compact.ensures ∙ ap (λ s. s.graph) c.self.view_is) i })
    g.P.Value.PartialEq.eq g.P.Message.PartialEq.eq (g.F.Fate.fated c.args.fate.now) c.in_ok-finished.finished.0 c.of-report.ensures
    (ap (option_map (λ run. run.traces.graph)) c.take-kept.ensures.value) c.in_ok-finished.ensures.ran

pub returns-clause-published : goal.returns-clause-published
returns-clause-published g c =
    refreshed g.P.Computation.program g.C.MessageCombiner.combining g.M.MasterCompute.master
    (λ i. record (c.self.view_is i) { graph = (c.compact.ensures ∙ ap (λ s. s.graph) c.self.view_is) i })
    c.in_ok-finished.finished.0 c.in_ok-answers.ensures c.self.invariant.named (ap told_of c.in_ok-publish.ensures.list)
    (ap (λ p. p.readers) c.in_ok-publish.ensures.list) c.in_ok-finished.ensures.ran.answers
    (ap (λ run. run.traces.graph) c.new-2.ensures ∙ c.in_ok-finished.ensures.ran.leaves.graph_is)

pub returns-clause-leads : goal.returns-clause-leads
returns-clause-leads g c = refresh_answered _ _ _ _ c.args.self.now _ (returns-clause-published g c)
