use Rattle.std.proofs.Common.{◌≡◌, ◌∷◌, [], ◌++◌, ap, sym, ◌∙◌, subst, append_assoc}
use Rattle.std.specs.List.{AllZip}
use Rattle.std.proofs.lemmas.List.{nil_from_length, append-nil}
use Rattle.pg_workers_rounds.specs.Outcomes.{IsOutcome}
use Rattle.pg_workers_rounds.proofs.Zips.{zip_at, zip_many, zip_push}
use Rattle.pg_workers_rounds.proofs.threads.in_turn.Goals as goal

pub loop-assignment-preserved : goal.loop-assignment-preserved
loop-assignment-preserved g c =
    let before = c.loop-assignment.yielded in
    let assignment = c.in-Some.assignment in
    record {
      whole = append_assoc before (assignment ∷ []) c.next.new.self.rest.items
          ∙ (ap (λ l. before ++ l) (sym c.in-Some.ensures.steps.0) ∙ c.loop-assignment.invariant.whole);
      done = subst (AllZip _ (before ++ assignment ∷ [])) (sym c.in_ok-push.ensures.items)
          (zip_push _ before c.loop-assignment.outcomes.items assignment c.carry_out.result c.loop-assignment.invariant.done c.carry_out.ensures);
    }

pub returns : goal.returns
returns g c =
    let rest = c.loop-assignment.assignment-iterator.rest in
    let yielded = c.loop-assignment.yielded in
    let outcomes = c.loop-assignment.outcomes.items in
    let assignments = c.args.assignments.items in
    let none : rest.items ≡ [] = nil_from_length rest.items (sym rest.ok.0 ∙ c.in-None.ensures.steps.0) in
    let whole : yielded ≡ assignments = sym (append-nil yielded) ∙ (ap (λ l. yielded ++ l) (sym none) ∙ c.loop-assignment.invariant.whole) in
    let zip = subst (λ l. AllZip (IsOutcome g.P.Value.PartialEq.eq g.P.Message.PartialEq.eq (g.P.Computation.program c.args.program.now)
    (g.C.MessageCombiner.combining c.args.combiner.now) (g.F.Fate.fated c.args.fate.now) c.args.round.now) l outcomes)
    whole c.loop-assignment.invariant.done in
    record {
      many = zip_many _ assignments outcomes zip;
      each = λ i assignment outcome inside. zip_at _ assignments outcomes i assignment outcome zip inside;
    }
