use Rattle.std.proofs.Common.{◌≡◌, false, ◌∷◌, [], ◌++◌, ap, sym, ◌∙◌, subst, append_assoc}
use Rattle.std.specs.List.{AllZip}
use Rattle.std.proofs.lemmas.List.Elements.{All-push}
use Rattle.pg_workers_rounds.specs.Work.{strikes}
use Rattle.pg_workers_rounds.proofs.Zips.{zip_push}
use Rattle.pg_workers_rounds.proofs.working.work.Goals as goal

pub loop-part-preserved : goal.loop-part-preserved
loop-part-preserved g c =
    let before = c.loop-part.yielded in
    let part = c.in-Some.part in
    let spared : strikes (g.F.Fate.fated c.args.fate.now) c.args.round.now part ≡ false =
    rw (sym c.superstep.ensures, sym c.attempt.ensures, sym c.worker.ensures, sym c.partition-partition.ensures) (sym c.falls.ensures ∙ c.if-falls.false) in
    record {
      whole = append_assoc before (part ∷ []) c.next.new.self.rest.items
          ∙ (ap (λ l. before ++ l) (sym c.in-Some.ensures.steps.0) ∙ c.loop-part.invariant.whole);
      done = subst (AllZip _ (before ++ part ∷ [])) (sym c.in-Ok-push.ensures.items)
          (zip_push _ before c.loop-part.dones.items part c.in-Ok.done c.loop-part.invariant.done c.in-Ok.ensures);
      spared = All-push (λ part. strikes (g.F.Fate.fated c.args.fate.now) c.args.round.now part ≡ false) before part c.loop-part.invariant.spared spared;
    }
