use Rattle.std.proofs.Common.{sym, ◌∙◌, true≢false}
use Rattle.std.proofs.lemmas.Result.{IfOk-weaker}
use Rattle.pg_part.proofs.stats_history.gathered_warm.Goals as goal

pub returns-then-contribute_alike : goal.returns-then-contribute_alike
returns-then-contribute_alike g c =
    let alike = sym c.contribute_alike.ensures ∙ c.if-contribute_alike.true in
    record {
      alike = IfOk-weaker c.copied.result _ _ (λ gathered is all. is) c.copied.ensures;
      otherwise = IfOk-weaker c.copied.result _ _ (λ gathered is some. absurd (true≢false (sym alike ∙ some))) c.copied.ensures;
    }

pub returns : goal.returns
returns g c =
    let otherwise = sym c.contribute_alike.ensures ∙ c.if-contribute_alike.false in
    record {
      alike = IfOk-weaker c.gathered_in.result _ _ (λ gathered is all. absurd (true≢false (sym all ∙ otherwise))) c.gathered_in.ensures;
      otherwise = IfOk-weaker c.gathered_in.result _ _ (λ gathered is some. is) c.gathered_in.ensures;
    }
