use Rattle.std.proofs.Common.{subst, sym, ◌∙◌}
use Rattle.std.proofs.lemmas.Bool.{ltb-false, ltb-true}
use Rattle.pg_inbox.specs.Merged.{IsLowestOf}
use Rattle.pg_inbox.proofs.Merged.{lowest_among, lowest_only, lowest_stays}
use Rattle.pg_inbox.proofs.lists.lower.Goals.{in_default-via-in-Some-lowest+else-is_below, in_default-via-in_default}
use Rattle.pg_inbox.proofs.lists.lower.Goals as goal

pub returns-in-Some-lowest : goal.returns-in-Some-lowest
returns-in-Some-lowest g c = λ lists h.
    lowest_stays lists c.args.list.now c.in-Some.first.now _ c.in-Some.ensures.cases.0 c.requires c.in-Some-lowest.target
    (ltb-true _ _ (sym c.is_below.ensures ∙ c.if-is_below.true)) (subst (IsLowestOf lists) c.in-Some-lowest.is h)

pub returns-in_default : goal.returns-in_default
returns-in_default g c = λ lists h.
    elim c.in_default.branch [
      | in_default-via-in-Some-lowest+else-is_below w ↦
          lowest_among lists c.args.list.now c.in-Some.first.now _ c.in-Some.ensures.cases.0 c.requires w.in-Some-lowest.target
          (ltb-false _ _ (sym w.is_below.ensures ∙ w.if-is_below.false)) (subst (IsLowestOf lists) w.in-Some-lowest.is h)
      | in_default-via-in_default w ↦
          lowest_only lists c.args.list.now c.in-Some.first.now _ c.in-Some.ensures.cases.0 c.requires (subst (IsLowestOf lists) w.in_default.is h)
    ]
