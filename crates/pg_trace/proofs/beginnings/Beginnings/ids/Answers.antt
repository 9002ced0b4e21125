use Rattle.std.proofs.Common.{map, ap, sym, ◌∙◌, subst}
use Rattle.std.specs.List.Sorted.{IsStrictlySortedBy}
use Rattle.std.specs.Ordering.{nat_cmp}
use Rattle.pg_trace.proofs.Beginning.{ids-values}
use Rattle.pg_trace.proofs.beginnings.Beginnings.ids.Goals as goal

pub returns : goal.returns
returns g c =
    let same = sym (ids-values c.self.inside.states c.self.invariant) ∙ ap (map (λ x. x.id)) c.self.view_is in
    record {
      ids = c.in_ok-ids.ensures.ids ∙ same;
      rising = subst (IsStrictlySortedBy nat_cmp) same c.in_ok-ids.ensures.rising;
    }

pub returns-in_err-ids-clause-rising : goal.returns-in_err-ids-clause-rising
returns-in_err-ids-clause-rising g c =
    subst (IsStrictlySortedBy nat_cmp) (sym (ids-values c.self.inside.states c.self.invariant) ∙ ap (map (λ x. x.id)) c.self.view_is) c.keys_of.ensures.rising
