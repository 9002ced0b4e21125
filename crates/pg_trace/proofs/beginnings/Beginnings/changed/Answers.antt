use Rattle.std.proofs.Common.{ap, ap₂, sym, ◌∙◌, subst}
use Rattle.std.specs.Map.{values_of}
use Rattle.pg_map.specs.Entries.{with_changes}
use Rattle.pg_trace.specs.Beginning.{AreById, by_id}
use Rattle.pg_trace.proofs.Beginning.{are-changes, by_id-values}
use Rattle.pg_trace.proofs.beginnings.Beginnings.changed.Goals as goal

pub invariant_of-result : goal.invariant_of-result
invariant_of-result g c =
    subst AreById (sym (c.in_ok-change.ensures.ok ∙ ap₂ with_changes (c.as_slice.ensures.value ∙ c.in_ok-changes.ensures) c.in_ok-states.ensures))
    (are-changes c.args.changes.items c.self.inside.states c.requires.by_id c.self.invariant)

pub returns : goal.returns
returns g c =
    ap values_of (c.in_ok-change.ensures.ok
    ∙ ap₂ with_changes (c.as_slice.ensures.value ∙ c.in_ok-changes.ensures)
    (c.in_ok-states.ensures ∙ (sym (by_id-values c.self.inside.states c.self.invariant) ∙ ap by_id c.self.view_is)))
