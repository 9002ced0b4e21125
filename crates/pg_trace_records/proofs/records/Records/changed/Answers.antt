use Rattle.std.proofs.Common.{[], ap, ap₂, sym, ◌∙◌, subst}
use Rattle.std.specs.Arc.{arc_value}
use Rattle.pg_map.specs.Entries.{ChangesRise, HasRisingIds, with_changes}
use Rattle.pg_map.proofs.Changing.{rises-changes}
use Rattle.pg_trace_records.proofs.Changed.{changed_over, given_rises, kept_rise, some_rise}
use Rattle.pg_trace_records.proofs.records.Records.changed.Goals as goal

pub change-requires : goal.change-requires
change-requires g c =
    subst (λ l. ChangesRise l) (sym (c.as_slice.ensures.value ∙ c.in_ok-changes.ensures)) (some_rise c.args.changes c.requires)

pub invariant_of-result : goal.invariant_of-result
invariant_of-result g c = (
  subst (λ l. ChangesRise l) (sym c.in_ok-try_clone.ensures) c.self.invariant.0,
  subst (λ l. HasRisingIds l) (sym c.in_ok-change.ensures.ok)
      (rises-changes c.as_slice.result.now c.in_ok-over.over (subst (λ l. HasRisingIds l) (sym c.in_ok-over.ensures) c.self.invariant.1)),
)

pub returns-clause-records : goal.returns-clause-records
returns-clause-records g c =
    let given = arc_value c.self.inside.given in
    ap₂ (λ over base. with_changes over (with_changes base []))
    (c.in_ok-change.ensures.ok ∙ ap₂ with_changes (c.as_slice.ensures.value ∙ c.in_ok-changes.ensures) c.in_ok-over.ensures) c.in_ok-try_clone.ensures
    ∙ changed_over c.args.changes c.self.inside.changes (with_changes given []) c.requires c.self.invariant.1 (given_rises given)
    ∙ ap (with_changes c.args.changes) c.self.view_is

pub returns-clause-rising : goal.returns-clause-rising
returns-clause-rising g c = kept_rise c.self.inside.changes (arc_value c.self.inside.given) c.self.view_is

pub returns-in_err-over-clause-rising : goal.returns-in_err-over-clause-rising
returns-in_err-over-clause-rising g c = kept_rise c.self.inside.changes (arc_value c.self.inside.given) c.self.view_is

pub returns-in_err-changes-clause-rising : goal.returns-in_err-changes-clause-rising
returns-in_err-changes-clause-rising g c = kept_rise c.self.inside.changes (arc_value c.self.inside.given) c.self.view_is

pub returns-in_err-change-clause-rising : goal.returns-in_err-change-clause-rising
returns-in_err-change-clause-rising g c = kept_rise c.self.inside.changes (arc_value c.self.inside.given) c.self.view_is

pub returns-in_err-try_clone-clause-rising : goal.returns-in_err-try_clone-clause-rising
returns-in_err-try_clone-clause-rising g c = kept_rise c.self.inside.changes (arc_value c.self.inside.given) c.self.view_is
