use Rattle.std.proofs.Common.{[], None, unwrap_or, ap, sym, ◌∙◌}
use Rattle.std.specs.Arc.{arc_value}
use Rattle.pg_map.specs.Entries.{value_at, with_changes}
use Rattle.pg_model.specs.Superstep.{has_id}
use Rattle.pg_trace_records.proofs.Changed.{given_rises, kept_rise, value_given, value_over}
use Rattle.pg_trace_records.proofs.records.Records.listed.Goals as goal

pub returns-then-len-eq0-clause-rising : goal.returns-then-len-eq0-clause-rising
returns-then-len-eq0-clause-rising g c = kept_rise c.self.inside.changes (arc_value c.self.inside.given) c.self.view_is

pub returns-in_err-ids-clause-rising : goal.returns-in_err-ids-clause-rising
returns-in_err-ids-clause-rising g c = kept_rise c.self.inside.changes (arc_value c.self.inside.given) c.self.view_is

pub found-requires-clause-all : goal.found-requires-clause-all
found-requires-clause-all g c id none =
    let given = arc_value c.self.inside.given in
    let missing = ap (λ l. has_id l id) (sym c.as_slice.ensures.value) ∙ none in
    ap (λ l. value_at id (with_changes c.self.inside.changes (with_changes l []))) c.deref-3.ensures
    ∙ sym (value_over c.self.inside.changes (with_changes given []) id c.self.invariant.1 (given_rises given) (c.in_ok-ids.ensures.changes id missing)
    (value_given given c.self.invariant.0 id
    ∙ ap (λ o. unwrap_or o None) (ap (value_at id) (sym c.deref-2.ensures) ∙ c.in_ok-ids.ensures.given id missing)))

pub returns-clause-rising : goal.returns-clause-rising
returns-clause-rising g c = kept_rise c.self.inside.changes (arc_value c.self.inside.given) c.self.view_is
