use Rattle.std.proofs.Common.{[], ap, sym, ◌∙◌}
use Rattle.std.specs.Arc.{arc_value}
use Rattle.std.specs.Option.{option_copied}
use Rattle.pg_map.specs.Entries.{value_at, with_changes}
use Rattle.pg_trace_records.specs.RecordChanges.{given_to}
use Rattle.pg_trace_records.proofs.Changed.{given_rises, value_given, value_over}
use Rattle.pg_trace_records.proofs.records.Records.get.Goals as goal

pub returns-in-Some : goal.returns-in-Some
returns-in-Some g c =
    let id = c.args.id in
    let given = arc_value c.self.inside.given in
    c.record.ensures
    ∙ value_over c.self.inside.changes (with_changes given []) id c.self.invariant.1 (given_rises given)
    (sym c.change_at.ensures ∙ ap option_copied c.in-Some.is) (value_given given c.self.invariant.0 id)
    ∙ ap (value_at id) c.self.view_is

pub returns-in-None : goal.returns-in-None
returns-in-None g c =
    let id = c.args.id in
    let given = arc_value c.self.inside.given in
    c.given.ensures ∙ ap (given_to id) c.deref.ensures
    ∙ value_over c.self.inside.changes (with_changes given []) id c.self.invariant.1 (given_rises given)
    (sym c.change_at.ensures ∙ ap option_copied c.in-None.is) (value_given given c.self.invariant.0 id)
    ∙ ap (value_at id) c.self.view_is
