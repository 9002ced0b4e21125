use Rattle.std.proofs.Common.{[], ap, sym, ◌∙◌}
use Rattle.std.specs.Option.{option_copied}
use Rattle.pg_map.specs.Entries.{with_changes}
use Rattle.pg_trace_records.proofs.Changed.{given_rises, value_given, value_over}
use Rattle.pg_trace_records.proofs.records.found_by.Goals as goal

pub returns-in-Some-clause-found : goal.returns-in-Some-clause-found
returns-in-Some-clause-found g c =
    let given = c.args.given.now in
    c.record.ensures
    ∙ value_over c.args.changes.now (with_changes given []) c.args.id c.requires.changes (given_rises given)
    (sym c.get.ensures.value ∙ ap option_copied c.in-Some.is) (value_given given c.requires.given c.args.id)

pub returns-in-None-clause-found : goal.returns-in-None-clause-found
returns-in-None-clause-found g c =
    let given = c.args.given.now in
    c.given.ensures
    ∙ value_over c.args.changes.now (with_changes given []) c.args.id c.requires.changes (given_rises given)
    (sym c.get.ensures.value ∙ ap option_copied c.in-None.is) (value_given given c.requires.given c.args.id)
