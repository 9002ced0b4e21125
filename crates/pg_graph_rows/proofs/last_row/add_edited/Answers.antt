use Rattle.std.proofs.Common.{rules, ◌≡◌, length, refl, sym}
use Rattle.std.specs.Option.{option_copied}
use Rattle.pg_graph_rows.proofs.LastRow.{edited_all, first_within, on_err, one_more, refused}
use Rattle.pg_graph_rows.proofs.last_row.add_edited.Goals as goal

pub loop-position-init : goal.loop-position-init
loop-position-init c = record { now = option_copied c.args.row; remaining = refl; lies = c.in_ok-input.ensures.ok }

pub edit_last-requires : goal.edit_last-requires
edit_last-requires c =
    let now = c.loop-position in
    let long : c.len-first.result ≡ length c.args.list.now.items = search rules in
    first_within (option_copied c.args.row) c.args.edits.now now.position-index c.args.list.now.items c.len-first.result now.input now.list.items
    long now.invariant

pub returns-in_err-kind-clause-err : goal.returns-in_err-kind-clause-err
returns-in_err-kind-clause-err c =
    let now = c.loop-position in
    let long : c.len-first.result ≡ length c.args.list.now.items = search rules in
    on_err c.from_residual-in_err-kind.result (c.in_err-kind.ensures c.args.list.now.items now.invariant.now (sym long) now.invariant.lies)

pub returns-in-Err-clause-ok : goal.returns-in-Err-clause-ok
returns-in-Err-clause-ok c =
    let now = c.loop-position in
    let long : c.len-first.result ≡ length c.args.list.now.items = search rules in
    let front = c.args.list.now.items in
    refused (option_copied c.args.row) c.args.edits.now now.position-index front c.len-first.result now.input now.list.items long now.invariant
    c.loop-position-test.true c.loop-position-item.is _ _ _
    (c.in_ok-kind.ensures front now.invariant.now (sym long) now.invariant.lies) c.in-Err.kind _ c.in-Err.is c.truncate.ensures.items

pub loop-position-preserved : goal.loop-position-preserved
loop-position-preserved c =
    let now = c.loop-position in
    let long : c.len-first.result ≡ length c.args.list.now.items = search rules in
    let front = c.args.list.now.items in
    one_more (option_copied c.args.row) c.args.edits.now now.position-index front c.len-first.result now.input now.list.items long now.invariant
    c.loop-position-test.true c.loop-position-item.is _ _ _
    (c.in_ok-kind.ensures front now.invariant.now (sym long) now.invariant.lies) c.in_default.field-0 c.in_default.is

pub returns-clause-ok : goal.returns-clause-ok
returns-clause-ok c =
    let now = c.loop-position in
    let long : c.len-first.result ≡ length c.args.list.now.items = search rules in
    edited_all (option_copied c.args.row) c.args.edits.now now.position-index c.args.list.now.items c.len-first.result now.input now.list.items
    long now.invariant c.loop-position-test.false
