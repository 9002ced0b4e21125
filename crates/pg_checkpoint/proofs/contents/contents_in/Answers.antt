use Rattle.std.proofs.Common.{◌≡◌, ◌<◌, ◌^◌, [], Err, Some, ap, length, subst}
use Rattle.std.proofs.lemmas.Result.{err_from_is_err_and}
use Rattle.pg_checkpoint.specs.Reading.{IsOpening, Reads, opening_coding}
use Rattle.pg_checkpoint.proofs.Opened.{is_said, not_behind, not_done, not_opened, nothing_left, something_left}
use Rattle.pg_program.proofs.InTurn.{read_at}
use Rattle.pg_program.specs.Coding.{IsRead}
use Rattle.pg_checkpoint.proofs.contents.contents_in.Goals as goal

pub returns-in_err-opening : goal.returns-in_err-opening
returns-in_err-opening g c =
    let p = err_from_is_err_and c.from_residual.result c.from_residual.ensures.1 in
    let short : length c.args.bytes.now < 2 ^ 64 = search in
    rw (p.1, p.2) (not_opened g.V.Plain.is_value g.V.Coded.coding g.M.Plain.is_value g.M.Coded.coding c.args.run c.args.partition c.args.bytes.now
    short c.ranges.run.fits c.ranges.partition.fits c.in_err-opening.field-0.0 c.opening.new.self
    (subst (λ l. Reads IsOpening opening_coding l (Err c.in_err-opening.field-0.0) c.opening.new.self) c.new-reader.ensures c.in_err-opening.ensures))

pub returns-in_err-contents : goal.returns-in_err-contents
returns-in_err-contents g c =
    let p = err_from_is_err_and c.from_residual-in_err-contents.result c.from_residual-in_err-contents.ensures.1 in
    let short : length c.args.bytes.now < 2 ^ 64 = search in
    let opened : IsRead IsOpening opening_coding c.args.bytes.now (Some (c.in_ok-opening.opening, c.opening.new.self)) =
    subst (λ l. IsRead IsOpening opening_coding l (Some (c.in_ok-opening.opening, c.opening.new.self))) c.new-reader.ensures c.in_ok-opening.ensures in
    rw (p.1, p.2) (not_behind g.V.Plain.is_value g.V.Coded.coding g.M.Plain.is_value g.M.Coded.coding c.args.run c.args.partition c.args.bytes.now
    short c.ranges.run.fits c.ranges.partition.fits c.in_ok-opening.opening c.opening.new.self opened c.in_err-contents.field-0.0 c.rest_of.new.reader
    c.in_err-contents.ensures)

pub returns-then-is_done : goal.returns-then-is_done
returns-then-is_done g c =
    let short : length c.args.bytes.now < 2 ^ 64 = search in
    let opened : IsRead IsOpening opening_coding c.args.bytes.now (Some (c.in_ok-opening.opening, c.opening.new.self)) =
    subst (λ l. IsRead IsOpening opening_coding l (Some (c.in_ok-opening.opening, c.opening.new.self))) c.new-reader.ensures c.in_ok-opening.ensures in
    let none : c.rest_of.new.reader ≡ [] = nothing_left c.rest_of.new.reader c.is_done.result c.is_done.ensures c.if-is_done.true in
    is_said g.V.Plain.is_value g.V.Coded.coding g.M.Plain.is_value g.M.Coded.coding c.args.run c.args.partition c.args.bytes.now
    short c.ranges.run.fits c.ranges.partition.fits c.in_ok-opening.opening c.opening.new.self opened c.in_ok-contents.contents
    c.if-opening-bytes.false c.if-opening-run.false c.if-opening-partition.false
    (read_at c.in_ok-contents.ensures (ap (λ l. Some (c.in_ok-contents.contents, l)) none))

pub returns-else-is_done : goal.returns-else-is_done
returns-else-is_done g c =
    let short : length c.args.bytes.now < 2 ^ 64 = search in
    let opened : IsRead IsOpening opening_coding c.args.bytes.now (Some (c.in_ok-opening.opening, c.opening.new.self)) =
    subst (λ l. IsRead IsOpening opening_coding l (Some (c.in_ok-opening.opening, c.opening.new.self))) c.new-reader.ensures c.in_ok-opening.ensures in
    not_done g.V.Plain.is_value g.V.Coded.coding g.M.Plain.is_value g.M.Coded.coding c.args.run c.args.partition c.args.bytes.now
    short c.ranges.run.fits c.ranges.partition.fits c.in_ok-opening.opening c.opening.new.self opened c.in_ok-contents.contents c.rest_of.new.reader c.in_ok-contents.ensures
    (something_left c.rest_of.new.reader c.is_done.result c.is_done.ensures c.if-is_done.false)
