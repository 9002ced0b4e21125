use Rattle.pg_checkpoint.specs.Reading.{AreParts, parts_coding}
use Rattle.std.proofs.Common.{◌-◌, sym, subst}
use Rattle.std.proofs.lemmas.Result.{err_from_is_err_and}
use Rattle.pg_program.proofs.InTurn.{IsBehind, goes_on, is_done}
use Rattle.pg_checkpoint.proofs.Turns.{no_item}
use Rattle.pg_checkpoint.proofs.reading.Reader.records.Goals as goal

pub returns-in_err-record : goal.returns-in_err-record
returns-in_err-record g c =
    let p = err_from_is_err_and c.from_residual.result c.from_residual.ensures.1 in
    rw (p.1, p.2) (no_item (AreParts g.V.Plain.is_value g.M.Plain.is_value) (parts_coding g.V.Coded.coding g.M.Coded.coding) c.args.count c.args.self.now c.loop-remaining.records c.loop-remaining.remaining c.loop-remaining.self
    c.in_err-record.field-0.0 c.record.new.self c.loop-remaining-test.true c.in_err-record.ensures c.loop-remaining.invariant)

pub loop-remaining-preserved : goal.loop-remaining-preserved
loop-remaining-preserved g c =
    subst (λ l. IsBehind (AreParts g.V.Plain.is_value g.M.Plain.is_value) (parts_coding g.V.Coded.coding g.M.Coded.coding) c.args.count c.args.self.now l (c.loop-remaining.remaining - 1) c.record.new.self) (sym c.in_ok-push.ensures.ok)
    (goes_on (AreParts g.V.Plain.is_value g.M.Plain.is_value) (parts_coding g.V.Coded.coding g.M.Coded.coding) c.args.count c.args.self.now c.loop-remaining.records c.loop-remaining.remaining c.loop-remaining.self c.in_ok-record.record c.record.new.self
    c.loop-remaining-test.true c.in_ok-record.ensures c.loop-remaining.invariant)

pub returns : goal.returns
returns g c =
    is_done (AreParts g.V.Plain.is_value g.M.Plain.is_value) (parts_coding g.V.Coded.coding g.M.Coded.coding) c.args.count c.args.self.now c.loop-remaining.records c.loop-remaining.remaining c.loop-remaining.self c.loop-remaining-test.false
    c.loop-remaining.invariant
