use Rattle.std.proofs.Common.{◌++◌, ap, ◌∙◌}
use Rattle.std.proofs.lemmas.List.{take_all}
use Rattle.pg_map.proofs.Filling.{gathered_more}
use Rattle.pg_trace_records.specs.Records.{contributions_of}
use Rattle.pg_trace_records.proofs.records.contributions_among.Goals as goal

pub loop-record-preserved : goal.loop-record-preserved
loop-record-preserved g c =
    gathered_more (λ r. r.1.contributed) c.args.records.now c.loop-record.record-index c.loop-record-test.true c.loop-record-item.is
    c.loop-record.invariant (c.in_ok-add_all.ensures ∙ ap (λ l. c.loop-record.all.items ++ l) c.contributed.ensures)

pub returns : goal.returns
returns g c = c.loop-record.invariant ∙ ap contributions_of (take_all c.loop-record.record-index c.args.records.now c.loop-record-test.false)
