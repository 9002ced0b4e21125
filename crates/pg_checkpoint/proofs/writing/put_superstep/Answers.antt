use Rattle.pg_checkpoint.specs.Bytes.{record_coding}
use Rattle.pg_checkpoint.specs.Records.{IsCodable}
use Rattle.pg_checkpoint.proofs.Appending.{all_all, all_more, counted_all, counted_more, mapped_more}
use Rattle.pg_program.specs.Coding.{natural_coding}
use Rattle.std.proofs.Common.{length}
use Rattle.pg_checkpoint.proofs.writing.put_superstep.Goals as goal

pub loop-record-preserved : goal.loop-record-preserved
loop-record-preserved g c = (
  counted_more c.args.records.now c.loop-record.record-index c.record-item.result c.loop-record-test.true c.record-item.is
      (record_coding g.V.Coded.coding g.M.Coded.coding) c.args.bytes.now.items (natural_coding (length c.args.records.now)) _ _
      c.loop-record.invariant.0 c.in_ok-put_record.ensures.bytes,
  all_more c.args.records.now c.loop-record.record-index c.record-item.result c.loop-record-test.true c.record-item.is
      (IsCodable g.V.Plain.is_value g.M.Plain.is_value) c.loop-record.invariant.1 c.in_ok-put_record.ensures.codable,
  mapped_more c.args.records.now c.loop-record.record-index c.record-item.result c.loop-record-test.true c.record-item.is
      (λ r. r.0) c.args.ids.now.items _ _ c.loop-record.invariant.2 c.in_ok-push.ensures.items,
)

pub returns-clause-bytes : goal.returns-clause-bytes
returns-clause-bytes g c = counted_all c.args.records.now c.loop-record.record-index (record_coding g.V.Coded.coding g.M.Coded.coding)
    c.args.bytes.now.items (natural_coding (length c.args.records.now)) _ c.loop-record-test.false c.loop-record.invariant.0

pub returns-clause-codable : goal.returns-clause-codable
returns-clause-codable g c = (
  search,
  all_all c.args.records.now c.loop-record.record-index (IsCodable g.V.Plain.is_value g.M.Plain.is_value) c.loop-record-test.false
      c.loop-record.invariant.1,
)
