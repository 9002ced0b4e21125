use Rattle.pg_map.proofs.Moved.{moved_all, moved_one}
use Rattle.pg_trace_records.proofs.records.add_ids.Goals as goal

pub loop-id-preserved : goal.loop-id-preserved
loop-id-preserved g c =
    moved_one c.loop-id.ids.items c.next.new.self c.in-Some.ensures.steps c.loop-id.invariant c.in_ok-push.ensures.items

pub returns : goal.returns
returns g c = moved_all c.loop-id.ids.items c.in-None.ensures.steps.0 c.loop-id.invariant
