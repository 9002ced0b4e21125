use Rattle.std.proofs.lemmas.Result.{IfOk-from_err}
use Rattle.pg_map.proofs.Moved.{moved_all, moved_one}
use Rattle.pg_trace.proofs.beginnings.keys_of.Goals as goal

pub loop-id-preserved : goal.loop-id-preserved
loop-id-preserved g c = moved_one c.loop-id.ids.items c.next.new.self c.in-Some.ensures.steps c.loop-id.invariant c.in_ok-push.ensures.items

pub returns : goal.returns
returns g c = record { ids = moved_all c.loop-id.ids.items c.in-None.ensures.steps.0 c.loop-id.invariant; rising = c.len.ensures.rising }

pub returns-in_err-ids : goal.returns-in_err-ids
returns-in_err-ids g c = record { ids = IfOk-from_err c.from_residual.result _ c.from_residual.ensures.0; rising = c.len.ensures.rising }

pub returns-in_err-push : goal.returns-in_err-push
returns-in_err-push g c = record {
  ids = IfOk-from_err c.from_residual-in_err-push.result _ c.from_residual-in_err-push.ensures.0;
  rising = c.len.ensures.rising;
}
