use Rattle.std.proofs.Common.{ap, sym, ◌∙◌, is_some}
use Rattle.pg_map.proofs.InPlace.{copied_some, there_over, there_turn}
use Rattle.pg_map.proofs.in_place.are_there.Goals as goal

pub loop-id-preserved : goal.loop-id-preserved
loop-id-preserved g c =
    there_turn c.args.changes.now c.args.entries.now c.loop-id.id-index c.loop-id-item.result c.loop-id-test.true c.loop-id-item.is c.if-is_none.ensures
    (sym (ap is_some c.value_near.ensures) ∙ copied_some c.value_near.result c.if-is_none-2.ensures) c.loop-id.invariant

pub returns : goal.returns
returns g c = λ _. there_over c.args.changes.now c.args.entries.now c.loop-id.id-index c.loop-id-test.false c.loop-id.invariant
