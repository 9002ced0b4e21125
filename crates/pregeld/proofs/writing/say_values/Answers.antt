use Rattle.pregeld.proofs.Written.{all_written, nothing_written, one_more_written}
use Rattle.pregeld.proofs.writing.say_values.Goals as goal

pub loop-id-init : goal.loop-id-init
loop-id-init g c = nothing_written (g.W.Write.contents c.args.writer.now)

pub loop-id-preserved : goal.loop-id-preserved
loop-id-preserved g c =
    one_more_written (g.W.Write.contents c.args.writer.now) (g.W.Write.contents c.loop-id.writer) (g.W.Write.contents c.say_value.new.writer)
    c.args.values.now c.loop-id.id-index c.loop-id-item.result
    c.loop-id-test.true c.loop-id-item.is c.loop-id.invariant c.in_ok-say_value.ensures.ok

pub returns-clause-ok : goal.returns-clause-ok
returns-clause-ok g c = all_written (g.W.Write.contents c.args.writer.now) (g.W.Write.contents c.loop-id.writer) c.args.values.now c.loop-id.id-index
    c.loop-id-test.false c.loop-id.invariant
