use Rattle.std.proofs.Common.{◌<◌, ap, sym, ◌∙◌, subst, subst₂, arith}
use Rattle.pg_workers.specs.Meaning.{meaning}
use Rattle.pg_core.specs.Progress.{Progress}
use Rattle.pg_workers.specs.Rounds.{TakesParts}
use Rattle.pg_workers.proofs.Taking.{takes_more}
use Rattle.pg_workers.proofs.assigning.parts_of.Goals.{then-is_due+in_ok-push, else-is_due}
use Rattle.pg_workers.proofs.assigning.parts_of.Goals as goal

pub loop-number-preserved : goal.loop-number-preserved
loop-number-preserved g c =
    let own = meaning g.P.Computation.program g.C.MessageCombiner.combining g.M.MasterCompute.master g.P.Value.PartialEq.eq g.P.Message.PartialEq.eq
    g.P.Value.Plain.is_value g.P.Value.Coded.coding g.P.Message.Plain.is_value g.P.Message.Coded.coding in
    let first = c.args.core.now in
    let core = c.loop-number.core in
    let p = c.new-partition.result in
    let was = c.loop-number.invariant in
    elim c.if-is_due.branch [
      | then-is_due+in_ok-push w ↦
          let within : p < core.limits.partitions = omega (
            arith,
            c.loop-number-test.true,
            c.partitions-number-end.ensures.value,
            ap (λ (l : _). l.partitions) c.limits.ensures,
            c.new-partition.ensures,
            ap (λ (core : Progress _ _ _ _ _). core.limits.partitions) was.taken.core_is,
          ) in
          let due = w.if-is_due.true in
          let more = takes_more own first core w.take.new.self p c.args.superstep c.args.worker w.take.result c.loop-number.parts.items was within
          (c.is_due.ensures.host due) (c.is_due.ensures.place due) (c.is_due.ensures.ready due)
          w.take.ensures.core w.take.ensures.reached w.take.ensures.small w.take.ensures.at w.take.ensures.right in
          subst (λ core. TakesParts own first core c.args.superstep c.args.worker c.if-is_due.parts.items) (sym w.core-is)
          (subst (TakesParts own first w.take.new.self c.args.superstep c.args.worker) (sym ((λ i. (w.parts-is i).items) ∙ w.in_ok-push.ensures.items)) more)
      | else-is_due w ↦
          subst₂ (λ core (l : _). TakesParts own first core c.args.superstep c.args.worker l.items) (sym w.core-is) (sym w.parts-is) was
    ]
