use Rattle.std.proofs.Common.{rules, ◌<◌, ◌+◌, length, sym, ◌∙◌, subst}
use Rattle.pg_workers.specs.Meaning.{meaning}
use Rattle.pg_workers.specs.Rounds.{AreAssigned}
use Rattle.pg_workers.proofs.Taking.{assigned_more, assigned_none}
use Rattle.pg_workers.proofs.assigning.assign.Goals.{then-not-is_empty+in_ok-push, else-not-is_empty}
use Rattle.pg_workers.proofs.assigning.assign.Goals as goal

pub loop-number-preserved : goal.loop-number-preserved
loop-number-preserved g c =
    let own = meaning g.P.Computation.program g.C.MessageCombiner.combining g.M.MasterCompute.master g.P.Value.PartialEq.eq g.P.Message.PartialEq.eq
    g.P.Value.Plain.is_value g.P.Value.Coded.coding g.P.Message.Plain.is_value g.P.Message.Coded.coding in
    let first = c.args.core.now in
    let core = c.loop-number.core in
    let new = c.parts_of.new.core in
    let k = c.loop-number.number in
    let assignments = c.loop-number.assignments.items in
    let takes = c.in_ok-parts.ensures in
    elim c.if-not-is_empty.branch [
      | then-not-is_empty+in_ok-push w ↦
          let some : 0 < length c.in_ok-parts.parts.items = search rules in
          subst (AreAssigned own first c.args.superstep (k + 1) new) (sym ((λ i. (w.assignments-is i).items) ∙ w.in_ok-push.ensures.items))
          (assigned_more own first core new c.args.superstep k assignments (record { worker = c.new-worker.result; parts = c.in_ok-parts.parts })
          c.loop-number.invariant takes c.new-worker.ensures some)
      | else-not-is_empty w ↦
          subst (AreAssigned own first c.args.superstep (k + 1) new) (sym (λ i. (w.assignments-is i).items))
          (assigned_none own first core new c.args.superstep k assignments c.loop-number.invariant takes.taken)
    ]
