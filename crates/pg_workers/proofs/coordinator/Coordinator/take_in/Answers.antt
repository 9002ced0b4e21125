use Rattle.std.proofs.Common.{sym, ◌∙◌, subst₂}
use Rattle.pg_workers.specs.Meaning.{meaning}
use Rattle.pg_workers.proofs.Stepping.{TakesInOn, next_still, takes_in_more, takes_in_none}
use Rattle.pg_workers.proofs.coordinator.Coordinator.take_in.Goals.{in-Some+in_ok-take_in_one, in_default}
use Rattle.pg_workers.proofs.coordinator.Coordinator.take_in.Goals as goal

pub take_in_one-requires-clause-allowed : goal.take_in_one-requires-clause-allowed
take_in_one-requires-clause-allowed g c κs within =
    let own = meaning g.P.Computation.program g.C.MessageCombiner.combining g.M.MasterCompute.master g.P.Value.PartialEq.eq g.P.Message.PartialEq.eq
    g.P.Value.Plain.is_value g.P.Value.Coded.coding g.P.Message.Plain.is_value g.P.Message.Coded.coding in
    (next_still own c.args.steps.items c.args.self.now c.loop-number.self c.loop-number.steps.items c.new-partition.result c.in-Some.done c.requires
    c.loop-number.invariant (sym c.taken.ensures.value ∙ c.in-Some.is)).0

pub take_in_one-requires-clause-next : goal.take_in_one-requires-clause-next
take_in_one-requires-clause-next g c κs within =
    let own = meaning g.P.Computation.program g.C.MessageCombiner.combining g.M.MasterCompute.master g.P.Value.PartialEq.eq g.P.Message.PartialEq.eq
    g.P.Value.Plain.is_value g.P.Value.Coded.coding g.P.Message.Plain.is_value g.P.Message.Coded.coding in
    (next_still own c.args.steps.items c.args.self.now c.loop-number.self c.loop-number.steps.items c.new-partition.result c.in-Some.done c.requires
    c.loop-number.invariant (sym c.taken.ensures.value ∙ c.in-Some.is)).1

pub loop-number-preserved : goal.loop-number-preserved
loop-number-preserved g c =
    let own = meaning g.P.Computation.program g.C.MessageCombiner.combining g.M.MasterCompute.master g.P.Value.PartialEq.eq g.P.Message.PartialEq.eq
    g.P.Value.Plain.is_value g.P.Value.Coded.coding g.P.Message.Plain.is_value g.P.Message.Coded.coding in
    let steps = c.args.steps.items in
    let old = c.args.self.now in
    let now = c.loop-number.self in
    let rest = c.loop-number.steps.items in
    let p = c.new-partition.result in
    let was = c.loop-number.invariant in
    elim c.match-taken.branch [
      | in-Some+in_ok-take_in_one w ↦
          subst₂ (TakesInOn own steps old) (sym w.self-is) (sym c.taken.ensures.rest)
          (takes_in_more own steps old now w.take_in_one.new.self rest p w.in-Some.done was (sym c.taken.ensures.value ∙ w.in-Some.is)
          w.in_ok-take_in_one.ensures.happens w.in_ok-take_in_one.ensures.losses w.in_ok-take_in_one.ensures.keeps)
      | in_default w ↦ subst₂ (TakesInOn own steps old) (sym w.self-is) (sym c.taken.ensures.rest) (takes_in_none own steps old now rest p was)
    ]

pub returns-clause-keeps : goal.returns-clause-keeps
returns-clause-keeps g c fated first shelf runs right = (c.loop-number.invariant.goes fated first shelf runs right).0
