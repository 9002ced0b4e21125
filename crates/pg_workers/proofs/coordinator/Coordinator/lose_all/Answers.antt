use Rattle.std.proofs.Common.{List, length, ◌∙◌, subst, arith}
use Rattle.pg_workers.specs.Meaning.{meaning}
use Rattle.pg_workers.specs.Recovering.{LosesOn}
use Rattle.pg_workers.proofs.coordinator.Coordinator.lose_all.Goals as goal

pub loop-loss-preserved : goal.loop-loss-preserved
loop-loss-preserved g c =
    let own = meaning g.P.Computation.program g.C.MessageCombiner.combining g.M.MasterCompute.master g.P.Value.PartialEq.eq g.P.Message.PartialEq.eq
    g.P.Value.Plain.is_value g.P.Value.Coded.coding g.P.Message.Plain.is_value g.P.Message.Coded.coding in
    record {
      limits = c.in_ok-lose.ensures.limits ∙ c.loop-loss.invariant.limits;
      keeps = λ fated first shelf on.
          let attempt = length c.args.self.now.losses in
          c.in_ok-lose.ensures.keeps fated first shelf attempt c.next.new.self.rest.items
          (subst (λ (l : List _). LosesOn own fated first shelf attempt c.loop-loss.self l) c.in-Some.ensures.steps.0
          (c.loop-loss.invariant.keeps fated first shelf on));
    }

pub returns-clause-keeps : goal.returns-clause-keeps
returns-clause-keeps g c fated first shelf runs falls =
    (c.loop-loss.invariant.keeps fated first shelf (record { runs = runs; before = omega arith; falls = falls })).runs
