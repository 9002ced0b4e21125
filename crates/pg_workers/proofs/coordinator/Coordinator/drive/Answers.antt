use Rattle.std.proofs.Common.{false, ap, sym, ◌∙◌, subst, Err}
use Rattle.pg_workers.specs.Meaning.{meaning}
use Rattle.std.specs.Prelude.{IfErr}
use Rattle.std.proofs.lemmas.Result.{err_from_is_err_and}
use Rattle.pg_workers.specs.Running.{MayEnd}
use Rattle.pg_workers.proofs.Going.{counted_then}
use Rattle.pg_workers.proofs.coordinator.Coordinator.drive.Goals as goal

pub loop-preserved : goal.loop-preserved
loop-preserved g c = record {
  keeps = λ first runs. c.in_ok-turn.ensures.keeps first (c.loop.invariant.keeps first runs);
  few = c.in_ok-turn.ensures.few;
  counted = counted_then _ _ _ false c.loop.invariant.counted c.in_ok-turn.ensures.counted;
}

pub returns-in_err-turn-clause-refused : goal.returns-in_err-turn-clause-refused
returns-in_err-turn-clause-refused g c =
    let own = meaning g.P.Computation.program g.C.MessageCombiner.combining g.M.MasterCompute.master g.P.Value.PartialEq.eq g.P.Message.PartialEq.eq
    g.P.Value.Plain.is_value g.P.Value.Coded.coding g.P.Message.Plain.is_value g.P.Message.Coded.coding in
    let p = err_from_is_err_and c.from_residual.result c.from_residual.ensures.1 in
    subst (λ (r : _). IfErr r (MayEnd own (g.F.Fate.fated c.args.fate.now) (g.S.Shelf.state c.args.shelf.now) c.args.self.now)) (sym (p.1 ∙ ap Err p.2))
    (λ first runs. c.in_err-turn.ensures.refused first (c.loop.invariant.keeps first runs))
