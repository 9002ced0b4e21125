use Rattle.std.proofs.Common.{rules, ℕ, length, ap, ◌∙◌, subst₂}
use Rattle.pg_core.specs.Progress.{Progress}
use Rattle.pg_workers.specs.Meaning.{meaning}
use Rattle.pg_workers.specs.Rounds.{Borrows}
use Rattle.pg_workers.specs.Running.{Coordination}
use Rattle.pg_workers.proofs.Returned.{all_returned}
use Rattle.pg_workers.proofs.coordinator.Coordinator.outcomes.Goals as goal

pub returns-then-is_little : goal.returns-then-is_little
returns-then-is_little g c =
    let own = meaning g.P.Computation.program g.C.MessageCombiner.combining g.M.MasterCompute.master
    g.P.Value.PartialEq.eq g.P.Message.PartialEq.eq
    g.P.Value.Plain.is_value g.P.Value.Coded.coding g.P.Message.Plain.is_value g.P.Message.Coded.coding in
    let now = c.args.self.now in
    let here = ap (λ (s : Coordination _ _ _ _ _). s.core) c.self.view_is in
    all_returned own (g.F.Fate.fated c.args.fate.now) c.args.superstep (length now.losses) now.core c.step_input-round.result
    (subst₂ (λ (core : Progress _ _ _ _ _) (k : ℕ). Borrows own core c.args.superstep k c.step_input-round.result) here (search rules)
    c.step_input-round.ensures.borrows) _ _
    (c.program-program.ensures ∙ ap (λ (core : Progress _ _ _ _ _). core.program) here)
    (c.combiner-combiner.ensures ∙ ap (λ (core : Progress _ _ _ _ _). core.combiner) here)
    c.args.assignments.items c.in_turn.result c.in_turn.ensures

pub returns-else-is_little : goal.returns-else-is_little
returns-else-is_little g c =
    let own = meaning g.P.Computation.program g.C.MessageCombiner.combining g.M.MasterCompute.master
    g.P.Value.PartialEq.eq g.P.Message.PartialEq.eq
    g.P.Value.Plain.is_value g.P.Value.Coded.coding g.P.Message.Plain.is_value g.P.Message.Coded.coding in
    let now = c.args.self.now in
    let here = ap (λ (s : Coordination _ _ _ _ _). s.core) c.self.view_is in
    all_returned own (g.F.Fate.fated c.args.fate.now) c.args.superstep (length now.losses) now.core c.step_input-round.result
    (subst₂ (λ (core : Progress _ _ _ _ _) (k : ℕ). Borrows own core c.args.superstep k c.step_input-round.result) here (search rules)
    c.step_input-round.ensures.borrows) _ _
    (c.program-program.ensures ∙ ap (λ (core : Progress _ _ _ _ _). core.program) here)
    (c.combiner-combiner.ensures ∙ ap (λ (core : Progress _ _ _ _ _). core.combiner) here)
    c.args.assignments.items c.in_threads.result c.in_threads.ensures
