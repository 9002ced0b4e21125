use Rattle.std.proofs.Common.{Some, ap, option_map, ◌∙◌}
use Rattle.pg_trace_index.proofs.Last.{index_rises}
use Rattle.pg_trace.proofs.Looked.{begun_found, left_found}
use Rattle.pg_trace.proofs.states.StateCursor.state_before.Goals as goal

pub last_before-run-requires : goal.last_before-run-requires
last_before-run-requires g c = index_rises c.self.inside.supersteps.now c.self.inside.runs c.self.invariant c.args.id

pub returns-in-Some-clause-value : goal.returns-in-Some-clause-value
returns-in-Some-clause-value g c =
    left_found c.self.inside.initial c.self.inside.supersteps.now c.self.inside.runs c.self.invariant c.self.view_is c.args.id c.args.superstep
    (option_map (λ r. r.superstep) c.last_before-run.result) c.last_before-run.ensures.value c.record_of.ensures c.of_record.ensures c.in-Some.is

pub returns-in_ok-state-in-None-clause-value : goal.returns-in_ok-state-in-None-clause-value
returns-in_ok-state-in-None-clause-value g c =
    begun_found c.self.inside.initial c.self.inside.supersteps.now c.self.inside.runs c.self.invariant c.self.view_is c.args.id c.args.superstep
    (option_map (λ r. r.superstep) c.last_before-run.result) c.last_before-run.ensures.value c.record_of.ensures
    (ap Some c.of_state.ensures ∙ c.in_ok-state-in-None.ensures.value) c.in-None.is

pub returns-in_err-state-in-None-clause-value : goal.returns-in_err-state-in-None-clause-value
returns-in_err-state-in-None-clause-value g c =
    begun_found c.self.inside.initial c.self.inside.supersteps.now c.self.inside.runs c.self.invariant c.self.view_is c.args.id c.args.superstep
    (option_map (λ r. r.superstep) c.last_before-run.result) c.last_before-run.ensures.value c.record_of.ensures
    (c.from_residual.ensures ∙ c.in_err-state-in-None.ensures.value) c.in-None.is
