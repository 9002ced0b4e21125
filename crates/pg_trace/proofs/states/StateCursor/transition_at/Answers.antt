use Rattle.std.proofs.Common.{◌+◌, ap, option_map, ◌∙◌}
use Rattle.std.specs.Option.{option_or}
use Rattle.pg_trace_index.proofs.Last.{index_rises}
use Rattle.pg_trace.specs.Trace.{left_by, state_at}
use Rattle.pg_trace.proofs.Looked.{left_found, state_found}
use Rattle.pg_trace.proofs.states.StateCursor.transition_at.Goals as goal

pub last_around-before-requires : goal.last_around-before-requires
last_around-before-requires g c = index_rises c.self.inside.supersteps.now c.self.inside.runs c.self.invariant c.args.id

pub returns-in-Some-Some-clause-before : goal.returns-in-Some-Some-clause-before
returns-in-Some-Some-clause-before g c =
    left_found c.self.inside.initial c.self.inside.supersteps.now c.self.inside.runs c.self.invariant c.self.view_is c.args.id c.number.result
    (option_map (λ r. r.superstep) c.last_around-before.result.before) c.last_around-before.ensures.before c.record_of-before.ensures
    c.of_record.ensures c.in-Some-Some.is-0
    ∙ ap (λ s. state_at c.args.id s c.args.self.now) c.number.ensures

pub returns-in-Some-Some-clause-after : goal.returns-in-Some-Some-clause-after
returns-in-Some-Some-clause-after g c =
    left_found c.self.inside.initial c.self.inside.supersteps.now c.self.inside.runs c.self.invariant c.self.view_is c.args.id (c.number.result + 1)
    (option_map (λ r. r.superstep) c.last_around-before.result.after) c.last_around-before.ensures.after c.record_of-after.ensures
    c.of_record-in-Some-Some.ensures c.in-Some-Some.is-1
    ∙ ap (λ s. state_at c.args.id (s + 1) c.args.self.now) c.number.ensures

pub returns-clause-before : goal.returns-clause-before
returns-clause-before g c =
    c.state_left.ensures ∙ ap (λ o. option_or (option_map (left_by c.args.id) c.record_of-before.result) o) c.get-begun.ensures.value
    ∙ state_found c.self.inside.initial c.self.inside.supersteps.now c.self.inside.runs c.self.invariant c.self.view_is c.args.id c.number.result
    (option_map (λ r. r.superstep) c.last_around-before.result.before) c.last_around-before.ensures.before c.record_of-before.ensures
    ∙ ap (λ s. state_at c.args.id s c.args.self.now) c.number.ensures

pub returns-clause-after : goal.returns-clause-after
returns-clause-after g c =
    c.state_left-2.ensures ∙ ap (λ o. option_or (option_map (left_by c.args.id) c.record_of-after.result) o) c.get-begun.ensures.value
    ∙ state_found c.self.inside.initial c.self.inside.supersteps.now c.self.inside.runs c.self.invariant c.self.view_is c.args.id (c.number.result + 1)
    (option_map (λ r. r.superstep) c.last_around-before.result.after) c.last_around-before.ensures.after c.record_of-after.ensures
    ∙ ap (λ s. state_at c.args.id (s + 1) c.args.self.now) c.number.ensures
