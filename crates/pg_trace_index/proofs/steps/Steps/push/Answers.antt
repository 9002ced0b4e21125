use Rattle.std.proofs.Common.{◌∷◌, [], sym, ap, ◌∙◌, rules}
use Rattle.std.proofs.lemmas.List.{map-append}
use Rattle.std.specs.Arc.{arc_value}
use Rattle.pg_trace_index.specs.History.{steps_of}
use Rattle.pg_trace_index.specs.Occurrences.{last_of}
use Rattle.pg_trace_index.proofs.InPlace.{last_of-push}
use Rattle.pg_trace_index.proofs.PartsOf.{is_pushed}
use Rattle.pg_trace_index.proofs.steps.Steps.push.Goals as goal

pub invariant_of-self-then-branch : goal.invariant_of-self-then-branch
invariant_of-self-then-branch c =
    let now = c.in_ok-add_in_place.ensures in
    is_pushed (arc_value c.self.inside.shared).items (arc_value c.add_in_place.new.shared).items _ c.self.inside.latest c.self.inside.first
    c.self.inside.end c.self.invariant (now.added (search rules)) (now.all (search rules))

pub of-requires : goal.of-requires
of-requires c =
    let runs = c.runs.result.now in
    sym (ap (λ l. last_of (steps_of l)) c.in_ok-longer.ensures
    ∙ ap last_of (map-append (λ r. r.superstep) runs (record { superstep = c.args.superstep; place = c.args.place } ∷ []))
    ∙ last_of-push (steps_of runs) c.args.superstep)
