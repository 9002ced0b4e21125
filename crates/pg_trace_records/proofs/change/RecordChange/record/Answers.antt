use Rattle.std.proofs.Common.{◌<◌, ap, sym, length, subst, ◌∙◌}
use Rattle.pg_trace_records.specs.RecordChanges.{given_at}
use Rattle.pg_trace_records.proofs.Changed.{given_there}
use Rattle.pg_trace_records.proofs.change.RecordChange.record.Goals as goal

pub returns : goal.returns
returns g c =
    let place = c.self.inside.place in
    sym (given_there place c.deref.result.now (subst (λ l. place < length l) (sym c.deref.ensures) c.self.invariant) (c.at-given.ensures c.at-given.result))
    ∙ ap (given_at place) c.deref.ensures ∙ c.self.view_is
