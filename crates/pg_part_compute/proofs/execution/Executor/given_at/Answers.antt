use Rattle.std.proofs.Common.{Some, ap, ap₂, sym, option_map, ◌∙◌}
use Rattle.pg_part_compute.specs.VertexCountsDeltas.{given_at}
use Rattle.pg_part_compute.proofs.Executing.{given_in}
use Rattle.pg_trace.specs.Handed.{changes_in, record_in}
use Rattle.pg_part_compute.proofs.execution.Executor.given_at.Goals as goal

pub returns-in-Some : goal.returns-in-Some
returns-in-Some g c =
    let executor = c.args.self.now in
    let found = c.in_ok-produced.ensures.lookup in
    ap Some (c.record_of.ensures ∙ ap₂ (λ a b. record_in a b c.in-Some.produced) c.sent.ensures c.contributed.ensures)
    ∙ ap (option_map (record_in executor.cx.sent executor.cx.contributed)) (sym c.in-Some.is)
    ∙ given_in executor.cx.sent executor.cx.contributed c.deref.result.now c.args.place c.in_ok-produced.field-0.now _ found.0 found.1
    ∙ ap (λ l. given_at (changes_in executor.cx.sent executor.cx.contributed l) c.args.place) c.deref.ensures.value

pub returns-in-None : goal.returns-in-None
returns-in-None g c =
    let executor = c.args.self.now in
    let found = c.in_ok-produced.ensures.lookup in
    ap (option_map (record_in executor.cx.sent executor.cx.contributed)) (sym c.in-None.is)
    ∙ given_in executor.cx.sent executor.cx.contributed c.deref.result.now c.args.place c.in_ok-produced.field-0.now _ found.0 found.1
    ∙ ap (λ l. given_at (changes_in executor.cx.sent executor.cx.contributed l) c.args.place) c.deref.ensures.value
