use Rattle.pg_model.specs.Superstep.{with_made}
use Rattle.pg_scratch.proofs.Merging.{MergedTo}
use Rattle.pg_scratch.proofs.vertex_table.merged.Given as goal

abbrev pub invariant-loop-with_inbox : goal.invariant-loop-with_inbox
invariant-loop-with_inbox g l =
    let program = g.P.Computation.program l.program in
    MergedTo program (with_made program l.fn.with_inboxes.items l.fn.waiting.items) l.with_inbox-iterator.rest.items l.waiting.items l.merged.items
