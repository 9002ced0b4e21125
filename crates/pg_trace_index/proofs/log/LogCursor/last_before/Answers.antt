use Rattle.std.proofs.Common.{option_map, ap, sym, ◌∙◌}
use Rattle.pg_map.specs.Entries.{value_at}
use Rattle.pg_trace_index.specs.Chunks.{all_of}
use Rattle.pg_trace_index.specs.LogEntry.{chain}
use Rattle.pg_trace_index.specs.Occurrences.{last_of, steps_below, steps_in}
use Rattle.pg_trace_index.proofs.Chains.{chain_at}
use Rattle.pg_trace_index.proofs.log.LogCursor.last_before.Goals as goal
use Rattle.pg_trace_index.proofs.log.LogCursor.last_before.Goals.{in-Some, in-None}

pub returns-clause-value : goal.returns-clause-value
returns-clause-value c =
    let log = c.self.inside.earlier.now in
    let at = sym (chain_at log (all_of c.self.inside.last.now) c.args.id) ∙ ap (value_at c.args.id) c.self.view_is in
    elim c.match-get.branch [
      | in-Some w ↦ ap (option_map (λ r. r.superstep)) w.result-is ∙ w.last_under.ensures
          ∙ ap (λ o. last_of (steps_below c.args.superstep (steps_in o))) (ap (option_map (chain log)) w.in-Some.ensures ∙ at)
      | in-None w ↦ ap (option_map (λ r. r.superstep)) w.result-is
          ∙ ap (λ o. last_of (steps_below c.args.superstep (steps_in o))) (ap (option_map (chain log)) w.in-None.ensures ∙ at)
    ]
