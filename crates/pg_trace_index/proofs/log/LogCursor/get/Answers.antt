use Rattle.std.proofs.Common.{Some, option_map, ap, sym, ◌∙◌}
use Rattle.pg_map.specs.Entries.{value_at}
use Rattle.pg_trace_index.specs.Chunks.{all_of}
use Rattle.pg_trace_index.specs.LogEntry.{chain}
use Rattle.pg_trace_index.proofs.Chains.{chain_at}
use Rattle.pg_trace_index.proofs.log.LogCursor.get.Goals as goal
use Rattle.pg_trace_index.proofs.log.LogCursor.get.Goals.{in-Some, in-None}

pub returns-clause-value : goal.returns-clause-value
returns-clause-value c =
    let log = c.self.inside.earlier.now in
    let last = all_of c.self.inside.last.now in
    elim c.match-get.branch [
      | in-Some w ↦ w.result-is ∙ ap Some w.chained.ensures ∙ ap (option_map (chain log)) (w.in-Some.ensures)
          ∙ sym (chain_at log last c.args.id) ∙ ap (value_at c.args.id) c.self.view_is
      | in-None w ↦ w.result-is ∙ ap (option_map (chain log)) (w.in-None.ensures)
          ∙ sym (chain_at log last c.args.id) ∙ ap (value_at c.args.id) c.self.view_is
    ]
