use Rattle.std.proofs.Common.{◌++◌, [], length, reverse, sym, ap, ◌∙◌}
use Rattle.std.proofs.lemmas.List.{append-nil}
use Rattle.pg_trace_index.specs.History.{steps_of}
use Rattle.pg_trace_index.specs.LogEntry.{back}
use Rattle.pg_trace_index.proofs.Chains.{back_none, map-reverse}
use Rattle.pg_trace_index.proofs.listing.add_earlier.Goals as goal

pub returns-then-before-eq0 : goal.returns-then-before-eq0
returns-then-before-eq0 c =
    let log = c.args.earlier.now in record {
      more = [];
      is = sym (append-nil c.args.runs.now.items);
      steps_are = sym (ap reverse (ap (back log (length log)) c.if-before-eq0.true ∙ back_none log (length log)));
    }

pub returns : goal.returns
returns c =
    let log = c.args.earlier.now in
    let spare = c.add_back.new.runs.items in record {
      more = reverse spare;
      is = c.in_ok-append.ensures.items ∙ ap (λ l. c.args.runs.now.items ++ l) c.reverse.ensures.items;
      steps_are = map-reverse (λ r. r.superstep) spare
          ∙ ap reverse (c.in_ok-add_back.ensures ∙ ap (λ l. steps_of l ++ back log (length log) c.args.before) c.clear.ensures.items);
    }
