use Rattle.std.proofs.Common.{◌≡◌, sym, ap, ◌∙◌, arith}
use Rattle.pg_trace_index.specs.LogEntry.{back, first_below, no_run}
use Rattle.pg_trace_index.proofs.Chains.{back_none, back_past, found_here, passed_here}
use Rattle.pg_trace_index.proofs.chain.last_before.Goals as goal

pub returns-then-entry-limit : goal.returns-then-entry-limit
returns-then-entry-limit c =
    let l = c.loop-at in
    found_here c.args.earlier.now l.remaining l.at c.loop-at-test.true c.if-at-remaining.true l.invariant.within c.args.limit no_run c.if-entry-limit.true
    ∙ c.loop-at.invariant.found

pub loop-at-preserved : goal.loop-at-preserved
loop-at-preserved c =
    let within = c.loop-at.invariant.within in record {
      found = passed_here c.args.earlier.now c.loop-at.remaining c.loop-at.at c.loop-at-test.true c.if-at-remaining.true within c.args.limit no_run c.if-entry-limit.false
          ∙ c.loop-at.invariant.found;
      within = omega (arith, within, c.if-at-remaining.true);
    }

pub returns-else-at-remaining : goal.returns-else-at-remaining
returns-else-at-remaining c =
    sym (ap (first_below c.args.limit) (back_past c.args.earlier.now c.loop-at.remaining c.loop-at.at c.if-at-remaining.false)) ∙ c.loop-at.invariant.found

pub returns-after-loop-at : goal.returns-after-loop-at
returns-after-loop-at c =
    let none : c.loop-at.at ≡ 0 = omega (arith, c.loop-at-test.false) in
    let log = c.args.earlier.now in
    let n = c.loop-at.remaining in
    sym (ap (λ k. first_below c.args.limit (back log n k)) none ∙ ap (first_below c.args.limit) (back_none log n)) ∙ c.loop-at.invariant.found
