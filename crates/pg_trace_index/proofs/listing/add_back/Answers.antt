use Rattle.std.proofs.Common.{◌≡◌, ◌++◌, ◌∷◌, [], ◌-◌, get_or, sym, ap, ◌∙◌, arith, append_assoc}
use Rattle.std.proofs.lemmas.List.{append-nil, map-append}
use Rattle.pg_trace_index.specs.History.{steps_of}
use Rattle.pg_trace_index.specs.LogEntry.{back, no_run}
use Rattle.pg_trace_index.proofs.Chains.{back_none, back_past, step_back}
use Rattle.pg_trace_index.proofs.listing.add_back.Goals as goal

pub loop-at-preserved : goal.loop-at-preserved
loop-at-preserved c =
    let log = c.args.earlier.now in
    let within = c.loop-at.invariant.within in
    let before = c.loop-at.runs.items in
    let at = c.loop-at.at in
    let e = get_or log (at - 1) no_run in
    let rest = back log (at - 1) e.before in
    let pushed : c.push.new.self.items ≡ before ++ e.run ∷ [] = c.in_ok-push.ensures.items in record {
      runs = ap (λ l. l ++ rest) (ap steps_of pushed ∙ map-append (λ r. r.superstep) before (e.run ∷ []))
          ∙ append_assoc (steps_of before) (e.run.superstep ∷ []) rest
          ∙ ap (λ l. steps_of before ++ l) (sym (step_back log c.loop-at.remaining at c.loop-at-test.true c.if-at-remaining.true within no_run))
          ∙ c.loop-at.invariant.runs;
      within = omega (arith, within, c.if-at-remaining.true);
    }

pub returns-else-at-remaining : goal.returns-else-at-remaining
returns-else-at-remaining c =
    let all = steps_of c.loop-at.runs.items in
    sym (append-nil all) ∙ ap (λ l. all ++ l) (sym (back_past c.args.earlier.now c.loop-at.remaining c.loop-at.at c.if-at-remaining.false))
    ∙ c.loop-at.invariant.runs

pub returns-after-loop-at : goal.returns-after-loop-at
returns-after-loop-at c =
    let all = steps_of c.loop-at.runs.items in
    let log = c.args.earlier.now in
    let n = c.loop-at.remaining in
    let none : c.loop-at.at ≡ 0 = omega (arith, c.loop-at-test.false) in
    sym (append-nil all) ∙ ap (λ l. all ++ l) (sym (ap (back log n) none ∙ back_none log n)) ∙ c.loop-at.invariant.runs
