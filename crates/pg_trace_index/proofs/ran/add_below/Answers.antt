use Rattle.std.proofs.Common.{◌++◌, nat_lt, ap, ◌∙◌}
use Rattle.std.specs.List.{filter}
use Rattle.std.proofs.lemmas.List.{take_all, map-append}
use Rattle.pg_trace_index.specs.History.{steps_of}
use Rattle.pg_trace_index.specs.declared.ran.Occurrence.{Occurrence}
use Rattle.pg_trace_index.proofs.Keeping.{kept_more, left_out}
use Rattle.pg_trace_index.proofs.Runs.{map-filter}
use Rattle.pg_trace_index.proofs.Supersteps.{lower, not_lower}
use Rattle.pg_trace_index.proofs.ran.add_below.Goals as goal
use Rattle.pg_trace_index.proofs.ran.add_below.Goals.{then-run-superstep+in_ok-push, else-run-superstep}

pub loop-run-preserved : goal.loop-run-preserved
loop-run-preserved c =
    let s = c.args.superstep in
    let runs = c.args.runs.now in
    let start = c.args.into.now.items in
    let i = c.loop-run.run-index in
    let within = c.loop-run-test.true in
    elim c.if-run-superstep.branch [
      | then-run-superstep+in_ok-push w ↦ ap (λ v. v.items) w.into-is
          ∙ kept_more (λ r. nat_lt r.superstep s) start runs i _ within (lower _ s w.if-run-superstep.true) c.loop-run.invariant w.in_ok-push.ensures.items
      | else-run-superstep w ↦ ap (λ v. v.items) w.into-is
          ∙ left_out (λ r. nat_lt r.superstep s) start runs i _ within (not_lower _ s w.if-run-superstep.false) c.loop-run.invariant
    ]

pub returns : goal.returns
returns c =
    let s = c.args.superstep in
    let runs = c.args.runs.now in
    let start = c.args.into.now.items in
    let kept = filter (λ (r : Occurrence). nat_lt r.superstep s) runs in
    ap steps_of (c.loop-run.invariant ∙ ap (λ l. start ++ filter (λ r. nat_lt r.superstep s) l) (take_all c.loop-run.run-index runs c.loop-run-test.false))
    ∙ map-append (λ r. r.superstep) start kept ∙ ap (λ l. steps_of start ++ l) (map-filter (λ r. r.superstep) (λ t. nat_lt t s) runs)
