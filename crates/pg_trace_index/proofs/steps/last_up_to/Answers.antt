use Rattle.std.proofs.Common.{◌≡◌, suc, ◌-◌, leb, of_calls, rules, arith}
use Rattle.std.proofs.lemmas.Fn.{always_returns_same}
use Rattle.std.proofs.lemmas.List.Sorted.{IsPartitionedBy-leb}
use Rattle.pg_trace_index.specs.declared.ran.Occurrence.{Occurrence}
use Rattle.pg_trace_index.proofs.Runs.{last_up_to, none_up_to, rise_by}
use Rattle.pg_trace_index.proofs.steps.last_up_to.Goals as goal

pub returns-then-after-eq0 : goal.returns-then-after-eq0
returns-then-after-eq0 c =
    let s = c.args.superstep in
    let runs = c.args.runs.now in
    let parts = c.partition_point-after.ensures.partitioned (λ y. leb y.superstep s) (always_returns_same _ _ _ (λ a r f k. search (rules, of_calls)))
    (IsPartitionedBy-leb (λ (y : Occurrence). y.superstep) runs s (rise_by (λ (y : Occurrence). y.superstep) runs c.requires)) in
    none_up_to (λ (y : Occurrence). y.superstep) s c.partition_point-after.result runs c.partition_point-after.ensures.bound parts c.if-after-eq0.true

pub returns : goal.returns
returns c =
    let s = c.args.superstep in
    let runs = c.args.runs.now in
    let after = c.partition_point-after.result in
    let parts = c.partition_point-after.ensures.partitioned (λ y. leb y.superstep s) (always_returns_same _ _ _ (λ a r f k. search (rules, of_calls)))
    (IsPartitionedBy-leb (λ (y : Occurrence). y.superstep) runs s (rise_by (λ (y : Occurrence). y.superstep) runs c.requires)) in
    let last : suc (after - 1) ≡ after = omega (arith, c.if-after-eq0.false) in
    last_up_to (λ (y : Occurrence). y.superstep) s after runs c.partition_point-after.ensures.bound parts (after - 1) _ last
