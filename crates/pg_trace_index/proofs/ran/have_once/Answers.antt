use Rattle.std.proofs.Common.{ltb, leb, of_calls, rules, tests}
use Rattle.std.proofs.lemmas.Fn.{always_returns_same}
use Rattle.std.proofs.lemmas.List.Sorted.{IsPartitionedBy-leb, IsPartitionedBy-ltb}
use Rattle.pg_trace_index.specs.declared.ran.Occurrence.{Occurrence}
use Rattle.pg_trace_index.proofs.Runs.{once, rise_by}
use Rattle.pg_trace_index.proofs.ran.have_once.Goals as goal

pub returns : goal.returns
returns c is_once =
    let s = c.args.superstep in
    let runs = c.args.runs.now in
    let rise = rise_by (λ (y : Occurrence). y.superstep) runs c.requires in
    let below = c.partition_point-below.ensures.partitioned (λ y. ltb y.superstep s) (always_returns_same _ _ _ (λ a r f k. search (rules, of_calls)))
    (IsPartitionedBy-ltb (λ (y : Occurrence). y.superstep) runs s rise) in
    let up_to = c.partition_point-up_to.ensures.partitioned (λ y. leb y.superstep s) (always_returns_same _ _ _ (λ a r f k. search (rules, of_calls)))
    (IsPartitionedBy-leb (λ (y : Occurrence). y.superstep) runs s rise) in
    once (λ (y : Occurrence). y.superstep) s c.partition_point-up_to.result runs c.partition_point-up_to.ensures.bound up_to c.partition_point-below.result below
    (search (rules, tests))
