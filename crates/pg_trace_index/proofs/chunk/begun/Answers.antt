use Rattle.std.proofs.Common.{of_calls, leb, rules}
use Rattle.std.proofs.lemmas.Fn.{always_returns_same}
use Rattle.std.proofs.lemmas.List.Sorted.{IsPartitionedBy-leb}
use Rattle.pg_trace_index.proofs.InChunks.{firsts_rise}
use Rattle.pg_trace_index.proofs.chunk.begun.Goals as goal

pub returns-clause-parts : goal.returns-clause-parts
returns-clause-parts g c =
    c.partition_point.ensures.partitioned (λ y. leb y.first c.args.id) (always_returns_same _ _ _ (λ a r f k. search (rules, of_calls)))
    (IsPartitionedBy-leb (λ y. y.first) c.args.chunks.now c.args.id (firsts_rise c.args.chunks.now c.requires.start c.requires.rise))
