-- The numbers of a run over partitions.
use Rattle.std.specs.Prelude.{ℕ, ◌<◌, ◌≤◌}
use Rattle.pg_graph.specs.declared.missing.Missing.{Missing}

-- how many partitions and workers, how many supersteps at most, after how many a partition is saved (0 for never), how
-- many losses are borne, and what becomes of undeliverable messages
pub record Limits : Type 0 where
  pub partitions : ℕ
  pub workers : ℕ
  pub limit : ℕ
  pub every : ℕ
  pub max_losses : ℕ
  pub missing : Missing

-- numbers that a run may have
pub record AreLimits (limits : Limits) : Type 0 where
  pub partitions_least : 0 < limits.partitions
  pub partitions_most : limits.partitions ≤ 64
  pub workers_least : 0 < limits.workers
  pub workers_most : limits.workers ≤ 16
  pub limit_least : 0 < limits.limit
  pub limit_most : limits.limit ≤ 10000
  pub every_most : limits.every ≤ 1000
  pub max_losses_most : limits.max_losses ≤ 16
