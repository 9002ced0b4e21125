use Rattle.std.proofs.Common.{◌+◌, ◌*◌}
use Rattle.pg_map.proofs.in_place.+in_place.Given as goal

abbrev pub decreases-change_first_chunk : goal.decreases-change_first_chunk
decreases-change_first_chunk g l = 2 * l.depth

abbrev pub decreases-change_chunks : goal.decreases-change_chunks
decreases-change_chunks g l = 2 * l.depth + 1

abbrev pub decreases-change_first_group : goal.decreases-change_first_group
decreases-change_first_group g l = 2 * l.depth

abbrev pub decreases-change_groups : goal.decreases-change_groups
decreases-change_groups g l = 2 * l.depth + 1
