-- What the parts have come to.
use Rattle.std.specs.Prelude.{List, [], Option, None, Some}
use Rattle.std.specs.List.{slice_get}
use Rattle.std.specs.Option.{option_to_list}
use Rattle.pg_part.specs.Part.{PartState}
use Rattle.pg_stats.specs.declared.stats.PartitionStats.{PartitionStats}

-- what a part that is here has come to as its superstep begins
abbrev pub stats_here : {V M : Type 0} → Option (PartState V M) → List PartitionStats
stats_here None = []
stats_here (Some part) = option_to_list (slice_get part.stats part.part_run.place)
