-- The ids that are a vertex of just one of two graphs.
use Rattle.std.specs.Prelude.{ℕ, Bool, cond, not, List}
use Rattle.std.specs.List.{filter}
use Rattle.pg_graph.specs.Rows.{Rows}
use Rattle.pg_stats.specs.MessageCounts.{is_vertex}

abbrev pub moves : Rows → Rows → ℕ → Bool
moves before after id = not (cond (is_vertex before id) (is_vertex after id) (not (is_vertex after id)))

abbrev pub member_changes_among : Rows → Rows → List ℕ → List ℕ
member_changes_among before after ids = filter (moves before after) ids
