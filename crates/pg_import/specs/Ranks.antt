-- What is known of the ends of lines.
use Rattle.std.specs.Prelude.{◌≡◌, ⊤, ℕ, true, List, [], ◌∷◌, map, IsNone}
use Rattle.pg_graph.specs.Rows.{Rows}
use Rattle.pg_import.specs.Batch.{has_vertex}
use Rattle.pg_import.specs.declared.line.Line.{Line}
use Rattle.pg_import.specs.declared.order.EndRank.{EndRank}
use Rattle.pg_import.specs.declared.order.Ranks.{Ranks}

-- the ends of lines
abbrev pub sources_of : List Line → List ℕ
sources_of lines = map (λ line. line.source) lines

abbrev pub targets_of : List Line → List ℕ
targets_of lines = map (λ line. line.target) lines

-- an id that stands nowhere is a vertex that a graph has
abbrev pub IsKnown : Rows → ℕ → EndRank → Type 0
IsKnown rows id rank = IsNone rank.rank → has_vertex id rows ≡ true

-- so it is of each
abbrev pub AreKnown : Rows → List ℕ → List EndRank → Type 0
AreKnown rows [] ranks = ⊤
AreKnown rows (id ∷ ids) [] = ⊤
AreKnown rows (id ∷ ids) (rank ∷ ranks) = IsKnown rows id rank × AreKnown rows ids ranks

-- and of the ends of each line
abbrev pub EndsAreKnown : Rows → List Line → Ranks → Type 0
EndsAreKnown rows lines ranks =
    AreKnown rows (sources_of lines) ranks.sources × AreKnown rows (targets_of lines) ranks.targets
