-- A row whose edges are the last ones of a list.
use Rattle.std.specs.Prelude.{◌≡◌, ◌++◌, ℕ, ℤ, [], None, Option, Some, Result, Ok, Err, MatchResult, is_some, true}
use Rattle.std.specs.Prelude.{false}
use Rattle.std.specs.List.{insert, remove, slice_set}
use Rattle.pg_graph_rows.specs.EdgeList.{EdgeList, IsRising, weight_at, with_edge, without_edge}
use Rattle.pg_graph_rows.specs.RowEdit.{Places, vertex_after, vertex_edited}
use Rattle.pg_graph_rows.specs.declared.edit.Edit.{Edit}
use Rattle.pg_graph_rows.specs.declared.edit.EditFault.{EditFault}
use Rattle.pg_graph_rows.specs.declared.edit.EditKind.{EditKind}
use Rattle.pg_graph_rows.specs.declared.row.Row.{Row}

-- the row with this input and these edges, if there is an input
abbrev pub row_with : Option ℤ → EdgeList → Option Row
row_with None edges = None
row_with (Some input) edges = Some (record { input = input; edges = edges })

-- a list has others behind these edges, or none
abbrev pub BeginsWith : EdgeList → EdgeList → Type 0
BeginsWith front list = (last : EdgeList) × (list ≡ front ++ last)

-- behind these edges lie those of a row with this input, by rising target; none where there is no row
pub record LiesBehind (front : EdgeList) (row : Option Row) (input : Option ℤ) (list : EdgeList) : Type 0 where
  pub last : EdgeList
  pub whole : list ≡ front ++ last
  pub rising : IsRising last
  pub is : row ≡ row_with input last
  pub none : input ≡ None → last ≡ []

-- what an edit makes of a row lies behind these edges; or it has no result, and others may
abbrev pub EditedBehind : Option Row → Edit → EdgeList → Option ℤ → EdgeList → Result (Unit {0}) EditKind → Type 0
EditedBehind row edit front input list result = MatchResult result
    (λ _. (made : Option Row) × (vertex_edited row edit ≡ Ok made) × LiesBehind front made input list)
    (λ kind. (vertex_edited row edit ≡ Err kind) × BeginsWith front list)

-- what edits make of a row lies behind the edges that were there; or one has no result, and there are just those
abbrev pub AddsEdited : Option Row → Places → EdgeList → EdgeList → Result (Option ℤ) EditFault → Type 0
AddsEdited row edits before after result = MatchResult result
    (λ input. (made : Option Row) × (vertex_after row edits ≡ Ok made) × LiesBehind before made input after)
    (λ fault. (vertex_after row edits ≡ Err fault) × (after ≡ before))

-- the edge to a target is at this place, behind others
pub record IsPlaceBehind (target : ℕ) (front last : EdgeList) (place : ℕ) : Type 0 where
  pub there : is_some (weight_at target last) ≡ true
  pub written : (weight : ℤ) → slice_set (front ++ last) place (target, weight) ≡ front ++ with_edge target weight last
  pub removed : remove (front ++ last) place ≡ front ++ without_edge target last

-- there is no edge to a target, and one would go to this place
pub record IsGapBehind (target : ℕ) (front last : EdgeList) (place : ℕ) : Type 0 where
  pub absent : is_some (weight_at target last) ≡ false
  pub unchanged : without_edge target last ≡ last
  pub inserted : (weight : ℤ) → insert (front ++ last) place (target, weight) ≡ front ++ with_edge target weight last
