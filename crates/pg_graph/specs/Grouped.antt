-- The edits of a batch by vertex, and how far they are dealt with.
use Rattle.std.specs.Prelude.{◌≡◌, ℕ, nat_le, cond, ◌<◌, ◌≤◌, ◌⊎◌, List, [], Option, None, Some, MatchOption, Ok, Err}
use Rattle.std.specs.Prelude.{MatchResult}
use Rattle.std.specs.List.{AllByRecursion}
use Rattle.std.specs.List.Sorted.{IsNonDecreasingBy}
use Rattle.pg_map.specs.Entries.{ChangesRise, value_at, with_changes}
use Rattle.pg_graph_rows.specs.ChangedRows.{RowChanges}
use Rattle.pg_graph_rows.specs.EdgeList.{IsRising}
use Rattle.pg_graph.specs.RowChanges.{changed_row_at}
use Rattle.pg_graph_rows.specs.RowEdit.{Places, source_of, vertex_after}
use Rattle.pg_graph.specs.RowEdit.{edits_of, placed}
use Rattle.pg_graph.specs.Rows.{Rows, edge_count, row_at}
use Rattle.pg_graph.specs.declared.draft.RowChanges.{RowChanges as Changing}
use Rattle.pg_graph_rows.specs.declared.edit.Edit.{Edit}
use Rattle.pg_graph_rows.specs.declared.edit.EditFault.{EditFault}
use Rattle.pg_graph_rows.specs.declared.row.Row.{Row}

abbrev pub RiseBySource : Places → Type 0
RiseBySource edits = IsNonDecreasingBy (λ e. source_of e.1) edits

-- the edits of a batch by rising vertex, those of one vertex in their order
pub record AreGrouped (edits : List Edit) (grouped : Places) : Type 0 where
  pub rise : RiseBySource grouped
  pub same : (q : ℕ) → edits_of q grouped ≡ edits_of q (placed 1 edits)

-- the edges of a row rise, if it is there
abbrev pub RowRises : Option Row → Type 0
RowRises None = Unit {0}
RowRises (Some row) = IsRising row.edges

-- so do those of each row that these edits are of
abbrev pub EditedRowsRise : Rows → Places → Type 0
EditedRowsRise rows edits = (q : ℕ) → (edits_of q edits ≡ []) ⊎ RowRises (row_at q rows)

-- a fault that was found is no later than this one
abbrev pub IsNoLater : Option EditFault → EditFault → Type 0
IsNoLater None other = ⊥
IsNoLater (Some fault) other = fault.position ≤ other.position

-- the edits of a vertex all remain
pub record IsRest (q : ℕ) (all remaining : Places) (changes : RowChanges) : Type 0 where
  pub edits : edits_of q remaining ≡ edits_of q all
  pub change : value_at q changes ≡ None

-- or none is, and what they make is among the changes, or a fault
pub record IsDone (rows : Rows) (q : ℕ) (all remaining : Places) (changes : RowChanges)
    (fault : Option EditFault) : Type 0 where
  pub edits : edits_of q remaining ≡ []
  pub rises : RowRises (row_at q rows)
  pub stated : MatchResult (vertex_after (row_at q rows) (edits_of q all)) (λ row. value_at q changes ≡ Some row)
      (IsNoLater fault)

pub record AreDealt (rows : Rows) (all remaining : Places) (changes : RowChanges)
    (fault : Option EditFault) : Type 0 where
  pub left_rise : RiseBySource remaining
  pub changes_rise : ChangesRise changes
  pub below : AllByRecursion (λ e. AllByRecursion (λ c. c.0 < source_of e.1) changes) remaining
  pub seen : (q : ℕ) → IsRest q all remaining changes ⊎ IsDone rows q all remaining changes fault
  pub found : MatchOption fault (Unit {0}) (λ f. (q : ℕ) × (vertex_after (row_at q rows) (edits_of q all) ≡ Err f))

-- of two faults the earlier one, if there is a first
abbrev pub earlier_of : Option EditFault → EditFault → EditFault
earlier_of None found = found
earlier_of (Some fault) found = cond (nat_le fault.position found.position) fault found

-- each vertex has what its edits make of it, or what it had
pub record AreMade (rows : Rows) (all : Places) (changes : RowChanges) : Type 0 where
  pub rise : ChangesRise changes
  pub stated : (q : ℕ) → vertex_after (row_at q rows) (edits_of q all) ≡ Ok (changed_row_at q changes rows)

-- and the number is that of the edges of the graph with the changes
pub record AreCounted (rows : Rows) (all : Places) (changes : Changing) : Type 0 where
  pub made : AreMade rows all changes.rows.items
  pub edges_counted : changes.edges ≡ edge_count (with_changes changes.rows.items rows)

-- this is the first fault of all
pub record IsFirst (rows : Rows) (all : Places) (fault : EditFault) : Type 0 where
  pub vertex : ℕ
  pub there : vertex_after (row_at vertex rows) (edits_of vertex all) ≡ Err fault
  pub first : (q : ℕ) (other : EditFault) → vertex_after (row_at q rows) (edits_of q all) ≡ Err other
      → fault.position ≤ other.position
