-- What the batch of a list of edges makes of a graph.
use Rattle.std.proofs.Common.{◌≡◌, ℕ, pos, ◌+◌, ◌<◌, ◌≤◌, true, false, cond, List, [], ◌∷◌, ◌++◌, length, Some, Result, Ok, Err, MatchResult, ◌⊎◌}
use Rattle.std.proofs.Common.{nat_le, nat_lt, refl, sym, ◌∙◌, inl, inr, arith}
use Rattle.std.specs.Option.{is_some}
use Rattle.std.proofs.lemmas.Bool.{cases_Bool}
use borrow.Author.Tests.{leb-true, ltb-true}
use Rattle.pg_graph.specs.Edit.{all_edited, at_row, batch_edited, batch_limit, edge_limit, edited, vertex_limit}
use Rattle.pg_graph.specs.Handed.{weight_at, Row, Edit, AddVertex, AddEdge, SetEdge, EditFault, EditKind, Full}
use Rattle.pg_graph.specs.Rows.{Rows, edge_count, row_at, vertex_count, with_row}
use Rattle.pg_import.proofs.Graphs.{has_vertex-with_ends, row_there, with_line_edge-at, with_vertex-new, with_vertex-there}
use Rattle.pg_import.proofs.Limits.{Grows, Grows-with_lines, Grows-with_line_edge, Grows-with_vertex, edge_count-new, vertex_count-new}
use Rattle.pg_import.specs.Batch.{Makes, batch_of, edge_edit, has_edge, has_vertex, line_edits, vertex_edits, with_ends, with_line, with_line_edge}
use Rattle.pg_import.specs.Batch.{with_lines, with_vertex}
use Rattle.pg_import.specs.declared.line.Line.{Line}

-- a graph that is larger than graphs may be
abbrev pub IsPast : Rows → Type 0
IsPast made = (vertex_limit < vertex_count made) ⊎ (edge_limit < edge_count made)

IsPast-grows : (rows made : Rows) → Grows rows made → IsPast rows → IsPast made
IsPast-grows rows made grows (inl past) = inl (omega (arith, past, grows.vertices))
IsPast-grows rows made grows (inr past) = inr (omega (arith, past, grows.edges))

-- edits make a graph, or there is one that would make it too large
abbrev Gives : Result Rows EditFault → Rows → Type 0
Gives r made = MatchResult r (λ changed. changed ≡ made) (λ fault. (fault.kind ≡ Full) × IsPast made)

abbrev pub Outcome : ℕ → Rows → List Edit → Rows → Type 0
Outcome position rows edits made = Gives (all_edited position rows edits) made

-- the result of one edit and what the edits after it make of it
abbrev after_edit : ℕ → List Edit → Result Rows EditKind → Result Rows EditFault
after_edit position edits (Ok changed) = all_edited (position + 1) changed edits
after_edit position edits (Err kind) = Err (record { position = position; kind = kind })

all_edited-cons : (position : ℕ) (rows : Rows) (edit : Edit) (edits : List Edit)
    → all_edited position rows (edit ∷ edits) ≡ after_edit position edits (edited rows edit)
unfolding all_edited
all_edited-cons position rows edit edits = refl

after-append : (r : Result Rows EditKind) (position : ℕ) (xs ys : List Edit) (mid made : Rows) → Gives (after_edit position xs r) mid
    → ((changed : Rows) → Outcome (position + 1) changed xs mid → Outcome (position + 1) changed (xs ++ ys) made) → Grows mid made
    → Gives (after_edit position (xs ++ ys) r) made
after-append (Ok changed) position xs ys mid made first more grows = more changed first
after-append (Err kind) position xs ys mid made first more grows = (first.0, IsPast-grows mid made grows first.1)

-- edits, and then more of them
pub Outcome-append : (xs : List Edit) (position : ℕ) (rows : Rows) (ys : List Edit) (mid made : Rows) → Outcome position rows xs mid
    → ((next : ℕ) → Outcome next mid ys made) → Grows mid made → Outcome position rows (xs ++ ys) made
unfolding all_edited
Outcome-append [] position rows ys mid made first more grows = rw first (more position)
Outcome-append (x ∷ xs) position rows ys mid made first more grows =
    rw all_edited-cons (after-append (edited rows x) position xs ys mid made (rw all_edited-cons at first)
    (λ changed out. Outcome-append xs (position + 1) changed ys mid made out more grows) grows)

-- one edit, by its result
Outcome-one : (position : ℕ) (rows : Rows) (edit : Edit) (made : Rows) (r : Result Rows EditKind) → edited rows edit ≡ r
    → MatchResult r (λ changed. changed ≡ made) (λ kind. (kind ≡ Full) × IsPast made) → Outcome position rows (edit ∷ []) made
unfolding all_edited
Outcome-one position rows edit made (Ok changed) is good = rw (is, all_edited) good
Outcome-one position rows edit made (Err kind) is good = rw (is, all_edited) good

edited-new_vertex : (rows : Rows) (id : ℕ) → has_vertex id rows ≡ false
    → edited rows (AddVertex id (pos 0)) ≡ cond (nat_le vertex_limit (vertex_count rows)) (Err Full) (Ok (with_vertex id rows))
unfolding edited
edited-new_vertex rows id new = rw (new, with_vertex-new rows id new) refl

past_vertices : (rows : Rows) (id : ℕ) → nat_le vertex_limit (vertex_count rows) ≡ true → has_vertex id rows ≡ false
    → vertex_limit < vertex_count (with_vertex id rows)
past_vertices rows id full new =
    let most : vertex_limit ≤ vertex_count rows = leb-true vertex_limit (vertex_count rows) full in
    omega (arith, vertex_count-new rows id new)

-- the edits of a vertex
Outcome-vertex : (position : ℕ) (rows : Rows) (id : ℕ) → Outcome position rows (vertex_edits id rows) (with_vertex id rows)
unfolding vertex_edits all_edited
Outcome-vertex position rows id = elim (cases_Bool (has_vertex id rows)) [
  | inl there ↦ rw there (sym (with_vertex-there rows id there))
  | inr new ↦ rw new (elim (cases_Bool (nat_le vertex_limit (vertex_count rows))) [
    | inl full ↦ Outcome-one position rows _ _ (Err Full) (edited-new_vertex rows id new ∙ rw full refl) (refl, inl (past_vertices rows id full new))
    | inr room ↦ Outcome-one position rows _ _ (Ok (with_vertex id rows)) (edited-new_vertex rows id new ∙ rw room refl) refl
  ])
]

has_edge-at : (line : Line) (rows : Rows) (row : Row) → row_at line.source rows ≡ Some row
    → has_edge line.source line.target rows ≡ is_some (weight_at line.target row.edges)
has_edge-at line rows row at = rw at refl

-- what a change of a row makes of a graph
put_row : ℕ → Rows → Result Row EditKind → Result Rows EditKind
put_row id rows (Ok row) = Ok (with_row id row rows)
put_row id rows (Err kind) = Err kind

at_row-there : (id : ℕ) (change : Row → Result Row EditKind) (rows : Rows) (row : Row) → row_at id rows ≡ Some row
    → at_row id change rows ≡ put_row id rows (change row)
unfolding put_row
at_row-there id change rows row at = rw (at, at_row) refl

edited-known_edge : (line : Line) (rows : Rows) (row : Row) → row_at line.source rows ≡ Some row → is_some (weight_at line.target row.edges) ≡ true
    → edited rows (SetEdge line.source line.target line.weight) ≡ Ok (with_line_edge line rows)
unfolding edited put_row
edited-known_edge line rows row at known =
    at_row-there line.source _ rows row at ∙ rw (known, with_line_edge-at line rows row at) refl

edited-full : (line : Line) (rows : Rows) (row : Row) → row_at line.source rows ≡ Some row → is_some (weight_at line.target row.edges) ≡ false
    → nat_le edge_limit (edge_count rows) ≡ true
    → edited rows (AddEdge line.source line.target line.weight) ≡ Err Full
unfolding edited put_row
edited-full line rows row at new full = at_row-there line.source _ rows row at ∙ rw (new, full) refl

edited-new_edge : (line : Line) (rows : Rows) (row : Row) → row_at line.source rows ≡ Some row → is_some (weight_at line.target row.edges) ≡ false
    → nat_le edge_limit (edge_count rows) ≡ false
    → edited rows (AddEdge line.source line.target line.weight) ≡ Ok (with_line_edge line rows)
unfolding edited put_row
edited-new_edge line rows row at new room =
    at_row-there line.source _ rows row at ∙ rw (new, room, with_line_edge-at line rows row at) refl

past_edges : (line : Line) (rows : Rows) (row : Row) → row_at line.source rows ≡ Some row → is_some (weight_at line.target row.edges) ≡ false
    → nat_le edge_limit (edge_count rows) ≡ true
    → edge_limit < edge_count (with_line_edge line rows)
past_edges line rows row at new full =
    let most : edge_limit ≤ edge_count rows = leb-true edge_limit (edge_count rows) full in
    omega (arith, edge_count-new line rows row at new)

Outcome-edge_at : (position : ℕ) (line : Line) (rows : Rows) (row : Row) → row_at line.source rows ≡ Some row
    → Outcome position rows (edge_edit line rows ∷ []) (with_line_edge line rows)
unfolding edge_edit
Outcome-edge_at position line rows row at = elim (cases_Bool (is_some (weight_at line.target row.edges))) [
  | inl known ↦
      rw (has_edge-at line rows row at ∙ known)
      (Outcome-one position rows _ _ (Ok (with_line_edge line rows)) (edited-known_edge line rows row at known) refl)
  | inr new ↦ rw (has_edge-at line rows row at ∙ new) (elim (cases_Bool (nat_le edge_limit (edge_count rows))) [
    | inl full ↦ Outcome-one position rows _ _ (Err Full) (edited-full line rows row at new full) (refl, inr (past_edges line rows row at new full))
    | inr room ↦ Outcome-one position rows _ _ (Ok (with_line_edge line rows)) (edited-new_edge line rows row at new room) refl
  ])
]

-- the edit of an edge, whose source is there
Outcome-edge : (position : ℕ) (line : Line) (rows : Rows) → has_vertex line.source rows ≡ true
    → Outcome position rows (edge_edit line rows ∷ []) (with_line_edge line rows)
Outcome-edge position line rows there = let (row, at) = row_there (row_at line.source rows) there in Outcome-edge_at position line rows row at

-- the edits of a line
Outcome-line : (position : ℕ) (line : Line) (rows : Rows) → Outcome position rows (line_edits line rows) (with_line line rows)
Outcome-line position line rows =
    let there = has_vertex-with_ends line rows in
    let ends = Outcome-append (vertex_edits line.source rows) position rows (vertex_edits line.target (with_vertex line.source rows))
    (with_vertex line.source rows) (with_ends line rows)
    (Outcome-vertex position rows line.source) (λ next. Outcome-vertex next (with_vertex line.source rows) line.target)
    (Grows-with_vertex (with_vertex line.source rows) line.target) in
    Outcome-append (vertex_edits line.source rows ++ vertex_edits line.target (with_vertex line.source rows)) position rows
    (edge_edit line (with_ends line rows) ∷ []) (with_ends line rows) (with_line line rows)
    ends (λ next. Outcome-edge next line (with_ends line rows) there) (Grows-with_line_edge line (with_ends line rows) there)

-- the edits of a list of edges
Outcome-lines : (lines : List Line) (position : ℕ) (rows : Rows) → Outcome position rows (batch_of lines rows) (with_lines lines rows)
unfolding batch_of all_edited
Outcome-lines [] position rows = refl
Outcome-lines (line ∷ lines) position rows =
    Outcome-append (line_edits line rows) position rows (batch_of lines (with_line line rows)) (with_line line rows) (with_lines lines (with_line line rows))
    (Outcome-line position line rows) (λ next. Outcome-lines lines next (with_line line rows)) (Grows-with_lines lines (with_line line rows))

-- a batch that isn't too long
makes_from : (r : Result Rows EditFault) (rows made : Rows) (batch : List Edit) → batch_edited rows batch ≡ r → Gives r made → Makes rows batch made
makes_from (Ok changed) rows made batch is good = rw is good
makes_from (Err fault) rows made batch is good = rw is (inr good)

-- the batch of a list of edges makes the graph with its lines, or passes a limit
pub Makes-batch_of : (lines : List Line) (rows : Rows) → Makes rows (batch_of lines rows) (with_lines lines rows)
unfolding batch_edited
Makes-batch_of lines rows = elim (cases_Bool (nat_lt batch_limit (length (batch_of lines rows)))) [
  | inl long ↦ rw long (inl (refl, ltb-true batch_limit (length (batch_of lines rows)) long))
  | inr short ↦ makes_from (all_edited 1 rows (batch_of lines rows)) rows (with_lines lines rows) (batch_of lines rows) (rw short refl)
      (Outcome-lines lines 1 rows)
]
