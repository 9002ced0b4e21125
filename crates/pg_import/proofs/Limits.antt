-- How large a graph is once a line, or a part of one, was added.
use Rattle.std.proofs.Common.{◌≡◌, ℕ, pos, ◌+◌, ◌<◌, ◌≤◌, true, false, List, [], ◌∷◌, length, Option, None, Some, refl, inl, inr, arith}
use Rattle.std.specs.BTreeMap.{insert_entry, is_at}
use Rattle.std.specs.Map.{lookup}
use Rattle.std.specs.Option.{is_some}
use Rattle.std.specs.Ordering.{nat_cmp}
use Rattle.std.proofs.lemmas.Bool.{cases_Bool}
use Rattle.std.proofs.lemmas.List.Sums.{sum_by-cons}
use Rattle.pg_graph.specs.Handed.{weight_at, with_edge, Row}
use Rattle.pg_graph.specs.Rows.{Rows, edge_count, row_at, vertex_count, with_row}
use Rattle.pg_import.proofs.Graphs.{cases_Ordering, has_vertex-with_ends, row_there, with_line_edge-at, with_vertex-new, with_vertex-there}
use Rattle.pg_import.specs.Batch.{has_vertex, with_ends, with_line, with_line_edge, with_lines, with_vertex}
use Rattle.pg_import.specs.declared.line.Line.{Line}

-- an entry that is put takes no other one away
length-insert-le : {X : Type 0} (entries : List (ℕ × X)) (k : ℕ) (v : X) → length entries ≤ length (insert_entry nat_cmp entries k v)
length-insert-le [] k v = omega arith
length-insert-le (e ∷ entries) k v = elim (cases_Ordering (nat_cmp k e.0)) [
  | inl less ↦ rw less (omega arith)
  | inr more ↦ elim more [
    | inl equal ↦ rw equal (omega arith)
    | inr greater ↦ rw greater (omega (arith, length-insert-le entries k v))
  ]
]

-- and one that wasn't there is one more
length-insert-new : {X : Type 0} (entries : List (ℕ × X)) (k : ℕ) (v : X) → is_some (lookup (is_at (nat_cmp k)) entries) ≡ false
    → length (insert_entry nat_cmp entries k v) ≡ length entries + 1
length-insert-new [] k v new = refl
length-insert-new (e ∷ entries) k v new = elim (cases_Ordering (nat_cmp k e.0)) [
  | inl less ↦ rw less (omega arith)
  | inr more ↦ elim more [
    | inl equal ↦ cc (rw equal at new)
    | inr greater ↦ rw greater (omega (arith, length-insert-new entries k v (rw greater at new)))
  ]
]

-- how many edges the row of an id has
abbrev row_size : Option Row → ℕ
row_size None = 0
row_size (Some row) = length row.edges

edge_count-cons : (e : ℕ × Row) (rows : Rows) → edge_count (e ∷ rows) ≡ length e.1.edges + edge_count rows
edge_count-cons e rows = sum_by-cons (λ (e : ℕ × Row). length e.1.edges) e rows

-- a row with more edges in the place of the one that was there
edge_count-with_row : (rows : Rows) (id more : ℕ) (row : Row) → row_size (row_at id rows) + more ≤ length row.edges
    → edge_count rows + more ≤ edge_count (with_row id row rows)
edge_count-with_row [] id more row le = omega (arith, le, edge_count-cons (id, row) [])
edge_count-with_row (e ∷ rows) id more row le = elim (cases_Ordering (nat_cmp id e.0)) [
  | inl less ↦ rw less (omega (arith, le, edge_count-cons (id, row) (e ∷ rows)))
  | inr rest ↦ elim rest [
    | inl equal ↦ rw equal (omega (arith, rw equal at le, edge_count-cons e rows, edge_count-cons (e.0, row) rows))
    | inr greater ↦ rw greater
        (omega (arith, edge_count-with_row rows id more row (rw greater at le), edge_count-cons e rows, edge_count-cons e (with_row id row rows)))
  ]
]

-- a graph that is at least as large
pub record Grows (rows made : Rows) : Type 0 where
  pub vertices : vertex_count rows ≤ vertex_count made
  pub edges : edge_count rows ≤ edge_count made

pub Grows-refl : (rows : Rows) → Grows rows rows
Grows-refl rows = record { vertices = omega arith; edges = omega arith }

pub Grows-trans : (a b c : Rows) → Grows a b → Grows b c → Grows a c
Grows-trans a b c ab bc = record { vertices = omega (arith, ab.vertices, bc.vertices); edges = omega (arith, ab.edges, bc.edges) }

row_size-none : (o : Option Row) → is_some o ≡ false → row_size o ≡ 0
row_size-none None none = refl
row_size-none (Some row) none = cc none

-- a vertex that is new is one more
pub vertex_count-new : (rows : Rows) (id : ℕ) → has_vertex id rows ≡ false → vertex_count (with_vertex id rows) ≡ vertex_count rows + 1
vertex_count-new rows id new = rw (with_vertex-new rows id new) (length-insert-new rows id _ new)

pub Grows-with_vertex : (rows : Rows) (id : ℕ) → Grows rows (with_vertex id rows)
Grows-with_vertex rows id = elim (cases_Bool (has_vertex id rows)) [
  | inl there ↦ rw (with_vertex-there rows id there) (Grows-refl rows)
  | inr new ↦ rw (with_vertex-new rows id new) (record {
    vertices = length-insert-le rows id _;
    edges = omega (arith, edge_count-with_row rows id 0 (record { input = pos 0; edges = [] }) (omega (arith, row_size-none (row_at id rows) new)));
  })
]

size_at : (o : Option Row) (row : Row) → o ≡ Some row → row_size o ≡ length row.edges
size_at o row at = rw at refl

Grows-edge_at : (line : Line) (rows : Rows) (row : Row) → row_at line.source rows ≡ Some row → Grows rows (with_line_edge line rows)
Grows-edge_at line rows row at = rw (with_line_edge-at line rows row at) (record {
  vertices = length-insert-le rows line.source _;
  edges = omega (
    arith,
    edge_count-with_row rows line.source 0 (record row { edges = with_edge line.target line.weight row.edges })
        (omega (arith, size_at (row_at line.source rows) row at, length-insert-le row.edges line.target line.weight)),
  );
})

pub Grows-with_line_edge : (line : Line) (rows : Rows) → has_vertex line.source rows ≡ true → Grows rows (with_line_edge line rows)
Grows-with_line_edge line rows there = let (row, at) = row_there (row_at line.source rows) there in Grows-edge_at line rows row at

-- an edge that is new is one more
pub edge_count-new : (line : Line) (rows : Rows) (row : Row) → row_at line.source rows ≡ Some row
    → is_some (weight_at line.target row.edges) ≡ false → edge_count rows < edge_count (with_line_edge line rows)
edge_count-new line rows row at new = rw (with_line_edge-at line rows row at)
    (omega (
      arith,
      edge_count-with_row rows line.source 1 (record row { edges = with_edge line.target line.weight row.edges })
          (omega (arith, size_at (row_at line.source rows) row at, length-insert-new row.edges line.target line.weight new)),
    ))

-- a line, and lines, take nothing away
pub Grows-with_line : (line : Line) (rows : Rows) → Grows rows (with_line line rows)
Grows-with_line line rows =
    Grows-trans rows (with_ends line rows) (with_line line rows)
    (Grows-trans rows (with_vertex line.source rows) (with_ends line rows) (Grows-with_vertex rows line.source)
    (Grows-with_vertex (with_vertex line.source rows) line.target))
    (Grows-with_line_edge line (with_ends line rows) (has_vertex-with_ends line rows))

pub Grows-with_lines : (lines : List Line) (rows : Rows) → Grows rows (with_lines lines rows)
Grows-with_lines [] rows = Grows-refl rows
Grows-with_lines (line ∷ lines) rows =
    Grows-trans rows (with_line line rows) (with_lines lines (with_line line rows)) (Grows-with_line line rows) (Grows-with_lines lines (with_line line rows))
