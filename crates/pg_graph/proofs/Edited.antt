-- What one edit makes of a graph, case by case.
use Rattle.std.proofs.Common.{◌≡◌, ℕ, ℤ, ◌<◌, ◌≤◌, [], true, false, None, Some, Ok, Err, is_some, refl}
use Rattle.std.proofs.lemmas.Bool.{le-leb, lt-leb}
use Rattle.pg_graph_rows.specs.EdgeList.{weight_at, with_edge, without_edge}
use Rattle.pg_graph.specs.Edit.{at_row, edited, vertex_limit, edge_limit}
use Rattle.pg_graph.specs.Rows.{Rows, row_at, with_row, without_row, vertex_count, edge_count}
use Rattle.pg_graph_rows.specs.declared.row.Row.{Row}
use Rattle.pg_graph_rows.specs.declared.edit.Edit.TheVariants.{AddVertex, RemoveVertex, SetInput, AddEdge, SetEdge, RemoveEdge}
use Rattle.pg_graph_rows.specs.declared.edit.EditKind.TheVariants.{VertexExists, NoVertex, EdgeExists, NoEdge, Full}

module _ (rows : Rows) (id : ℕ) where
  -- ---- a new vertex

  pub AddVertex-exists : (input : ℤ) → is_some (row_at id rows) ≡ true → edited rows (AddVertex id input) ≡ Err VertexExists
  unfolding edited
  AddVertex-exists input there = rw there refl

  pub AddVertex-full : (input : ℤ) → is_some (row_at id rows) ≡ false → vertex_limit ≤ vertex_count rows → edited rows (AddVertex id input) ≡ Err Full
  unfolding edited
  AddVertex-full input gone full = rw (gone, le-leb vertex_limit (vertex_count rows) full) refl

  pub AddVertex-ok : (input : ℤ) → is_some (row_at id rows) ≡ false → vertex_count rows < vertex_limit
      → edited rows (AddVertex id input) ≡ Ok (with_row id (record { input = input; edges = [] }) rows)
  unfolding edited
  AddVertex-ok input gone room = rw (gone, lt-leb vertex_limit (vertex_count rows) room) refl

  -- ---- no such vertex

  module _ (gone : row_at id rows ≡ None) where
    pub RemoveVertex-missing : edited rows (RemoveVertex id) ≡ Err NoVertex
    unfolding edited
    RemoveVertex-missing = rw gone refl

    pub SetInput-missing : (input : ℤ) → edited rows (SetInput id input) ≡ Err NoVertex
    unfolding edited
    SetInput-missing input = rw (gone, at_row) refl

    pub AddEdge-missing : (target : ℕ) (weight : ℤ) → edited rows (AddEdge id target weight) ≡ Err NoVertex
    unfolding edited
    AddEdge-missing target weight = rw (gone, at_row) refl

    pub SetEdge-missing : (target : ℕ) (weight : ℤ) → edited rows (SetEdge id target weight) ≡ Err NoVertex
    unfolding edited
    SetEdge-missing target weight = rw (gone, at_row) refl

    pub RemoveEdge-missing : (target : ℕ) → edited rows (RemoveEdge id target) ≡ Err NoVertex
    unfolding edited
    RemoveEdge-missing target = rw (gone, at_row) refl

  -- ---- a vertex that is there

  module _ (row : Row) (there : row_at id rows ≡ Some row) where
    pub RemoveVertex-ok : edited rows (RemoveVertex id) ≡ Ok (without_row id rows)
    unfolding edited
    RemoveVertex-ok = rw there refl

    pub SetInput-ok : (input : ℤ) → edited rows (SetInput id input) ≡ Ok (with_row id (record row { input = input }) rows)
    unfolding edited
    SetInput-ok input = rw (there, at_row) refl

    pub AddEdge-exists : (target : ℕ) (weight : ℤ) → is_some (weight_at target row.edges) ≡ true → edited rows (AddEdge id target weight) ≡ Err EdgeExists
    unfolding edited
    AddEdge-exists target weight edge = rw (there, at_row, edge) refl

    pub AddEdge-full : (target : ℕ) (weight : ℤ) → is_some (weight_at target row.edges) ≡ false → edge_limit ≤ edge_count rows
        → edited rows (AddEdge id target weight) ≡ Err Full
    unfolding edited
    AddEdge-full target weight none full = rw (there, at_row, none, le-leb edge_limit (edge_count rows) full) refl

    pub AddEdge-ok : (target : ℕ) (weight : ℤ) → is_some (weight_at target row.edges) ≡ false → edge_count rows < edge_limit
        → edited rows (AddEdge id target weight) ≡ Ok (with_row id (record row { edges = with_edge target weight row.edges }) rows)
    unfolding edited
    AddEdge-ok target weight none room = rw (there, at_row, none, lt-leb edge_limit (edge_count rows) room) refl

    pub SetEdge-none : (target : ℕ) (weight : ℤ) → is_some (weight_at target row.edges) ≡ false → edited rows (SetEdge id target weight) ≡ Err NoEdge
    unfolding edited
    SetEdge-none target weight none = rw (there, at_row, none) refl

    pub SetEdge-ok : (target : ℕ) (weight : ℤ) → is_some (weight_at target row.edges) ≡ true
        → edited rows (SetEdge id target weight) ≡ Ok (with_row id (record row { edges = with_edge target weight row.edges }) rows)
    unfolding edited
    SetEdge-ok target weight edge = rw (there, at_row, edge) refl

    pub RemoveEdge-none : (target : ℕ) → is_some (weight_at target row.edges) ≡ false → edited rows (RemoveEdge id target) ≡ Err NoEdge
    unfolding edited
    RemoveEdge-none target none = rw (there, at_row, none) refl

    pub RemoveEdge-ok : (target : ℕ) → is_some (weight_at target row.edges) ≡ true
        → edited rows (RemoveEdge id target) ≡ Ok (with_row id (record row { edges = without_edge target row.edges }) rows)
    unfolding edited
    RemoveEdge-ok target edge = rw (there, at_row, edge) refl
