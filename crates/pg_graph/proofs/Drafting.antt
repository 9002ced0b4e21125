-- A draft after one more change: its numbers, and what it has made of its graph.
use Rattle.std.proofs.Common.{◌≡◌, ℕ, ◌+◌, ◌≤◌, ◌⊎◌, [], length, Bool, true, false, cond, Option, None, Some, is_some, Ok, Err, inl, inr, refl, sym}
use Rattle.std.proofs.Common.{ap, ◌∙◌, subst, ⊎_elim, arith}
use Rattle.std.specs.Ordering.{nat_cmp}
use Rattle.std.specs.BTreeMap.{insert_entry, is_at}
use Rattle.std.specs.Map.{remove_entry}
use Rattle.std.specs.Option.{option_map, unwrap_or}
use Rattle.pg_map.specs.Entries.{ChangesRise, with_change, with_changes}
use Rattle.pg_graph_rows.specs.ChangedRows.{RowChanges}
use Rattle.pg_graph_rows.specs.ChangedRows.{degree_of}
use Rattle.pg_graph.specs.RowChanges.{changed_row_at}
use Rattle.pg_graph.specs.Draft.{IsCounted, BecomesBy, RefusesEdit}
use Rattle.pg_graph.specs.Edit.{edited, vertex_limit, edge_limit}
use Rattle.pg_graph.specs.Rows.{Rows, HasRisingIds, row_at, with_row, without_row, vertex_count, edge_count}
use Rattle.pg_graph_rows.specs.declared.edit.Edit.{Edit}
use Rattle.pg_graph_rows.specs.declared.edit.EditKind.{EditKind}
use Rattle.pg_graph_rows.specs.declared.edit.EditKind.TheVariants.{Memory, NoVertex}
use Rattle.pg_graph_rows.specs.declared.row.Row.{Row}
use Rattle.pg_map.proofs.Changing.{rises-changes, value_at-with_changes, with_changes-insert, insert-remove}
use Rattle.pg_map.proofs.Rising.{rises-insert, length-insert_absent, length-insert_present, length-remove_present, sum-insert, sum-remove}

-- ---- of one graph

degree_is : (row : Option Row) → degree_of row ≡ unwrap_or (option_map (λ (r : Row). length r.edges) row) 0
degree_is None = refl
degree_is (Some row) = refl

pub edges-with_row : (rows : Rows) (id : ℕ) (row : Row) → HasRisingIds rows
    → edge_count (with_row id row rows) + degree_of (row_at id rows) ≡ edge_count rows + length row.edges
edges-with_row rows id row rising = omega (arith, sum-insert (λ (r : Row). length r.edges) rows id row rising, degree_is (row_at id rows))

pub edges-without_row : (rows : Rows) (id : ℕ) → edge_count (without_row id rows) + degree_of (row_at id rows) ≡ edge_count rows
edges-without_row rows id = omega (arith, sum-remove (λ (r : Row). length r.edges) rows id, degree_is (row_at id rows))

degree-le : (rows : Rows) (id : ℕ) (row : Row) → row_at id rows ≡ Some row → length row.edges ≤ edge_count rows
degree-le rows id row there = omega (arith, edges-without_row rows id, ap degree_of there)

some_vertex : (rows : Rows) (id : ℕ) (row : Row) → row_at id rows ≡ Some row → 1 ≤ vertex_count rows
some_vertex rows id row there = omega (arith, length-remove_present rows id row there)

-- ---- of an edge

pub one_more : (b : Bool) (n m : ℕ) → b ≡ false → n + cond b 1 0 ≡ m + 1 → n ≡ m + 1
one_more true n m e h = absurd (let f : true ≡ false = e in cc)
one_more false n m e h = omega arith

pub as_many : (b : Bool) (n m : ℕ) → b ≡ true → n + cond b 1 0 ≡ m + 1 → n ≡ m
as_many true n m e h = omega arith
as_many false n m e h = absurd (let f : false ≡ true = e in cc)

pub one_less : (b : Bool) (n m : ℕ) → b ≡ true → n + cond b 1 0 ≡ m → n + 1 ≡ m
one_less true n m e h = h
one_less false n m e h = absurd (let f : false ≡ true = e in cc)

pub none_there : {X : Type 0} (o : Option X) → is_some o ≡ false → o ≡ None
none_there None gone = refl
none_there (Some x) gone = absurd (let f : true ≡ false = gone in cc)

-- ---- of a draft

module _ (graph : Rows) (changes : RowChanges) (vertices edges : ℕ) (before : IsCounted graph changes vertices edges) (id : ℕ) where
  abbrev now : Rows
  now = with_changes changes graph

  -- the changes without that of the vertex
  abbrev others : RowChanges
  others = remove_entry (is_at (nat_cmp id)) changes

  now_rises : HasRisingIds now
  now_rises = rises-changes changes graph before.graph_rises

  pub row_now : (row : Option Row) → changed_row_at id changes graph ≡ row → row_at id now ≡ row
  row_now row stated = value_at-with_changes changes graph id before.changes_rise before.graph_rises ∙ stated

  pub vertex_left : (row : Row) → row_at id now ≡ Some row → 1 ≤ vertices
  vertex_left row there = omega (arith, some_vertex now id row there, before.vertices_counted)

  pub edges_left : (row : Row) → row_at id now ≡ Some row → length row.edges ≤ edges
  edges_left row there = omega (arith, degree-le now id row there, before.edges_counted)

  pub put_now : (change : Option Row) → with_changes (insert_entry nat_cmp changes id change) graph ≡ with_change id change now
  put_now change = with_changes-insert changes graph id change before.changes_rise before.graph_rises

  pub added : (row : Row) → row_at id now ≡ None → row.edges ≡ [] → vertices + 1 ≤ vertex_limit
      → IsCounted graph (insert_entry nat_cmp changes id (Some row)) (vertices + 1) edges
  added row gone bare room = record {
    graph_rises = before.graph_rises;
    changes_rise = rises-insert changes id (Some row) before.changes_rise;
    vertices_counted = omega (arith, before.vertices_counted, ap vertex_count (put_now (Some row)), length-insert_absent now id row gone);
    edges_counted = omega
        (arith, before.edges_counted, ap edge_count (put_now (Some row)), edges-with_row now id row now_rises, ap degree_of gone, ap length bare);
    vertices_fit = room;
    edges_fit = before.edges_fit;
  }

  -- where the change of the vertex was taken out, and this one was put in
  module _ (taken changes' : RowChanges) (change : Option Row) (took : taken ≡ others) (put : changes' ≡ insert_entry nat_cmp taken id change) where
    in_place : changes' ≡ insert_entry nat_cmp changes id change
    in_place = put ∙ ap (λ l. insert_entry nat_cmp l id change) took ∙ insert-remove changes id change before.changes_rise

    pub put_back : with_changes changes' graph ≡ with_change id change now
    put_back = ap (λ l. with_changes l graph) in_place ∙ put_now change

    still_rise : ChangesRise changes'
    still_rise = subst ChangesRise (sym in_place) (rises-insert changes id change before.changes_rise)

    module _ (row : Row) (there : row_at id now ≡ Some row) where
      pub replaced : (row' : Row) (edges' : ℕ) → change ≡ Some row' → edges' + length row.edges ≡ edges + length row'.edges → edges' ≤ edge_limit
          → IsCounted graph changes' vertices edges'
      replaced row' edges' some count room =
          let made : with_changes changes' graph ≡ with_row id row' now = put_back ∙ ap (λ o. with_change id o now) some in
          record {
            graph_rises = before.graph_rises;
            changes_rise = still_rise;
            vertices_counted = omega (arith, before.vertices_counted, ap vertex_count made, length-insert_present now id row row' now_rises there);
            edges_counted = omega (arith, before.edges_counted, ap edge_count made, edges-with_row now id row' now_rises, ap degree_of there);
            vertices_fit = before.vertices_fit;
            edges_fit = room;
          }

      pub removed : (vertices' edges' : ℕ) → change ≡ None → vertices' + 1 ≡ vertices → edges' + length row.edges ≡ edges
          → IsCounted graph changes' vertices' edges'
      removed vertices' edges' none_left one count =
          let made : with_changes changes' graph ≡ without_row id now = put_back ∙ ap (λ o. with_change id o now) none_left in
          record {
            graph_rises = before.graph_rises;
            changes_rise = still_rise;
            vertices_counted = omega (arith, before.vertices_counted, ap vertex_count made, length-remove_present now id row there);
            edges_counted = omega (arith, before.edges_counted, ap edge_count made, edges-without_row now id, ap degree_of there);
            vertices_fit = omega (arith, before.vertices_fit);
            edges_fit = omega (arith, before.edges_fit);
          }

  -- of the draft as a contract sees it
  module _ (value : Rows × Rows) (view : (graph, now) ≡ value) (edit : Edit) where
    pub becomes : (changes' : RowChanges) (rows' : Rows) → edited now edit ≡ Ok rows' → with_changes changes' graph ≡ rows'
        → BecomesBy edit value (graph, with_changes changes' graph)
    becomes changes' rows' made same = subst (λ v. BecomesBy edit v (graph, with_changes changes' graph)) view (refl, made ∙ ap (λ rows. Ok rows) (sym same))

    pub refused : (kind : EditKind) → edited now edit ≡ Err kind → RefusesEdit edit value kind
    refused kind why = subst (λ v. RefusesEdit edit v kind) view (inr why)

    pub refused_row : (kind : EditKind) → (row_at id now ≡ None → edited now edit ≡ Err NoVertex)
        → (kind ≡ Memory) ⊎ ((kind ≡ NoVertex) × (changed_row_at id changes graph ≡ None)) → RefusesEdit edit value kind
    refused_row kind missing stated =
        ⊎_elim
        (λ (e : kind ≡ Memory). inl e)
        (λ (p : (kind ≡ NoVertex) × (changed_row_at id changes graph ≡ None)). refused kind (missing (row_now None p.1) ∙ ap (λ k. Err k) (sym p.0)))
        stated
