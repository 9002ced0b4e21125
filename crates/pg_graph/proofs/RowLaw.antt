-- A batch is, for each vertex, what its own edits make of its row, where no limit can be met.
use Rattle.std.proofs.Common.{◌≡◌, ℕ, ℤ, ◌+◌, ◌<◌, ◌≤◌, Bool, true, false, cond, List, [], ◌∷◌, length, Option, None, Some, Ordering, is_some, Result}
use Rattle.std.proofs.Common.{Ok, Err, MatchResult, ◌⊎◌, inl, inr, eqb, refl, sym, ap, ◌∙◌, subst, ⊎_elim, arith}
use Rattle.std.specs.List.{AllByRecursion}
use Rattle.std.specs.List.Sorted.{IsStrictlySortedBy}
use Rattle.std.specs.declared.cmp.Ordering.TheVariants.{Less, Equal, Greater}
use Rattle.std.specs.Ordering.{nat_cmp, match_ordering}
use Rattle.std.specs.BTreeMap.{is_at}
use Rattle.std.proofs.lemmas.Bool.{cases_eq}
use Rattle.std.proofs.lemmas.Bool.Decides.{nat_tests}
use Rattle.std.proofs.lemmas.List.Sums.{sum_by-cons}
use Rattle.pg_map.specs.Entries.{with_change}
use Rattle.pg_map.proofs.Changing.{rises-change, change_same, change_other}
use Rattle.pg_map.proofs.Rising.{length-insert_absent, length-insert_present, length-remove_present, rises-insert, rises-remove}
use Rattle.pg_graph_rows.specs.ChangedRows.{degree_of}
use Rattle.pg_graph_rows.specs.EdgeList.{EdgeList, IsRising, weight_at, with_edge, without_edge}
use Rattle.pg_graph.specs.Edit.{edited, all_edited, vertex_limit, edge_limit}
use Rattle.pg_graph_rows.specs.RowEdit.{source_of, row_edited, none_edited, vertex_edited, Places, vertex_after}
use Rattle.pg_graph.specs.Grouped.{EditedRowsRise, RowRises}
use Rattle.pg_graph.specs.RowEdit.{placed, is_of, edits_of, adds_vertex, adds_edge, vertices_added, edges_added, HasRoom}
use Rattle.pg_graph.specs.Rows.{Rows, HasRisingIds, row_at, vertex_count, edge_count}
use Rattle.pg_graph_rows.specs.declared.row.Row.{Row}
use Rattle.pg_graph_rows.specs.declared.edit.Edit.{Edit}
use Rattle.pg_graph_rows.specs.declared.edit.Edit.TheVariants.{AddVertex, RemoveVertex, SetInput, AddEdge, SetEdge, RemoveEdge}
use Rattle.pg_graph_rows.specs.declared.edit.EditKind.{EditKind}
use Rattle.pg_graph_rows.specs.declared.edit.EditKind.TheVariants.{NoEdge}
use Rattle.pg_graph_rows.specs.declared.edit.EditFault.{EditFault}
use Rattle.pg_graph_rows.proofs.AtPlace.{cut_absent}
use Rattle.pg_graph.proofs.Batches.{after, first_edit, all_edited-nil, Err_not_Ok, Ok_not_Err, Err_same}
use Rattle.pg_graph.proofs.Drafting.{edges-with_row, edges-without_row}
use Rattle.pg_graph.proofs.Edited.{AddVertex-exists, AddVertex-ok, RemoveVertex-missing, SetInput-missing, AddEdge-missing, SetEdge-missing}
use Rattle.pg_graph.proofs.Edited.{RemoveEdge-missing, RemoveVertex-ok, SetInput-ok, AddEdge-exists, AddEdge-ok, SetEdge-none, SetEdge-ok}
use Rattle.pg_graph.proofs.Edited.{RemoveEdge-none, RemoveEdge-ok}

-- ---- one edit

-- what becomes of a graph by what becomes of one row
abbrev pub stepped : ℕ → Rows → Result (Option Row) EditKind → Result Rows EditKind
stepped id rows (Ok change) = Ok (with_change id change rows)
stepped id rows (Err kind) = Err kind

module _ (rows : Rows) where
  edited-none : (edit : Edit) → row_at (source_of edit) rows ≡ None → (adds_vertex edit ≡ true → vertex_count rows < vertex_limit)
      → edited rows edit ≡ stepped (source_of edit) rows (none_edited edit)
  edited-none (AddVertex id input) gone room = AddVertex-ok rows id input (ap is_some gone) (room refl)
  edited-none (RemoveVertex id) gone room = RemoveVertex-missing rows id gone
  edited-none (SetInput id input) gone room = SetInput-missing rows id gone input
  edited-none (AddEdge id target weight) gone room = AddEdge-missing rows id gone target weight
  edited-none (SetEdge id target weight) gone room = SetEdge-missing rows id gone target weight
  edited-none (RemoveEdge id target) gone room = RemoveEdge-missing rows id gone target

  edited-some : (edit : Edit) (row : Row) → row_at (source_of edit) rows ≡ Some row → (adds_edge edit ≡ true → edge_count rows < edge_limit)
      → edited rows edit ≡ stepped (source_of edit) rows (row_edited row edit)
  edited-some (AddVertex id input) row there room = AddVertex-exists rows id input (ap is_some there)
  edited-some (RemoveVertex id) row there room = RemoveVertex-ok rows id row there
  edited-some (SetInput id input) row there room = SetInput-ok rows id row there input
  edited-some (AddEdge id target weight) row there room = by (is_some (weight_at target row.edges)) refl
    where
      by : (b : Bool) → is_some (weight_at target row.edges) ≡ b
          → edited rows (AddEdge id target weight) ≡ stepped id rows (row_edited row (AddEdge id target weight))
      by true e = rw e (AddEdge-exists rows id row there target weight e)
      by false e = rw e (AddEdge-ok rows id row there target weight e (room refl))
  edited-some (SetEdge id target weight) row there room = by (is_some (weight_at target row.edges)) refl
    where
      by : (b : Bool) → is_some (weight_at target row.edges) ≡ b
          → edited rows (SetEdge id target weight) ≡ stepped id rows (row_edited row (SetEdge id target weight))
      by true e = rw e (SetEdge-ok rows id row there target weight e)
      by false e = rw e (SetEdge-none rows id row there target weight e)
  edited-some (RemoveEdge id target) row there room = by (is_some (weight_at target row.edges)) refl
    where
      by : (b : Bool) → is_some (weight_at target row.edges) ≡ b
          → edited rows (RemoveEdge id target) ≡ stepped id rows (row_edited row (RemoveEdge id target))
      by true e = rw e (RemoveEdge-ok rows id row there target e)
      by false e = rw e (RemoveEdge-none rows id row there target e)

  pub edited-vertex : (edit : Edit) → (adds_vertex edit ≡ true → vertex_count rows < vertex_limit) → (adds_edge edit ≡ true → edge_count rows < edge_limit)
      → edited rows edit ≡ stepped (source_of edit) rows (vertex_edited (row_at (source_of edit) rows) edit)
  edited-vertex edit vertices edges = by (row_at (source_of edit) rows) refl
    where
      by : (o : Option Row) → row_at (source_of edit) rows ≡ o
          → edited rows edit ≡ stepped (source_of edit) rows (vertex_edited (row_at (source_of edit) rows) edit)
      by None e = edited-none edit e vertices ∙ sym (ap (λ r. stepped (source_of edit) rows (vertex_edited r edit)) e)
      by (Some row) e = edited-some edit row e edges ∙ sym (ap (λ r. stepped (source_of edit) rows (vertex_edited r edit)) e)

-- ---- how many vertices and edges there are then

-- how many vertices a row is
abbrev ones : Option Row → ℕ
ones None = 0
ones (Some row) = 1

module _ (rows : Rows) (rising : HasRisingIds rows) (id : ℕ) where
  pub vertices-change : (change : Option Row) → vertex_count (with_change id change rows) + ones (row_at id rows) ≡ vertex_count rows + ones change
  vertices-change change = by change (row_at id rows) refl
    where
      gone : row_at id rows ≡ None → vertex_count (with_change id None rows) ≡ vertex_count rows
      gone e = ap vertex_count (cut_absent rows id e)

      by : (c o : Option Row) → row_at id rows ≡ o → vertex_count (with_change id c rows) + ones (row_at id rows) ≡ vertex_count rows + ones c
      by None None e = omega (arith, gone e, ap ones e)
      by None (Some row) e = omega (arith, length-remove_present rows id row e, ap ones e)
      by (Some new) None e = omega (arith, length-insert_absent rows id new e, ap ones e)
      by (Some new) (Some row) e = omega (arith, length-insert_present rows id row new rising e, ap ones e)

  pub edges-change : (change : Option Row) → edge_count (with_change id change rows) + degree_of (row_at id rows) ≡ edge_count rows + degree_of change
  edges-change None = omega (arith, edges-without_row rows id)
  edges-change (Some row) = edges-with_row rows id row rising

-- an edit adds one at most
length-put : (edges : EdgeList) (target : ℕ) (weight : ℤ) → length (with_edge target weight edges) ≤ length edges + 1
length-put [] target weight = omega arith
length-put (e ∷ edges) target weight = by (nat_cmp target e.0) (length-put edges target weight)
  where
    by : (r : Ordering) → length (with_edge target weight edges) ≤ length edges + 1
        → length (match_ordering r ((target, weight) ∷ e ∷ edges) ((e.0, weight) ∷ edges) (e ∷ with_edge target weight edges)) ≤ length (e ∷ edges) + 1
    by Less later = omega arith
    by Equal later = omega arith
    by Greater later = omega (arith, later)

length-cut : (edges : EdgeList) (target : ℕ) → length (without_edge target edges) ≤ length edges
length-cut [] target = omega arith
length-cut (e ∷ edges) target = by (is_at (nat_cmp target) e.0) (length-cut edges target)
  where
    by : (b : Bool) → length (without_edge target edges) ≤ length edges → length (cond b edges (e ∷ without_edge target edges)) ≤ length (e ∷ edges)
    by true later = omega arith
    by false later = omega (arith, later)

Ok_same : {X E : Type 0} {x y : X} → ◌≡◌ {A = Result X E} (Ok x) (Ok y) → x ≡ y
Ok_same h = cc

-- what holds of the result that there may be
of_put : (P : Option Row → Type 0) (b : Bool) (kind : EditKind) (x change : Option Row)
    → ◌≡◌ {A = Result (Option Row) EditKind} (cond b (Ok x) (Err kind)) (Ok change) → P x → P change
of_put P true kind x change made here = subst P (Ok_same made) here
of_put P false kind x change made here = absurd (Err_not_Ok made)

of_new : (P : Option Row → Type 0) (b : Bool) (kind : EditKind) (x change : Option Row)
    → ◌≡◌ {A = Result (Option Row) EditKind} (cond b (Err kind) (Ok x)) (Ok change) → P x → P change
of_new P true kind x change made here = absurd (Err_not_Ok made)
of_new P false kind x change made here = subst P (Ok_same made) here

ones-le : (row : Option Row) → ones row ≤ 1
ones-le None = omega arith
ones-le (Some row) = omega arith

-- one where it is such an edit
abbrev one_if : Bool → ℕ
one_if b = cond b 1 0

-- a vertex more only where the edit adds one
few_vertices : (row : Option Row) (edit : Edit) (change : Option Row) → vertex_edited row edit ≡ Ok change → ones change ≤ ones row + one_if (adds_vertex edit)
few_vertices None (AddVertex id input) change made = ones-le change
few_vertices None (RemoveVertex id) change made = absurd (Err_not_Ok made)
few_vertices None (SetInput id input) change made = absurd (Err_not_Ok made)
few_vertices None (AddEdge id target weight) change made = absurd (Err_not_Ok made)
few_vertices None (SetEdge id target weight) change made = absurd (Err_not_Ok made)
few_vertices None (RemoveEdge id target) change made = absurd (Err_not_Ok made)
few_vertices (Some row) edit change made = omega (arith, ones-le change)

module _ (n : ℕ) where
  -- so many edges at most
  abbrev FewEdges : Option Row → Type 0
  FewEdges change = degree_of change ≤ n

  few_none : (edit : Edit) (change : Option Row) → none_edited edit ≡ Ok change → FewEdges change
  few_none (AddVertex id input) change made = subst FewEdges (Ok_same made) (omega arith)
  few_none (RemoveVertex id) change made = absurd (Err_not_Ok made)
  few_none (SetInput id input) change made = absurd (Err_not_Ok made)
  few_none (AddEdge id target weight) change made = absurd (Err_not_Ok made)
  few_none (SetEdge id target weight) change made = absurd (Err_not_Ok made)
  few_none (RemoveEdge id target) change made = absurd (Err_not_Ok made)

  -- where edges rise, a weight is set in its place
  few_set : (row : Row) (target : ℕ) (weight : ℤ) (change : Option Row) (there : Option ℤ) → weight_at target row.edges ≡ there → IsRising row.edges
      → length row.edges ≤ n
      → cond (is_some there) (Ok (Some (record row { edges = with_edge target weight row.edges }))) (Err NoEdge) ≡ Ok change → FewEdges change
  few_set row target weight change None here rising room made = absurd (Err_not_Ok made)
  few_set row target weight change (Some old) here rising room made =
      subst FewEdges (Ok_same made) (omega (arith, room, length-insert_present row.edges target old weight rising here))

  few_some : (row : Row) (edit : Edit) (change : Option Row) → IsRising row.edges → length row.edges + one_if (adds_edge edit) ≤ n
      → row_edited row edit ≡ Ok change → FewEdges change
  few_some row (AddVertex id input) change rising room made = absurd (Err_not_Ok made)
  few_some row (RemoveVertex id) change rising room made = subst FewEdges (Ok_same made) (omega arith)
  few_some row (SetInput id input) change rising room made = subst FewEdges (Ok_same made) (omega (arith, room))
  few_some row (AddEdge id target weight) change rising room made =
      of_new FewEdges _ _ _ change made (omega (arith, room, length-put row.edges target weight))
  few_some row (SetEdge id target weight) change rising room made =
      few_set row target weight change (weight_at target row.edges) refl rising (omega (arith, room)) made
  few_some row (RemoveEdge id target) change rising room made = of_put FewEdges _ _ _ change made (omega (arith, room, length-cut row.edges target))

-- an edge more only where the edit adds one
few_edges : (row : Option Row) (edit : Edit) (change : Option Row) → RowRises row → vertex_edited row edit ≡ Ok change
    → degree_of change ≤ degree_of row + one_if (adds_edge edit)
few_edges None edit change rises made = few_none (degree_of None + one_if (adds_edge edit)) edit change made
few_edges (Some row) edit change rises made = few_some (length row.edges + one_if (adds_edge edit)) row edit change rises (omega arith) made

-- the edges of a row rise still
none_rise : IsRising []
unfolding IsStrictlySortedBy
none_rise = tt

row_rises : (row : Option Row) (edit : Edit) (change : Option Row) → RowRises row → vertex_edited row edit ≡ Ok change → RowRises change
row_rises None (AddVertex id input) change rises made = subst RowRises (Ok_same made) none_rise
row_rises None (RemoveVertex id) change rises made = absurd (Err_not_Ok made)
row_rises None (SetInput id input) change rises made = absurd (Err_not_Ok made)
row_rises None (AddEdge id target weight) change rises made = absurd (Err_not_Ok made)
row_rises None (SetEdge id target weight) change rises made = absurd (Err_not_Ok made)
row_rises None (RemoveEdge id target) change rises made = absurd (Err_not_Ok made)
row_rises (Some row) (AddVertex id input) change rises made = absurd (Err_not_Ok made)
row_rises (Some row) (RemoveVertex id) change rises made = subst RowRises (Ok_same made) tt
row_rises (Some row) (SetInput id input) change rises made = subst RowRises (Ok_same made) rises
row_rises (Some row) (AddEdge id target weight) change rises made = of_new RowRises _ _ _ change made (rises-insert row.edges target weight rises)
row_rises (Some row) (SetEdge id target weight) change rises made = of_put RowRises _ _ _ change made (rises-insert row.edges target weight rises)
row_rises (Some row) (RemoveEdge id target) change rises made = of_put RowRises _ _ _ change made (rises-remove target row.edges rises)

-- after an edit there is room for the others
room-step : (rows : Rows) (edit : Edit) (change : Option Row) (edits : List Edit) → HasRisingIds rows → RowRises (row_at (source_of edit) rows)
    → vertex_edited (row_at (source_of edit) rows) edit ≡ Ok change
    → HasRoom (vertex_count rows) (edge_count rows) (vertices_added (edit ∷ edits)) (edges_added (edit ∷ edits))
    → HasRoom (vertex_count (with_change (source_of edit) change rows)) (edge_count (with_change (source_of edit) change rows))
    (vertices_added edits) (edges_added edits)
room-step rows edit change edits rising rises made room =
    let row = row_at (source_of edit) rows in
    record {
      vertices_fit = omega (
        arith,
        room.vertices_fit,
        sum_by-cons (λ e. one_if (adds_vertex e)) edit edits,
        vertices-change rows rising (source_of edit) change,
        few_vertices row edit change made,
      );
      edges_fit = omega (
        arith,
        room.edges_fit,
        sum_by-cons (λ e. one_if (adds_edge e)) edit edits,
        edges-change rows rising (source_of edit) change,
        few_edges row edit change rises made,
      );
    }

-- ---- all edits, seen from one vertex

pub of_same : (id position : ℕ) (edit : Edit) (edits : Places) → id ≡ source_of edit
    → edits_of id ((position, edit) ∷ edits) ≡ (position, edit) ∷ edits_of id edits
of_same id position edit edits same = let here : eqb id (source_of edit) ≡ true = grind (arith, nat_tests) in
    ap (λ b. cond b ((position, edit) ∷ edits_of id edits) (edits_of id edits)) here

pub of_other : (id position : ℕ) (edit : Edit) (edits : Places) → (id ≡ source_of edit → ⊥) → edits_of id ((position, edit) ∷ edits) ≡ edits_of id edits
of_other id position edit edits apart = let here : eqb id (source_of edit) ≡ false = grind (arith, nat_tests) in
    ap (λ b. cond b ((position, edit) ∷ edits_of id edits) (edits_of id edits)) here

-- what comes of the first edit decides
abbrev then_after : ℕ → Places → Result (Option Row) EditKind → Result (Option Row) EditFault
then_after position edits made = elim made [ Ok changed ↦ vertex_after changed edits | Err kind ↦ Err (record { position = position; kind = kind }) ]

-- one more edit of the graph is one of its vertex
step_seen : (rows : Rows) (position : ℕ) (edit : Edit) (edits : Places) (change : Option Row) (q : ℕ) → HasRisingIds rows
    → vertex_edited (row_at (source_of edit) rows) edit ≡ Ok change
    → vertex_after (row_at q rows) (edits_of q ((position, edit) ∷ edits)) ≡ vertex_after (row_at q (with_change (source_of edit) change rows))
    (edits_of q edits)
step_seen rows position edit edits change q rising made =
    ⊎_elim
    (λ (e : q ≡ source_of edit).
    ap (vertex_after (row_at q rows)) (of_same q position edit edits e)
    ∙ ap (λ k. then_after position (edits_of q edits) (vertex_edited (row_at k rows) edit)) e
    ∙ ap (then_after position (edits_of q edits)) made
    ∙ sym (ap (λ r. vertex_after r (edits_of q edits))
    (ap (λ k. row_at k (with_change (source_of edit) change rows)) e ∙ change_same (source_of edit) change rows rising)))
    (λ (n : q ≡ source_of edit → ⊥).
    ap (vertex_after (row_at q rows)) (of_other q position edit edits n)
    ∙ sym (ap (λ r. vertex_after r (edits_of q edits)) (change_other (source_of edit) change rows q n)))
    (cases_eq q (source_of edit))

-- the row of the first edit rises
first_rises : (rows : Rows) (position : ℕ) (edit : Edit) (edits : Places) → EditedRowsRise rows ((position, edit) ∷ edits)
    → RowRises (row_at (source_of edit) rows)
first_rises rows position edit edits rise =
    ⊎_elim
    (λ (none : edits_of (source_of edit) ((position, edit) ∷ edits) ≡ []).
    absurd (let h : (position, edit) ∷ edits_of (source_of edit) edits ≡ [] = sym (of_same (source_of edit) position edit edits refl) ∙ none in cc))
    (λ (rises : RowRises (row_at (source_of edit) rows)). rises)
    (rise (source_of edit))

-- and those of the others still do once it is made
next_rise : (rows : Rows) (position : ℕ) (edit : Edit) (edits : Places) (change : Option Row) → HasRisingIds rows → RowRises change
    → EditedRowsRise rows ((position, edit) ∷ edits) → EditedRowsRise (with_change (source_of edit) change rows) edits
next_rise rows position edit edits change rising rises rise q =
    let rows' = with_change (source_of edit) change rows in
    ⊎_elim
    (λ (e : q ≡ source_of edit). inr (subst RowRises (sym (ap (λ k. row_at k rows') e ∙ change_same (source_of edit) change rows rising)) rises))
    (λ (n : q ≡ source_of edit → ⊥).
    ⊎_elim
    (λ (none : edits_of q ((position, edit) ∷ edits) ≡ []). inl (sym (of_other q position edit edits n) ∙ none))
    (λ (rises : RowRises (row_at q rows)). inr (subst RowRises (sym (change_other (source_of edit) change rows q n)) rises))
    (rise q))
    (cases_eq q (source_of edit))

-- a fault is at a place of the edits
abbrev AllFrom : ℕ → Places → Type 0
AllFrom m edits = AllByRecursion (λ e. m ≤ e.0) edits

all_from-weaker : (m n : ℕ) (edits : Places) → m ≤ n → AllFrom n edits → AllFrom m edits
all_from-weaker m n [] h all = tt
all_from-weaker m n (e ∷ edits) h all = (omega (arith, h, all.0), all_from-weaker m n edits h all.1)

all_from-of : (m q : ℕ) (edits : Places) → AllFrom m edits → AllFrom m (edits_of q edits)
all_from-of m q [] all = tt
all_from-of m q (e ∷ edits) all = by (is_of q e) (all_from-of m q edits all.1)
  where
    by : (b : Bool) → AllFrom m (edits_of q edits) → AllFrom m (cond b (e ∷ edits_of q edits) (edits_of q edits))
    by true later = (all.0, later)
    by false later = later

all_from-placed : (m : ℕ) (edits : List Edit) → AllFrom m (placed m edits)
all_from-placed m [] = tt
all_from-placed m (e ∷ edits) = (omega arith, all_from-weaker m (m + 1) (placed (m + 1) edits) (omega arith) (all_from-placed (m + 1) edits))

fault_from : (m : ℕ) (row : Option Row) (edits : Places) (fault : EditFault) → AllFrom m edits → vertex_after row edits ≡ Err fault → m ≤ fault.position
fault_from m row [] fault all why = absurd (Ok_not_Err why)
fault_from m row (e ∷ edits) fault all why = by (vertex_edited row e.1) why (λ changed. fault_from m changed edits fault all.1)
  where
    by : (r : Result (Option Row) EditKind) → then_after e.0 edits r ≡ Err fault
        → ((changed : Option Row) → vertex_after changed edits ≡ Err fault → m ≤ fault.position) → m ≤ fault.position
    by (Ok changed) f later = later changed f
    by (Err kind) f later = subst (λ g. m ≤ g.position) (Err_same f) all.0

-- two vertices have no faults, whatever their rows
abbrev AreApart : ℕ → ℕ → Places → EditFault → EditFault → Type 0
AreApart q q' edits f f' = (r r' : Option Row) → vertex_after r (edits_of q edits) ≡ Err f → vertex_after r' (edits_of q' edits) ≡ Err f' → ⊥

-- two vertices don't have faults at one place
pub faults_apart : (p q q' : ℕ) (edits : List Edit) (row row' : Option Row) (f f' : EditFault) → (q ≡ q' → ⊥)
    → vertex_after row (edits_of q (placed p edits)) ≡ Err f → vertex_after row' (edits_of q' (placed p edits)) ≡ Err f' → f.position ≡ f'.position → ⊥
faults_apart p q q' [] row row' f f' apart why why' same = Ok_not_Err why
faults_apart p q q' (e ∷ edits) row row' f f' apart why why' same =
    by (λ r r' w w'. faults_apart (p + 1) q q' edits r r' f f' apart w w' same) (cases_eq q (source_of e)) (cases_eq q' (source_of e))
  where
    past : (k : ℕ) (r : Option Row) (g : EditFault) → vertex_after r (edits_of k (placed (p + 1) edits)) ≡ Err g → p + 1 ≤ g.position
    past k r g w = fault_from (p + 1) r (edits_of k (placed (p + 1) edits)) g (all_from-of (p + 1) k (placed (p + 1) edits) (all_from-placed (p + 1) edits)) w

    here : AreApart q q' (placed (p + 1) edits) f f' → (r' : Option Row) → vertex_after r' (edits_of q' (placed (p + 1) edits)) ≡ Err f'
        → (r : Result (Option Row) EditKind) → then_after p (edits_of q (placed (p + 1) edits)) r ≡ Err f → ⊥
    here later r' w' (Ok changed) w = later changed r' w w'
    here later r' w' (Err kind) w = omega (arith, ap (λ g. g.position) (Err_same w), past q' r' f' w', same)

    there : AreApart q q' (placed (p + 1) edits) f f' → (r : Option Row) → vertex_after r (edits_of q (placed (p + 1) edits)) ≡ Err f
        → (r' : Result (Option Row) EditKind) → then_after p (edits_of q' (placed (p + 1) edits)) r' ≡ Err f' → ⊥
    there later r w (Ok changed) w' = later r changed w w'
    there later r w (Err kind) w' = omega (arith, ap (λ g. g.position) (Err_same w'), past q r f w, same)

    by : AreApart q q' (placed (p + 1) edits) f f' → (q ≡ source_of e) ⊎ (q ≡ source_of e → ⊥) → (q' ≡ source_of e) ⊎ (q' ≡ source_of e → ⊥) → ⊥
    by later (inl a) (inl b) = apart (a ∙ sym b)
    by later (inl a) (inr b) =
        here later row' (sym (ap (vertex_after row') (of_other q' p e (placed (p + 1) edits) b)) ∙ why') (vertex_edited row e)
        (sym (ap (vertex_after row) (of_same q p e (placed (p + 1) edits) a)) ∙ why)
    by later (inr a) (inl b) =
        there later row (sym (ap (vertex_after row) (of_other q p e (placed (p + 1) edits) a)) ∙ why) (vertex_edited row' e)
        (sym (ap (vertex_after row') (of_same q' p e (placed (p + 1) edits) b)) ∙ why')
    by later (inr a) (inr b) =
        later row row' (sym (ap (vertex_after row) (of_other q p e (placed (p + 1) edits) a)) ∙ why)
        (sym (ap (vertex_after row') (of_other q' p e (placed (p + 1) edits) b)) ∙ why')

-- ---- the law

-- the graph that edits make has, for each vertex, what its own edits make of its row; and the first fault of all is that of a vertex, and the first of any
pub record MakesRows (p : ℕ) (rows : Rows) (edits : List Edit) (now : Rows) : Type 0 where
  pub seen : (q : ℕ) → vertex_after (row_at q rows) (edits_of q (placed p edits)) ≡ Ok (row_at q now)
  pub rise : HasRisingIds now
  pub room : HasRoom (vertex_count now) (edge_count now) 0 0

pub record IsFirstFault (p : ℕ) (rows : Rows) (edits : List Edit) (fault : EditFault) : Type 0 where
  pub vertex : ℕ
  pub there : vertex_after (row_at vertex rows) (edits_of vertex (placed p edits)) ≡ Err fault
  pub first : (q : ℕ) (other : EditFault) → vertex_after (row_at q rows) (edits_of q (placed p edits)) ≡ Err other → fault.position ≤ other.position

abbrev pub IsByRows : ℕ → Rows → List Edit → Result Rows EditFault → Type 0
IsByRows p rows edits made = MatchResult made (MakesRows p rows edits) (IsFirstFault p rows edits)

module _ (p : ℕ) (rows : Rows) (edit : Edit) (edits : List Edit) (rising : HasRisingIds rows) where
  further : (change : Option Row) → vertex_edited (row_at (source_of edit) rows) edit ≡ Ok change → (r : Result Rows EditFault)
      → IsByRows (p + 1) (with_change (source_of edit) change rows) edits r → IsByRows p rows (edit ∷ edits) r
  further change made (Ok now) later = record {
    seen = λ q. step_seen rows p edit (placed (p + 1) edits) change q rising made ∙ later.seen q;
    rise = later.rise;
    room = later.room;
  }
  further change made (Err fault) later = record {
    vertex = later.vertex;
    there = step_seen rows p edit (placed (p + 1) edits) change later.vertex rising made ∙ later.there;
    first = λ q other why. later.first q other (sym (step_seen rows p edit (placed (p + 1) edits) change q rising made) ∙ why);
  }

  refused_here : (kind : EditKind) → vertex_edited (row_at (source_of edit) rows) edit ≡ Err kind
      → IsFirstFault p rows (edit ∷ edits) (record { position = p; kind = kind })
  refused_here kind why = record {
    vertex = source_of edit;
    there = ap (vertex_after (row_at (source_of edit) rows)) (of_same (source_of edit) p edit (placed (p + 1) edits) refl)
        ∙ ap (then_after p (edits_of (source_of edit) (placed (p + 1) edits))) why;
    first = λ q other w. fault_from p (row_at q rows) (edits_of q (placed p (edit ∷ edits))) other
        (all_from-of p q (placed p (edit ∷ edits)) (all_from-placed p (edit ∷ edits))) w;
  }

pub batch_by_rows : (p : ℕ) (rows : Rows) (edits : List Edit) → HasRisingIds rows → EditedRowsRise rows (placed p edits)
    → HasRoom (vertex_count rows) (edge_count rows) (vertices_added edits) (edges_added edits) → IsByRows p rows edits (all_edited p rows edits)
batch_by_rows p rows [] rising rise room = subst (IsByRows p rows []) (sym (all_edited-nil p rows)) (record { seen = λ q. refl; rise = rising; room = room })
batch_by_rows p rows (edit ∷ edits) rising rise room =
    subst (IsByRows p rows (edit ∷ edits))
    (sym (first_edit p rows edit edits
    ∙ ap (after p rows edits)
    (edited-vertex rows edit
    (λ adds. omega (arith, room.vertices_fit, sum_by-cons (λ e. one_if (adds_vertex e)) edit edits, ap one_if adds))
    (λ adds. omega (arith, room.edges_fit, sum_by-cons (λ e. one_if (adds_edge e)) edit edits, ap one_if adds)))))
    (by (vertex_edited (row_at (source_of edit) rows) edit) refl (λ rows' rising' rise' room'. batch_by_rows (p + 1) rows' edits rising' rise' room'))
  where
    by : (r : Result (Option Row) EditKind) → vertex_edited (row_at (source_of edit) rows) edit ≡ r
        → ((rows' : Rows) → HasRisingIds rows' → EditedRowsRise rows' (placed (p + 1) edits)
        → HasRoom (vertex_count rows') (edge_count rows') (vertices_added edits) (edges_added edits)
        → IsByRows (p + 1) rows' edits (all_edited (p + 1) rows' edits))
        → IsByRows p rows (edit ∷ edits) (after p rows edits (stepped (source_of edit) rows r))
    by (Ok change) e later =
        let rows' = with_change (source_of edit) change rows in
        let rises = first_rises rows p edit (placed (p + 1) edits) rise in
        further p rows edit edits rising change e (all_edited (p + 1) rows' edits)
        (later rows' (rises-change (source_of edit) change rows rising)
        (next_rise rows p edit (placed (p + 1) edits) change rising (row_rises (row_at (source_of edit) rows) edit change rises e) rise)
        (room-step rows edit change edits rising rises e room))
    by (Err kind) e later = refused_here p rows edit edits rising kind e
