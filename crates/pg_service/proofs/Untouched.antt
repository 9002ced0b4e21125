-- A batch leaves the row of each vertex that none of its edits names.
use Rattle.std.proofs.Common.{◌≡◌, ℕ, ◌+◌, Bool, true, false, cond, ◌||◌, ◌==◌, List, [], ◌∷◌, ◌++◌, Option}
use Rattle.std.proofs.Common.{None, Some, is_some, Result, Ok, Err, refl, sym, ap, ◌∙◌, subst, true≢false}
use Rattle.std.proofs.lemmas.Bool.{eq-eqb}
use Rattle.pg_graph.specs.Handed.{weight_at, with_edge, without_edge, source_of, Row, Edit}
use Rattle.pg_graph.specs.Edit.{all_edited, batch_edited, edited}
use Rattle.pg_graph.specs.Rows.{Rows, row_at, with_row, without_row}
use Rattle.pg_graph.specs.Handed.{AddVertex, RemoveVertex, SetInput, AddEdge, SetEdge, RemoveEdge, EditFault, EditKind}
use Rattle.pg_graph.specs.Handed.{EdgeExists, Full, NoEdge, NoVertex, VertexExists}
use Rattle.pg_graph.proofs.Batches.{Err_not_Ok}
use Rattle.pg_map.proofs.Changing.{change_other}
use Rattle.pg_workers.specs.Handed.{AreTouched, IsRetainedBy, Traces}
use Rattle.pg_model.specs.Superstep.{has_id}
use Rattle.pg_model.specs.Job.{Job}
use Rattle.pg_service.specs.Kept.{IsKept, KeptRun, sources}

pub Ok_same : {X E : Type 0} {x y : X} → ◌≡◌ {A = Result X E} (Ok x) (Ok y) → x ≡ y
Ok_same h = cc

-- what a test lets through
passed : {X E : Type 0} (b : Bool) (fault : E) (r : Result X E) (made : X) → cond b (Err fault) r ≡ Ok made → r ≡ Ok made
passed true fault r made h = absurd (Err_not_Ok h)
passed false fault r made h = h

pub allowed : {X E : Type 0} (b : Bool) (fault : E) (r : Result X E) (made : X) → cond b r (Err fault) ≡ Ok made → r ≡ Ok made
allowed true fault r made h = h
allowed false fault r made h = absurd (Err_not_Ok h)

module _ (q : ℕ) where
  abbrev SameRow : Rows → Rows → Type 0
  SameRow rows made = row_at q rows ≡ row_at q made

  module _ (rows made : Rows) (id : ℕ) (apart : q ≡ id → ⊥) where
    put : (row : Row) → ◌≡◌ {A = Result Rows EditKind} (Ok (with_row id row rows)) (Ok made) → SameRow rows made
    put row h = sym (change_other id (Some row) rows q apart) ∙ ap (row_at q) (Ok_same h)

    cut : ◌≡◌ {A = Result Rows EditKind} (Ok (without_row id rows)) (Ok made) → SameRow rows made
    cut h = sym (change_other id None rows q apart) ∙ ap (row_at q) (Ok_same h)

    put_changed : (r : Result Row EditKind)
        → ◌≡◌ {A = Result Rows EditKind} (elim r [ Ok changed ↦ Ok (with_row id changed rows) | Err kind ↦ Err kind ]) (Ok made) → SameRow rows made
    put_changed (Ok changed) h = put changed h
    put_changed (Err kind) h = absurd (Err_not_Ok h)

    put_there : (change : Row → Result Row EditKind) (o : Option Row)
        → ◌≡◌ {A = Result Rows EditKind} (elim o [
          | None ↦ Err NoVertex
          | Some row ↦ elim (change row) [ Ok changed ↦ Ok (with_row id changed rows) | Err kind ↦ Err kind ]
        ]) (Ok made) → SameRow rows made
    put_there change None h = absurd (Err_not_Ok h)
    put_there change (Some row) h = put_changed (change row) h

  one_edit : (rows made : Rows) (edit : Edit) → (q ≡ source_of edit → ⊥) → edited rows edit ≡ Ok made → SameRow rows made
  unfolding edited
  one_edit rows made (AddVertex id input) apart h =
      put rows made id apart (record { input = input; edges = [] }) (passed _ Full _ made (passed _ VertexExists _ made h))
  one_edit rows made (RemoveVertex id) apart h = cut rows made id apart (allowed _ NoVertex _ made h)
  one_edit rows made (SetInput id input) apart h = put_there rows made id apart (λ row. Ok (record row { input = input })) (row_at id rows) h
  one_edit rows made (AddEdge id target weight) apart h =
      put_there rows made id apart (λ row. cond (is_some (weight_at target row.edges)) (Err EdgeExists)
      (cond _ (Err Full) (Ok (record row { edges = with_edge target weight row.edges })))) (row_at id rows) h
  one_edit rows made (SetEdge id target weight) apart h =
      put_there rows made id apart
      (λ row. cond (is_some (weight_at target row.edges)) (Ok (record row { edges = with_edge target weight row.edges })) (Err NoEdge))
      (row_at id rows) h
  one_edit rows made (RemoveEdge id target) apart h =
      put_there rows made id apart
      (λ row. cond (is_some (weight_at target row.edges)) (Ok (record row { edges = without_edge target row.edges })) (Err NoEdge))
      (row_at id rows) h

  neither : (b c : Bool) → (b || c) ≡ false → (b ≡ false) × (c ≡ false)
  neither true c h = absurd (true≢false h)
  neither false c h = (refl, h)

  all_edits : (position : ℕ) (edits : List Edit) (rows made : Rows) → has_id (sources edits) q ≡ false
      → all_edited position rows edits ≡ Ok made → SameRow rows made
  unfolding all_edited
  all_edits position [] rows made out h = ap (row_at q) (Ok_same h)
  all_edits position (edit ∷ edits) rows made out h =
      by (edited rows edit) refl h (λ changed. all_edits (position + 1) edits changed made (neither (source_of edit == q) (has_id (sources edits) q) out).1)
    where
      apart : q ≡ source_of edit → ⊥
      apart same = true≢false (sym (eq-eqb (source_of edit) q (sym same)) ∙ (neither (source_of edit == q) (has_id (sources edits) q) out).0)

      by : (r : Result Rows EditKind) → edited rows edit ≡ r
          → ◌≡◌ {A = Result Rows EditFault} (elim r [
            | Ok changed ↦ all_edited (position + 1) changed edits
            | Err kind ↦ Err (record {
              position = position;
              kind = kind;
            })
          ]) (Ok made)
          → ((changed : Rows) → all_edited (position + 1) changed edits ≡ Ok made → SameRow changed made)
          → SameRow rows made
      by (Ok changed) is h later = one_edit rows changed edit apart is ∙ later changed h
      by (Err kind) is h later = absurd (Err_not_Ok h)

-- outside of the vertices that its edits name the graph stays as it was
pub batch_touches : (edits : List Edit) (rows made : Rows) → batch_edited rows edits ≡ Ok made → AreTouched (sources edits) rows made
unfolding batch_edited
batch_touches edits rows made h q out = all_edits q 1 edits rows made out (passed _ _ _ made h)

-- a list has all that it begins with, and all that it goes on with
front_and_rest : (before rest : List ℕ) (q : ℕ) → has_id (before ++ rest) q ≡ false → (has_id before q ≡ false) × (has_id rest q ≡ false)
front_and_rest [] rest q h = (refl, h)
front_and_rest (id ∷ before) rest q h =
    let here = neither q (id == q) (has_id (before ++ rest) q) h in
    let later = front_and_rest before rest q here.1 in
    (rw (here.0, later.0) refl, later.1)

module _ {V M : Type 0} (job : Job V M) (n : ℕ) (graph : Rows) (kept new : KeptRun V M) (rest : List ℕ) (traces : new.traces ≡ kept.traces)
    (ids : new.touched ≡ kept.touched ++ rest) (is : IsKept job n graph kept) where
  -- with more ids noted a run is kept as well
  pub kept_with_more : IsKept job n graph new
  kept_with_more = record {
    retained = subst (λ (t : Traces V M). IsRetainedBy job t.graph n t) (sym traces) is.retained;
    untouched = λ q out.
        let apart = front_and_rest kept.touched rest q (ap (λ (i : List ℕ). has_id i q) (sym ids) ∙ out) in
        ap (λ (t : Traces V M). row_at q t.graph) traces ∙ is.untouched q apart.0;
  }

  -- and with those of a batch also against the graph that it makes
  pub kept_past_batch : (edits : List Edit) (made : Rows) → rest ≡ sources edits → batch_edited graph edits ≡ Ok made → IsKept job n made new
  kept_past_batch edits made all h = record {
    retained = kept_with_more.retained;
    untouched = λ q out.
        let apart = front_and_rest kept.touched rest q (ap (λ (i : List ℕ). has_id i q) (sym ids) ∙ out) in
        kept_with_more.untouched q out ∙ batch_touches edits graph made h q (ap (λ (i : List ℕ). has_id i q) (sym all) ∙ apart.1);
  }
