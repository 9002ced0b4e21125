-- A row whose edges are the last ones of a list: where an edge is among them, and what edits make of it.
use Rattle.std.proofs.Common.{◌≡◌, ℕ, ℤ, ◌+◌, ◌-◌, ◌<◌, ◌≤◌, true, false, cond, List, [], ◌∷◌, ◌++◌, length, drop, get_or, take, set, Option, Some, None, is_some}
use Rattle.std.proofs.Common.{Result, Ok, Err, refl, sym, ap, ◌∙◌, append_assoc, subst, arith}
use Rattle.std.specs.List.{insert, remove}
use Rattle.std.specs.List.Sorted.{IsStrictlySortedBy}
use Rattle.std.specs.Result.{OnErr}
use Rattle.std.proofs.Math.Seq.{take-append_seam}
use Rattle.std.proofs.lemmas.List.{append-nil, drop_all, length-append, set-append_right}
use Rattle.std.proofs.lemmas.List.Edits.{insert-append_right, remove-append_right}
use Rattle.pg_graph_rows.proofs.SideBySide.{changes_push, parts_push}
use Rattle.pg_graph_rows.specs.ChangedRows.{RowChanges, changes_of, degree_of}
use Rattle.pg_graph_rows.specs.EdgeList.{EdgeList, IsRising, weight_at, with_edge, without_edge}
use Rattle.pg_graph_rows.specs.LastRow.{EditedBehind, IsGapBehind, IsPlaceBehind, LiesBehind, row_with}
use Rattle.pg_graph_rows.specs.Packing.{AreParts}
use Rattle.pg_graph_rows.specs.Places.{IsGapFor, IsPlaceOf}
use Rattle.pg_graph_rows.specs.RowEdit.{Places, vertex_after, vertex_edited}
use Rattle.pg_graph_rows.specs.declared.edit.Edit.{Edit}
use Rattle.pg_graph_rows.specs.declared.edit.Edit.TheVariants.{AddVertex, RemoveVertex, SetInput, AddEdge, SetEdge, RemoveEdge}
use Rattle.pg_graph_rows.specs.declared.edit.EditFault.{EditFault}
use Rattle.pg_graph_rows.specs.declared.edit.EditKind.{EditKind}
use Rattle.pg_graph_rows.specs.declared.edit.EditKind.TheVariants.{EdgeExists, NoEdge}
use Rattle.pg_graph_rows.specs.declared.packing.Waiting.{Waiting}
use Rattle.pg_graph_rows.specs.declared.row.Row.{Row}
use Rattle.pg_map.proofs.Moved.{first_of_rest}
use Rattle.pg_map.proofs.Rising.{rises-insert, rises-remove}

none_rise : IsRising []
unfolding IsStrictlySortedBy
none_rise = tt

-- ---- places behind other edges
module _ (target : ℕ) (front last : EdgeList) (first place : ℕ) (long : length front ≡ first) where
  back : (first + place) - first ≡ place
  back = omega arith

  pub place_behind : IsPlaceOf target last place → IsPlaceBehind target front last (first + place)
  place_behind here = record {
    there = here.there;
    written = λ weight. set-append_right front last first (first + place) (target, weight) long (omega arith)
        ∙ ap (λ i. front ++ set last i (target, weight)) back
        ∙ ap (λ l. front ++ l) (here.written weight);
    removed = remove-append_right front last first (first + place) long (omega arith)
        ∙ ap (λ i. front ++ remove last i) back
        ∙ ap (λ l. front ++ l) here.removed;
  }

  pub gap_behind : IsGapFor target last place → IsGapBehind target front last (first + place)
  gap_behind here = record {
    absent = ap is_some here.absent;
    unchanged = here.unchanged;
    inserted = λ weight. insert-append_right front last first (first + place) (target, weight) long (omega arith)
        ∙ ap (λ i. front ++ insert last i (target, weight)) back
        ∙ ap (λ l. front ++ l) (here.inserted weight);
  }

-- ---- edits of a row that is there
module _ (front : EdgeList) (row : Option Row) (input : ℤ) (list : EdgeList) (lies : LiesBehind front row (Some input) list) where
  abbrev pub held : EdgeList
  held = lies.last

  abbrev pub put : ℕ → ℤ → Row
  put target weight = record { input = input; edges = with_edge target weight held }

  abbrev pub cut : ℕ → Row
  cut target = record { input = input; edges = without_edge target held }

  edited : (edit : Edit) {made : Result (Option Row) EditKind} → vertex_edited (row_with (Some input) held) edit ≡ made → vertex_edited row edit ≡ made
  edited edit is = ap (λ r. vertex_edited r edit) lies.is ∙ is

  -- with other edges by rising target
  behind : (edges after : EdgeList) → IsRising edges → after ≡ front ++ edges
      → LiesBehind front (Some (record { input = input; edges = edges })) (Some input) after
  behind edges after rising is = record { last = edges; whole = is; rising = rising; is = refl; none = λ no. cc no }

  module _ (source target : ℕ) (weight : ℤ) (after : EdgeList) (put_is : after ≡ front ++ with_edge target weight held) where
    put_behind : LiesBehind front (Some (put target weight)) (Some input) after
    put_behind = behind (with_edge target weight held) after (rises-insert held target weight lies.rising) put_is

    pub added : is_some (weight_at target held) ≡ false → (made : Option Row) × (vertex_edited row (AddEdge source target weight) ≡ Ok made)
        × LiesBehind front made (Some input) after
    added absent = (
      Some (put target weight),
      edited (AddEdge source target weight) (ap (λ b. cond b (Err EdgeExists) (Ok (Some (put target weight)))) absent),
      put_behind,
    )

    pub was_set : is_some (weight_at target held) ≡ true → (made : Option Row) × (vertex_edited row (SetEdge source target weight) ≡ Ok made)
        × LiesBehind front made (Some input) after
    was_set there = (
      Some (put target weight),
      edited (SetEdge source target weight) (ap (λ b. cond b (Ok (Some (put target weight))) (Err NoEdge)) there),
      put_behind,
    )

  module _ (source target : ℕ) (after : EdgeList) (cut_is : after ≡ front ++ without_edge target held) where
    pub was_cut : is_some (weight_at target held) ≡ true → (made : Option Row) × (vertex_edited row (RemoveEdge source target) ≡ Ok made)
        × LiesBehind front made (Some input) after
    was_cut there = (
      Some (cut target),
      edited (RemoveEdge source target) (ap (λ b. cond b (Ok (Some (cut target))) (Err NoEdge)) there),
      behind (without_edge target held) after (rises-remove target held lies.rising) cut_is,
    )

  pub input_set : (id : ℕ) (given : ℤ) → (made : Option Row) × (vertex_edited row (SetInput id given) ≡ Ok made)
      × LiesBehind front made (Some given) list
  input_set id given = (
    Some (record { input = given; edges = held }),
    edited (SetInput id given) refl,
    record { last = held; whole = lies.whole; rising = lies.rising; is = refl; none = λ no. cc no },
  )

  pub vertex_removed : (id first : ℕ) (after : EdgeList) → length front ≡ first → after ≡ take first list → (made : Option Row) × (vertex_edited row (RemoveVertex id) ≡ Ok made)
      × LiesBehind front made None after
  vertex_removed id first after long is = (
    None,
    edited (RemoveVertex id) refl,
    record { last = []; whole = is ∙ ap (take first) lies.whole ∙ ap (λ n. take n (front ++ held)) (sym long) ∙ take-append_seam front held ∙ sym (append-nil front); rising = none_rise; is = refl; none = λ _. refl },
  )

-- ---- edits where there is no row
module _ (front : EdgeList) (row : Option Row) (list : EdgeList) (lies : LiesBehind front row None list) where
  pub vertex_added : (id : ℕ) (given : ℤ) → (made : Option Row) × (vertex_edited row (AddVertex id given) ≡ Ok made)
      × LiesBehind front made (Some given) list
  vertex_added id given = (
    Some (record { input = given; edges = [] }),
    ap (λ r. vertex_edited r (AddVertex id given)) lies.is,
    record { last = []; whole = lies.whole ∙ ap (λ l. front ++ l) (lies.none refl); rising = none_rise; is = refl; none = λ no. cc no },
  )

-- ---- no edits yet
pub no_row : (front : EdgeList) → LiesBehind front None None front
no_row front = record { last = []; whole = sym (append-nil front); rising = none_rise; is = refl; none = λ _. refl }

-- ---- what holds anyway holds where there is an error
pub on_err : {T E P : Type 0} (r : Result T E) → P → OnErr r P
on_err (Ok x) p = tt
on_err (Err e) p = p

-- ---- edits one after another
-- what is made of the edits that are left, by what is made of the first of them
abbrev goes_on : ℕ → Places → Result (Option Row) EditKind → Result (Option Row) EditFault
goes_on position edits (Ok changed) = vertex_after changed edits
goes_on position edits (Err kind) = Err (record { position = position; kind = kind })

one_taken : (draft : Option Row) (edits : Places) (i : ℕ) {edit : ℕ × Edit} {made : Result (Option Row) EditKind} → i < length edits
    → edit ≡ get_or edits i edit → vertex_edited draft edit.1 ≡ made → goes_on edit.0 (drop (i + 1) edits) made ≡ vertex_after draft (drop i edits)
one_taken draft edits i {edit} within is made =
    ap (goes_on edit.0 (drop (i + 1) edits)) (sym made) ∙ ap (vertex_after draft) (sym (first_of_rest edits i within is))

-- after so many edits a row lies behind, of which the others make what all make of the first
pub record IsEdited (row : Option Row) (edits : Places) (i : ℕ) (front : EdgeList) (input : Option ℤ) (list : EdgeList) : Type 0 where
  pub now : Option Row
  pub remaining : vertex_after now (drop i edits) ≡ vertex_after row edits
  pub lies : LiesBehind front now input list

module _ (row : Option Row) (edits : Places) (i : ℕ) (front : EdgeList) (first : ℕ) (input : Option ℤ) (list : EdgeList) (long : first ≡ length front)
    (so_far : IsEdited row edits i front input list) where
  pub first_within : first ≤ length list
  first_within = omega (arith, long, ap length so_far.lies.whole, length-append front so_far.lies.last)

  pub edited_all : length edits ≤ i → (made : Option Row) × (vertex_after row edits ≡ Ok made) × LiesBehind front made input list
  edited_all past = (so_far.now, sym (ap (vertex_after so_far.now) (sym (drop_all i edits past)) ∙ so_far.remaining), so_far.lies)

  module _ {edit : ℕ × Edit} (within : i < length edits) (is : edit ≡ get_or edits i edit) (input' : Option ℤ) (list' : EdgeList)
      (stated : Result (Unit {0}) EditKind) (behind : EditedBehind so_far.now edit.1 front input' list' stated) where
    pub one_more : (done : Unit {0}) → stated ≡ Ok done → IsEdited row edits (i + 1) front input' list'
    one_more done ok =
        let made = subst (EditedBehind so_far.now edit.1 front input' list') ok behind in
        record { now = made.0; remaining = one_taken so_far.now edits i within is made.1 ∙ so_far.remaining; lies = made.2 }

    pub refused : (kind : EditKind) (after : EdgeList) → stated ≡ Err kind → after ≡ take first list'
        → (vertex_after row edits ≡ Err (record { position = edit.0; kind = kind })) × (after ≡ front)
    refused kind after err is_front =
        let made = subst (EditedBehind so_far.now edit.1 front input' list') err behind in (
          sym (one_taken so_far.now edits i within is made.0 ∙ so_far.remaining),
          is_front ∙ ap (take first) made.1.1 ∙ ap (λ n. take n (front ++ made.1.0)) long ∙ take-append_seam front made.1.0,
        )

-- ---- a row that lies behind the others waits with them
module _ (waiting : List Waiting) (edges list : EdgeList) (w : Waiting) (row : Option Row) (parts : AreParts waiting edges) (first : w.first ≡ length edges)
    (degree : w.degree ≡ length list - w.first) (lies : LiesBehind edges row (Some w.input) list) where
  pub own_degree : w.degree ≡ length lies.last
  own_degree = omega (arith, first, degree, ap length lies.whole, length-append edges lies.last)

  pub parts_wait : AreParts (waiting ++ w ∷ []) list
  parts_wait = subst (AreParts (waiting ++ w ∷ [])) (sym lies.whole) (parts_push waiting edges lies.last w parts first own_degree lies.rising)

  pub rows_wait : (done before : RowChanges) → done ++ changes_of waiting edges ≡ before → done ++ changes_of (waiting ++ w ∷ []) list ≡ before ++ (w.id, row) ∷ []
  rows_wait done before was =
      ap (λ l. done ++ changes_of (waiting ++ w ∷ []) l) lies.whole
      ∙ ap (λ rows. done ++ rows) (changes_push waiting edges lies.last w parts first own_degree)
      ∙ sym (append_assoc done (changes_of waiting edges) _)
      ∙ ap (λ rows. rows ++ (w.id, Some (record { input = w.input; edges = lies.last })) ∷ []) was
      ∙ ap (λ r. before ++ (w.id, r) ∷ []) (sym lies.is)

  pub degree_waits : w.degree ≡ degree_of row
  degree_waits = own_degree ∙ ap degree_of (sym lies.is)
