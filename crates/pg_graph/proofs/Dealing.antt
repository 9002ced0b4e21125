-- The edits of one vertex after another.
use Rattle.std.proofs.Common.{◌≡◌, ℕ, zero, suc, ◌+◌, ◌<◌, ◌≤◌, inl, inr, Bool, true, false, cond, List, [], ◌∷◌, ◌++◌, length}
use Rattle.std.proofs.Common.{get_or, take, drop, Option, None, Some, Result, Ok, Err, MatchResult, MatchOption, leb, refl, sym, ap, ◌∙◌, subst}
use Rattle.std.proofs.Common.{◌⊎◌, ⊎_elim, arith}
use Rattle.std.specs.BTreeMap.{is_at}
use Rattle.std.specs.List.{AllByRecursion}
use Rattle.std.specs.Ordering.{nat_cmp}
use Rattle.std.specs.Option.{unwrap_or}
use Rattle.std.specs.List.Sorted.{IsPartitionPoint, IsStrictlySortedBy}
use Rattle.std.proofs.lemmas.Bool.{cases_eq, leb-true, leb-false}
use Rattle.std.proofs.lemmas.List.{append-nil, length-drop}
use Rattle.std.proofs.lemmas.List.Elements.{filter-append}
use Rattle.std.proofs.lemmas.List.Sorted.{IsNonDecreasingBy-drop}
use Rattle.pg_map.specs.Entries.{ChangesRise, value_at, with_change, with_changes}
use Rattle.pg_map.proofs.Changing.{rises-changes, value_at-with_changes}
use Rattle.pg_map.proofs.Parts.{split_all, rises_push, find-left, find-right}
use Rattle.pg_map.proofs.Rising.{at_same, at_other, same_entries}
use Rattle.pg_graph_rows.specs.ChangedRows.{RowChanges}
use Rattle.pg_graph_rows.specs.ChangedRows.{degree_of}
use Rattle.pg_graph.specs.RowChanges.{changed_row_at}
use Rattle.pg_graph.specs.Edit.{all_edited}
use Rattle.pg_graph.specs.Grouped.{RiseBySource, AreGrouped, RowRises, EditedRowsRise, IsNoLater, IsRest, IsDone, AreDealt, earlier_of, AreMade, IsFirst}
use Rattle.pg_graph_rows.specs.RowEdit.{Places, source_of, vertex_after}
use Rattle.pg_graph.specs.RowEdit.{HasRoom, IsEarliestFault, placed, edits_of, is_of, vertices_added, edges_added}
use Rattle.pg_graph.specs.Rows.{Rows, HasRisingIds, row_at, vertex_count, edge_count}
use Rattle.pg_graph_rows.specs.declared.row.Row.{Row}
use Rattle.pg_graph_rows.specs.declared.edit.Edit.{Edit}
use Rattle.pg_graph_rows.specs.declared.edit.EditFault.{EditFault}
use Rattle.pg_graph.proofs.Batches.{Ok_not_Err, Err_same}
use Rattle.pg_graph.proofs.Drafting.{edges-without_row}
use Rattle.pg_graph.proofs.RowLaw.{of_same, of_other, edges-change, faults_apart, MakesRows, IsFirstFault, IsByRows, batch_by_rows}

-- ---- the earlier of two faults

earlier_found : (fault : Option EditFault) (found : EditFault) → (earlier_of fault found).position ≤ found.position
earlier_found None found = omega arith
earlier_found (Some fault) found = by (leb fault.position found.position) refl
  where
    by : (b : Bool) → leb fault.position found.position ≡ b → (cond b fault found).position ≤ found.position
    by true e = leb-true fault.position found.position e
    by false e = omega arith

earlier_keeps : (fault : Option EditFault) (found other : EditFault) → IsNoLater fault other → (earlier_of fault found).position ≤ other.position
earlier_keeps None found other before = absurd before
earlier_keeps (Some fault) found other before = by (leb fault.position found.position) refl
  where
    by : (b : Bool) → leb fault.position found.position ≡ b → (cond b fault found).position ≤ other.position
    by true e = before
    by false e = let h = leb-false fault.position found.position e in omega arith

earlier_is : (P : EditFault → Type 0) (fault : Option EditFault) (found : EditFault) → MatchOption fault (Unit {0}) P → P found → P (earlier_of fault found)
earlier_is P None found old new = new
earlier_is P (Some fault) found old new = by (leb fault.position found.position)
  where
    by : (b : Bool) → P (cond b fault found)
    by true = old
    by false = new

-- ---- the edits of a vertex, and those after them

only : (id q : ℕ) (edits : Places) → q ≡ id → AllByRecursion (λ e. source_of e.1 ≡ id) edits → edits_of q edits ≡ edits
only id q [] same all = refl
only id q (e ∷ edits) same all = of_same q e.0 e.1 edits (same ∙ sym all.0) ∙ ap (λ l. e ∷ l) (only id q edits same all.1)

none_of : (q : ℕ) (edits : Places) → AllByRecursion (λ e. q ≡ source_of e.1 → ⊥) edits → edits_of q edits ≡ []
none_of q [] all = refl
none_of q (e ∷ edits) all = of_other q e.0 e.1 edits all.0 ∙ none_of q edits all.1

all_map : {X : Type 0} (P Q : X → Type 0) (xs : List X) → ((x : X) → P x → Q x) → AllByRecursion P xs → AllByRecursion Q xs
all_map P Q [] f all = tt
all_map P Q (x ∷ xs) f all = (f x all.0, all_map P Q xs f all.1)

all_drop : {X : Type 0} (P : X → Type 0) (xs ys : List X) → AllByRecursion P (xs ++ ys) → AllByRecursion P ys
all_drop P [] ys all = all
all_drop P (x ∷ xs) ys all = all_drop P xs ys all.1

all_append : {X : Type 0} (P : X → Type 0) (xs ys : List X) → AllByRecursion P xs → AllByRecursion P ys → AllByRecursion P (xs ++ ys)
all_append P [] ys all more = more
all_append P (x ∷ xs) ys all more = (all.0, all_append P xs ys all.1 more)

all_both : {X : Type 0} (P Q R : X → Type 0) (xs : List X) → ((x : X) → P x → Q x → R x) → AllByRecursion P xs → AllByRecursion Q xs → AllByRecursion R xs
all_both P Q R [] f p q = tt
all_both P Q R (x ∷ xs) f p q = (f x p.0 q.0, all_both P Q R xs f p.1 q.1)

pub record IsTurn (remaining here later rest : Places) (first : ℕ × Edit) (n : ℕ) : Type 0 where
  pub next : remaining ≡ first ∷ rest
  pub front : here ≡ take n remaining
  pub back : later ≡ drop n remaining
  pub whole : remaining ≡ here ++ later
  pub within : n ≤ length remaining
  pub parts : IsPartitionPoint (λ e. leb (source_of e.1) (source_of first.1) ≡ true) (λ e. leb (source_of e.1) (source_of first.1) ≡ false) remaining n

-- each turn leaves fewer edits
pub fewer_left : (remaining here later rest : Places) (first : ℕ × Edit) (n : ℕ) → IsTurn remaining here later rest first n → length later < length remaining
fewer_left remaining here later rest first n turn = omega (arith, ap length turn.back, length-drop n remaining, ap length turn.next, turn.within, some)
  where
    at_first : get_or remaining 0 first ≡ first
    at_first = ap (λ l. get_or l 0 first) turn.next

    none : n ≡ 0 → ⊥
    none e =
        let there : 0 < length remaining = omega (arith, ap length turn.next) in
        let above = leb-false (source_of (get_or remaining 0 first).1) (source_of first.1) (turn.parts.1 0 first (omega (arith, e)) there) in
        omega (arith, above, ap (λ x. source_of x.1) at_first)

    some : 0 < n
    some = by n refl
      where
        by : (k : ℕ) → n ≡ k → 0 < n
        by zero e = absurd (none e)
        by (suc k) e = omega (arith, e)

module _ (rows : Rows) (all remaining here later rest : Places) (first : ℕ × Edit) (n : ℕ) (changes : RowChanges) (fault : Option EditFault)
    (turn : IsTurn remaining here later rest first n) (dealt : AreDealt rows all remaining changes fault) where
  abbrev id : ℕ
  id = source_of first.1

  lowest : (k : ℕ) (d : ℕ × Edit) → k < length remaining → id ≤ source_of (get_or remaining k d).1
  lowest k d h = subst (λ l. source_of (get_or l 0 d).1 ≤ source_of (get_or remaining k d).1) turn.next (dealt.left_rise 0 k d (omega arith) h)

  split : AllByRecursion (λ e. source_of e.1 ≡ id) (take n remaining) × AllByRecursion (λ e. id < source_of e.1) (drop n remaining)
  split =
      split_all (λ e. source_of e.1 ≡ id) (λ e. id < source_of e.1) remaining n turn.within
      (λ k d h. let low = leb-true (source_of (get_or remaining k d).1) id (turn.parts.0 k d (omega arith) h) in
      let high = lowest k d (omega (arith, turn.within)) in omega arith)
      (λ k d h g. leb-false (source_of (get_or remaining k d).1) id (turn.parts.1 k d h g))

  here_of : AllByRecursion (λ e. source_of e.1 ≡ id) here
  here_of = subst (AllByRecursion (λ e. source_of e.1 ≡ id)) (sym turn.front) split.0

  later_above : AllByRecursion (λ e. id < source_of e.1) later
  later_above = subst (AllByRecursion (λ e. id < source_of e.1)) (sym turn.back) split.1

  in_parts : (q : ℕ) → edits_of q remaining ≡ edits_of q here ++ edits_of q later
  in_parts q = ap (edits_of q) turn.whole ∙ filter-append (is_of q) here later

  none_later : (q : ℕ) → q ≡ id → edits_of q later ≡ []
  none_later q same = none_of q later (all_map (λ e. id < source_of e.1) (λ e. q ≡ source_of e.1 → ⊥) later (λ e above at. omega arith) later_above)

  all_here : (q : ℕ) → q ≡ id → edits_of q remaining ≡ here
  all_here q same = in_parts q ∙ ap (λ l. l ++ edits_of q later) (only id q here same here_of) ∙ ap (λ l. here ++ l) (none_later q same) ∙ append-nil here

  same_later : (q : ℕ) → (q ≡ id → ⊥) → edits_of q remaining ≡ edits_of q later
  same_later q apart = in_parts q
      ∙ ap (λ l. l ++ edits_of q later)
      (none_of q here (all_map (λ e. source_of e.1 ≡ id) (λ e. q ≡ source_of e.1 → ⊥) here (λ e is at. apart (at ∙ is)) here_of))

  not_done : edits_of id remaining ≡ [] → ⊥
  not_done none = let h : first ∷ edits_of id rest ≡ [] = sym (ap (edits_of id) turn.next ∙ of_same id first.0 first.1 rest refl) ∙ none in cc

  is_left : IsRest id all remaining changes
  is_left = ⊎_elim (λ (l : IsRest id all remaining changes). l) (λ (d : IsDone rows id all remaining changes fault). absurd (not_done d.edits)) (dealt.seen id)

  pub not_changed : value_at id changes ≡ None
  not_changed = is_left.change

  here_is : (q : ℕ) → q ≡ id → here ≡ edits_of q all
  here_is q same = sym (all_here id refl) ∙ is_left.edits ∙ ap (λ k. edits_of k all) (sym same)

  none_yet : (q : ℕ) → q ≡ id → value_at q changes ≡ None
  none_yet q same = ap (λ k. value_at k changes) same ∙ is_left.change

  later_rise : RiseBySource later
  later_rise = subst RiseBySource (sym turn.back) (IsNonDecreasingBy-drop (λ e. source_of e.1) n remaining dealt.left_rise)

  below_later : AllByRecursion (λ e. AllByRecursion (λ c. c.0 < source_of e.1) changes) later
  below_later = all_drop (λ e. AllByRecursion (λ c. c.0 < source_of e.1) changes) here later
      (subst (AllByRecursion (λ e. AllByRecursion (λ c. c.0 < source_of e.1) changes)) turn.whole dealt.below)

  -- a row was found
  module _ (rises : RowRises (row_at id rows)) (row : Option Row) (made : Ok row ≡ vertex_after (row_at id rows) here)
      (changes' : RowChanges) (grown : changes' ≡ changes ++ (id, row) ∷ []) where
    at_id : (q : ℕ) → q ≡ id → value_at q changes' ≡ Some row
    at_id q same =
        ap (value_at q) grown ∙ find-right q changes ((id, row) ∷ []) (none_yet q same)
        ∙ ap (λ b. cond b (Some row) None) (ap (λ k. is_at (nat_cmp k) id) same ∙ at_same id)

    elsewhere : (q : ℕ) → (q ≡ id → ⊥) → value_at q changes' ≡ value_at q changes
    elsewhere q apart = ap (value_at q) grown ∙ find-left q changes ((id, row) ∷ []) (ap (λ b. cond b (Some row) None) (at_other q id apart))

    pub row_found : AreDealt rows all later changes' fault
    row_found = record {
      left_rise = later_rise;
      changes_rise = subst ChangesRise (sym grown)
          (rises_push changes id row dealt.changes_rise
          (subst (AllByRecursion (λ e. AllByRecursion (λ c. c.0 < source_of e.1) changes)) turn.next dealt.below).0);
      below = all_both (λ e. AllByRecursion (λ c. c.0 < source_of e.1) changes) (λ e. id < source_of e.1)
          (λ e. AllByRecursion (λ c. c.0 < source_of e.1) changes') later
          (λ e before above. subst (AllByRecursion (λ c. c.0 < source_of e.1)) (sym grown)
          (all_append (λ c. c.0 < source_of e.1) changes ((id, row) ∷ []) before (above, tt))) below_later later_above;
      seen = λ q. ⊎_elim
          (λ (same : q ≡ id). inr (record {
            edits = none_later q same;
            rises = subst (λ k. RowRises (row_at k rows)) (sym same) rises;
            stated = subst (λ r. MatchResult r (λ x. value_at q changes' ≡ Some x) (IsNoLater fault))
                (made ∙ ap (λ k. vertex_after (row_at k rows) here) (sym same) ∙ ap (vertex_after (row_at q rows)) (here_is q same)) (at_id q same);
          }))
          (λ (apart : q ≡ id → ⊥). ⊎_elim
          (λ (l : IsRest q all remaining changes). inl (record { edits = sym (same_later q apart) ∙ l.edits; change = elsewhere q apart ∙ l.change }))
          (λ (d : IsDone rows q all remaining changes fault). inr (record {
            edits = sym (same_later q apart) ∙ d.edits;
            rises = d.rises;
            stated = still q (vertex_after (row_at q rows) (edits_of q all)) (elsewhere q apart) d.stated;
          }))
          (dealt.seen q))
          (cases_eq q id);
      found = dealt.found;
    }
      where
        still : (q : ℕ) (r : Result (Option Row) EditFault) → value_at q changes' ≡ value_at q changes
            → MatchResult r (λ x. value_at q changes ≡ Some x) (IsNoLater fault) → MatchResult r (λ x. value_at q changes' ≡ Some x) (IsNoLater fault)
        still q (Ok x) same stated = same ∙ stated
        still q (Err f) same stated = stated

  -- a fault was found
  module _ (rises : RowRises (row_at id rows)) (found : EditFault) (made : Err found ≡ vertex_after (row_at id rows) here) where
    pub fault_found : AreDealt rows all later changes (Some (earlier_of fault found))
    fault_found = record {
      left_rise = later_rise;
      changes_rise = dealt.changes_rise;
      below = below_later;
      seen = λ q. ⊎_elim
          (λ (same : q ≡ id). inr (record {
            edits = none_later q same;
            rises = subst (λ k. RowRises (row_at k rows)) (sym same) rises;
            stated = subst (λ r. MatchResult r (λ x. value_at q changes ≡ Some x) (IsNoLater (Some (earlier_of fault found))))
                (made ∙ ap (λ k. vertex_after (row_at k rows) here) (sym same) ∙ ap (vertex_after (row_at q rows)) (here_is q same))
                (earlier_found fault found);
          }))
          (λ (apart : q ≡ id → ⊥). ⊎_elim
          (λ (l : IsRest q all remaining changes). inl (record { edits = sym (same_later q apart) ∙ l.edits; change = l.change }))
          (λ (d : IsDone rows q all remaining changes fault). inr (record {
            edits = sym (same_later q apart) ∙ d.edits;
            rises = d.rises;
            stated = still q (vertex_after (row_at q rows) (edits_of q all)) d.stated;
          }))
          (dealt.seen q))
          (cases_eq q id);
      found = earlier_is (λ f. (q : ℕ) × (vertex_after (row_at q rows) (edits_of q all) ≡ Err f)) fault found dealt.found
          (id, ap (vertex_after (row_at id rows)) (sym (here_is id refl)) ∙ sym made);
    }
      where
        still : (q : ℕ) (r : Result (Option Row) EditFault) → MatchResult r (λ x. value_at q changes ≡ Some x) (IsNoLater fault)
            → MatchResult r (λ x. value_at q changes ≡ Some x) (IsNoLater (Some (earlier_of fault found)))
        still q (Ok x) stated = stated
        still q (Err f) stated = earlier_keeps fault found f stated

-- ---- none is dealt with, and all are

pub no_changes : (changes : RowChanges) → changes ≡ [] → ChangesRise changes
unfolding IsStrictlySortedBy
no_changes [] none = tt
no_changes (c ∷ changes) none = cc

pub none_dealt : (rows : Rows) (all : Places) (changes : RowChanges) → changes ≡ [] → ChangesRise changes → RiseBySource all → AreDealt rows all all changes None
none_dealt rows all changes none rising rise = record {
  left_rise = rise;
  changes_rise = rising;
  below = nothing all;
  seen = λ q. inl (record { edits = refl; change = ap (value_at q) none });
  found = tt;
}
  where
    nothing : (l : Places) → AllByRecursion (λ e. AllByRecursion (λ c. c.0 < source_of e.1) changes) l
    nothing [] = tt
    nothing (e ∷ l) = (subst (AllByRecursion (λ c. c.0 < source_of e.1)) (sym none) tt, nothing l)

module _ (rows : Rows) (all remaining : Places) (changes : RowChanges) (empty : remaining ≡ []) where
  untouched : (q : ℕ) → edits_of q remaining ≡ edits_of q all → vertex_after (row_at q rows) (edits_of q all) ≡ Ok (row_at q rows)
  untouched q same = ap (vertex_after (row_at q rows)) (sym same ∙ ap (edits_of q) empty)

  pub all_made : AreDealt rows all remaining changes None → AreMade rows all changes
  all_made dealt = record {
    rise = dealt.changes_rise;
    stated = λ q. ⊎_elim
        (λ (l : IsRest q all remaining changes). untouched q l.edits ∙ ap (λ o. Ok (unwrap_or o (row_at q rows))) (sym l.change))
        (λ (d : IsDone rows q all remaining changes None). by q (vertex_after (row_at q rows) (edits_of q all)) d.stated)
        (dealt.seen q);
  }
    where
      by : (q : ℕ) (r : Result (Option Row) EditFault) → MatchResult r (λ x. value_at q changes ≡ Some x) (IsNoLater None)
          → r ≡ Ok (changed_row_at q changes rows)
      by q (Ok x) stated = ap (λ o. Ok (unwrap_or o (row_at q rows))) (sym stated)
      by q (Err f) stated = absurd stated

-- ---- what is made of the vertices is made of the graph

Ok_same : {X E : Type 0} {x y : X} → ◌≡◌ {A = Result X E} (Ok x) (Ok y) → x ≡ y
Ok_same h = cc

module _ (rows : Rows) (edits : List Edit) (all : Places) (rising : HasRisingIds rows)
    (room : HasRoom (vertex_count rows) (edge_count rows) (vertices_added edits) (edges_added edits)) (grouped : AreGrouped edits all)
    (rise : EditedRowsRise rows all) where
  -- the edits of a vertex, as the law names them
  placed_is : (q : ℕ) (r : Result (Option Row) EditFault) → vertex_after (row_at q rows) (edits_of q (placed 1 edits)) ≡ r
      → vertex_after (row_at q rows) (edits_of q all) ≡ r
  placed_is q r h = ap (vertex_after (row_at q rows)) (grouped.same q) ∙ h

  placed_rise : EditedRowsRise rows (placed 1 edits)
  placed_rise q = subst (λ es. (es ≡ []) ⊎ RowRises (row_at q rows)) (grouped.same q) (rise q)

  by_rows : IsByRows 1 rows edits (all_edited 1 rows edits)
  by_rows = batch_by_rows 1 rows edits rising placed_rise room

  pub made_of_all : (changes : RowChanges) → AreMade rows all changes
      → MakesRows 1 rows edits (with_changes changes rows) × (all_edited 1 rows edits ≡ Ok (with_changes changes rows))
  made_of_all changes made = by (all_edited 1 rows edits) refl by_rows
    where
      same : (now : Rows) → MakesRows 1 rows edits now → now ≡ with_changes changes rows
      same now makes =
          same_entries now (with_changes changes rows) makes.rise (rises-changes changes rows rising)
          (λ q. Ok_same (sym (placed_is q _ (makes.seen q)) ∙ made.stated q) ∙ sym (value_at-with_changes changes rows q made.rise rising))

      by : (r : Result Rows EditFault) → all_edited 1 rows edits ≡ r → IsByRows 1 rows edits r
          → MakesRows 1 rows edits (with_changes changes rows) × (all_edited 1 rows edits ≡ Ok (with_changes changes rows))
      by (Ok now) e makes = (subst (MakesRows 1 rows edits) (same now makes) makes, e ∙ ap (λ l. Ok l) (same now makes))
      by (Err fault) e first = absurd (Ok_not_Err (sym (made.stated first.vertex) ∙ placed_is first.vertex _ first.there))

  pub first_is : (fault : EditFault) → IsFirst rows all fault → all_edited 1 rows edits ≡ Err fault
  first_is fault found = by (all_edited 1 rows edits) refl by_rows
    where
      there : vertex_after (row_at found.vertex rows) (edits_of found.vertex (placed 1 edits)) ≡ Err fault
      there = ap (vertex_after (row_at found.vertex rows)) (sym (grouped.same found.vertex)) ∙ found.there

      same : (other : EditFault) → IsFirstFault 1 rows edits other → other ≡ fault
      same other first =
          ⊎_elim
          (λ (at : first.vertex ≡ found.vertex). Err_same (sym first.there ∙ ap (λ q. vertex_after (row_at q rows) (edits_of q (placed 1 edits))) at ∙ there))
          (λ (apart : first.vertex ≡ found.vertex → ⊥).
          let before = first.first found.vertex fault there in
          let after = found.first first.vertex other (placed_is first.vertex _ first.there) in
          absurd (faults_apart 1 first.vertex found.vertex edits (row_at first.vertex rows)
          (row_at found.vertex rows) other fault apart first.there there (omega arith)))
          (cases_eq first.vertex found.vertex)

      by : (r : Result Rows EditFault) → all_edited 1 rows edits ≡ r → IsByRows 1 rows edits r → all_edited 1 rows edits ≡ Err fault
      by (Ok now) e makes = absurd (Ok_not_Err (sym (makes.seen found.vertex) ∙ there))
      by (Err other) e first = e ∙ ap (λ f. Err f) (same other first)

  pub earliest_is : (fault : EditFault) → IsFirst rows all fault → IsEarliestFault rows edits fault
  earliest_is fault found = record {
    vertex = found.vertex;
    there = ap (vertex_after (row_at found.vertex rows)) (sym (grouped.same found.vertex)) ∙ found.there;
    first = λ q other why. found.first q other (placed_is q _ why);
  }

-- ---- the edges are counted

with_changes-push : (changes : RowChanges) (rows : Rows) (key : ℕ) (change : Option Row)
    → with_changes (changes ++ (key, change) ∷ []) rows ≡ with_change key change (with_changes changes rows)
with_changes-push [] rows key change = refl
with_changes-push (c ∷ changes) rows key change = with_changes-push changes (with_change c.0 c.1 rows) key change

-- one row after the others
module _ (rows : Rows) (changes : RowChanges) (rising : HasRisingIds rows) (rise : ChangesRise changes) (id : ℕ) (none : value_at id changes ≡ None) where
  abbrev so_far : Rows
  so_far = with_changes changes rows

  unchanged : row_at id so_far ≡ row_at id rows
  unchanged = value_at-with_changes changes rows id rise rising ∙ ap (λ o. unwrap_or o (row_at id rows)) none

  pub next_counted : (row : Option Row) (edges' : ℕ) → edges' + degree_of (row_at id rows) ≡ edge_count so_far + degree_of row
      → edges' ≡ edge_count (with_changes (changes ++ (id, row) ∷ []) rows)
  next_counted row edges' is =
      let step = edges-change so_far (rises-changes changes rows rising) id row in
      omega (arith, step, is, ap degree_of unchanged, ap edge_count (with_changes-push changes rows id row))

  pub degree_fits : degree_of (row_at id rows) ≤ edge_count so_far
  degree_fits = omega (arith, edges-without_row so_far id, ap degree_of unchanged)
