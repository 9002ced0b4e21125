use Rattle.std.proofs.Common.{◌≡◌, ◌+◌, [], ◌∷◌, ◌++◌, Some, leb, true, false, ap, sym, ◌∙◌, subst, arith}
use Rattle.std.proofs.lemmas.List.{nil_from_length}
use Rattle.std.specs.List.Sorted.{IsPartitionPoint}
use Rattle.pg_map.specs.Entries.{with_changes}
use Rattle.pg_graph_rows.specs.ChangedRows.{degree_of}
use Rattle.pg_graph_rows.specs.RowEdit.{source_of, vertex_after}
use Rattle.pg_graph.specs.Grouped.{AreDealt, AreMade, RowRises}
use Rattle.pg_graph.specs.Rows.{edge_count, row_at}
use Rattle.pg_graph.proofs.Dealing.{all_made, IsTurn, fewer_left, no_changes, none_dealt, row_found, fault_found, not_changed, next_counted, degree_fits}
use Rattle.pg_graph.proofs.grouped.dealt_with.Goals as goal

pub loop-first-init : goal.loop-first-init
loop-first-init c = record {
  found = c.cursor-cursor.ensures;
  dealt = none_dealt c.args.graph.now c.args.edits.now _ c.in_ok-rows.ensures (no_changes _ c.in_ok-rows.ensures) c.requires.edits_rise;
  counted = c.edges-edges.ensures.value ∙ ap (λ l. edge_count (with_changes l c.args.graph.now)) (sym c.in_ok-rows.ensures);
}

pub edges_with-requires : goal.edges_with-requires
edges_with-requires c =
    let rows = c.args.graph.now in
    let changes = c.loop-first.rows in
    let id = c.source-id.ensures in
    let remaining = c.loop-first.remaining.now in
    let here = c.split_at.result.0.now in
    let turn : IsTurn remaining here c.split_at.result.1.now c.in-Some.field-0-1.now c.in-Some.first.now c.count_of.result = record {
      next = c.in-Some.ensures.cases.0;
      front = c.split_at.ensures.front;
      back = c.split_at.ensures.back;
      whole = c.split_at.ensures.by_index.0;
      within = c.count_of.ensures.bound;
      parts = subst (λ k. IsPartitionPoint (λ e. leb (source_of e.1) k ≡ true)
          (λ e. leb (source_of e.1) k ≡ false) remaining c.count_of.result) id c.count_of.ensures.parts;
    } in
    let none = not_changed rows c.args.edits.now remaining here _ _ c.in-Some.first.now c.count_of.result changes c.loop-first.fault turn
    c.loop-first.invariant.dealt in
    let fits = degree_fits rows changes c.requires.rising c.loop-first.invariant.dealt.changes_rise _ none in
    let was = c.get-row.ensures.value ∙ ap (row_at c.source-id.result) c.loop-first.invariant.found ∙ ap (λ k. row_at k rows) id in
    omega (arith, c.degree_of-had.ensures.degree, fits, ap degree_of was, c.loop-first.invariant.counted)

pub loop-first-preserved-in_ok-edges-in-Ok : goal.loop-first-preserved-in_ok-edges-in-Ok
loop-first-preserved-in_ok-edges-in-Ok c =
    let rows = c.args.graph.now in
    let changes = c.loop-first.rows in
    let id = c.source-id.ensures in
    let remaining = c.loop-first.remaining.now in
    let here = c.split_at.result.0.now in
    let turn : IsTurn remaining here c.split_at.result.1.now c.in-Some.field-0-1.now c.in-Some.first.now c.count_of.result = record {
      next = c.in-Some.ensures.cases.0;
      front = c.split_at.ensures.front;
      back = c.split_at.ensures.back;
      whole = c.split_at.ensures.by_index.0;
      within = c.count_of.ensures.bound;
      parts = subst (λ k. IsPartitionPoint (λ e. leb (source_of e.1) k ≡ true)
          (λ e. leb (source_of e.1) k ≡ false) remaining c.count_of.result) id c.count_of.ensures.parts;
    } in
    let was = c.get-row.ensures.value ∙ ap (row_at c.source-id.result) c.loop-first.invariant.found ∙ ap (λ k. row_at k rows) id in
    let stated = rw c.in-Ok.is at c.in_ok-degree.ensures in
    let changed = stated.0 in
    let made = sym stated.1 ∙ ap (λ r. vertex_after r here) was in
    let grown = stated.2 ∙ ap (λ k. changes ++ (k, changed) ∷ []) id in
    let none = not_changed rows c.args.edits.now remaining here _ _ c.in-Some.first.now c.count_of.result changes c.loop-first.fault turn
    c.loop-first.invariant.dealt in
    let edges : c.in_ok-edges-in-Ok.edges + degree_of (row_at (source_of c.in-Some.first.now.1) rows) ≡ edge_count
    (with_changes changes rows) + degree_of changed =
    omega (arith, c.in_ok-edges-in-Ok.ensures, c.degree_of-had.ensures.degree, ap degree_of was, stated.3, c.loop-first.invariant.counted) in
    let rises = subst RowRises was c.degree_of-had.ensures.rises in
    record {
      found = c.get-row.ensures.same ∙ c.loop-first.invariant.found;
      dealt = row_found rows c.args.edits.now remaining here _ _ c.in-Some.first.now c.count_of.result changes c.loop-first.fault turn
          c.loop-first.invariant.dealt rises changed made _ grown;
      counted =
          next_counted rows changes c.requires.rising c.loop-first.invariant.dealt.changes_rise _ none changed c.in_ok-edges-in-Ok.edges edges
          ∙ ap (λ l. edge_count (with_changes l rows)) (sym grown);
    }

pub loop-first-preserved : goal.loop-first-preserved
loop-first-preserved c =
    let rows = c.args.graph.now in
    let changes = c.loop-first.rows in
    let id = c.source-id.ensures in
    let remaining = c.loop-first.remaining.now in
    let here = c.split_at.result.0.now in
    let turn : IsTurn remaining here c.split_at.result.1.now c.in-Some.field-0-1.now c.in-Some.first.now c.count_of.result = record {
      next = c.in-Some.ensures.cases.0;
      front = c.split_at.ensures.front;
      back = c.split_at.ensures.back;
      whole = c.split_at.ensures.by_index.0;
      within = c.count_of.ensures.bound;
      parts = subst (λ k. IsPartitionPoint (λ e. leb (source_of e.1) k ≡ true)
          (λ e. leb (source_of e.1) k ≡ false) remaining c.count_of.result) id c.count_of.ensures.parts;
    } in
    let was = c.get-row.ensures.value ∙ ap (row_at c.source-id.result) c.loop-first.invariant.found ∙ ap (λ k. row_at k rows) id in
    let stated = rw c.in-Err.is at c.in_ok-degree.ensures in
    let made = sym stated.0 ∙ ap (λ r. vertex_after r here) was in
    rw stated.1 (record {
      found = c.get-row.ensures.same ∙ c.loop-first.invariant.found;
      dealt = subst (λ f. AreDealt rows c.args.edits.now c.split_at.result.1.now changes (Some f)) (sym c.earlier.ensures)
          (fault_found rows c.args.edits.now remaining here _ _ c.in-Some.first.now c.count_of.result changes c.loop-first.fault turn
          c.loop-first.invariant.dealt (subst RowRises was c.degree_of-had.ensures.rises) c.in-Err.found made);
      counted = c.loop-first.invariant.counted;
    })

pub loop-first-smaller-in_ok-edges-in-Ok : goal.loop-first-smaller-in_ok-edges-in-Ok
loop-first-smaller-in_ok-edges-in-Ok c =
    let id = c.source-id.ensures in
    let remaining = c.loop-first.remaining.now in
    fewer_left remaining c.split_at.result.0.now c.split_at.result.1.now c.in-Some.field-0-1.now c.in-Some.first.now c.count_of.result (record {
      next = c.in-Some.ensures.cases.0;
      front = c.split_at.ensures.front;
      back = c.split_at.ensures.back;
      whole = c.split_at.ensures.by_index.0;
      within = c.count_of.ensures.bound;
      parts = subst (λ k. IsPartitionPoint (λ e. leb (source_of e.1) k ≡ true)
          (λ e. leb (source_of e.1) k ≡ false) remaining c.count_of.result) id c.count_of.ensures.parts;
    })

pub returns-in_ok-rows-in-None-clause-made : goal.returns-in_ok-rows-in-None-clause-made
returns-in_ok-rows-in-None-clause-made c =
    let rows = c.args.graph.now in
    let none = nil_from_length c.loop-first.remaining.now c.in_default.ensures.cases in
    let dealt = subst (AreDealt rows c.args.edits.now c.loop-first.remaining.now c.loop-first.rows) c.in-None.is c.loop-first.invariant.dealt in
    let made = all_made rows c.args.edits.now c.loop-first.remaining.now c.loop-first.rows none dealt in
    record {
      made = subst (AreMade rows c.args.edits.now) (sym c.in_ok-rows-in-None.ensures) made;
      edges_counted = c.loop-first.invariant.counted ∙ ap (λ l. edge_count (with_changes l rows)) (sym c.in_ok-rows-in-None.ensures);
    }
