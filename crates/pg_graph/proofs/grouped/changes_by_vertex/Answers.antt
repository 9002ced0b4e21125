use Rattle.std.proofs.Common.{◌≡◌, List, length, Result, Ok, Err, IfOk, IfErr, MatchResult, ◌⊎◌, inr, refl, sym, ◌∙◌, subst, arith, ◌≤◌}
use Rattle.pg_map.specs.Entries.{with_changes}
use Rattle.pg_graph.specs.Draft.{Makes}
use Rattle.pg_graph.specs.Edit.{RefusesBatch, batch_edited, batch_limit}
use Rattle.pg_graph.specs.Grouped.{AreCounted, AreGrouped, EditedRowsRise, IsFirst, RiseBySource}
use Rattle.pg_graph.specs.RowEdit.{AreRowsMade, HasRoom, IsEarliestFault, edges_added, vertices_added}
use Rattle.pg_graph_rows.specs.EditFault.{memory_fault}
use Rattle.pg_graph_rows.specs.RowEdit.{Places}
use Rattle.pg_graph.specs.Rows.{HasRisingIds, Rows, edge_count, vertex_count}
use Rattle.pg_graph.specs.declared.draft.RowChanges.{RowChanges as Changing}
use Rattle.pg_graph_rows.specs.declared.edit.Edit.{Edit}
use Rattle.pg_graph_rows.specs.declared.edit.EditFault.{EditFault}
use Rattle.pg_graph.proofs.Batches.{short_enough}
use Rattle.pg_graph.proofs.Dealing.{made_of_all, first_is, earliest_is}
use Rattle.pg_graph.proofs.grouped.changes_by_vertex.Goals as goal

module _ (rows : Rows) (edits : List Edit) (all : Places) (rising : HasRisingIds rows) (short : length edits ≤ batch_limit)
    (room : HasRoom (vertex_count rows) (edge_count rows) (vertices_added edits) (edges_added edits)) (grouped : AreGrouped edits all)
    (rise : EditedRowsRise rows all) where
  makes : (r : Result Changing EditFault) → MatchResult r (AreCounted rows all) (IsFirst rows all)
      → IfOk r (λ changes. Makes rows (with_changes changes.rows.items rows) changes)
  makes (Ok changes) counted =
      let law = made_of_all rows edits all rising room grouped rise changes.rows.items counted.made in
      record {
        graph_rises = rising;
        changes_rise = counted.made.rise;
        made = refl;
        edges_counted = counted.edges_counted;
        vertices_fit = omega (arith, law.0.room.vertices_fit);
        edges_fit = omega (arith, law.0.room.edges_fit);
      }
  makes (Err fault) first = tt

  is_made : (r : Result Changing EditFault) → MatchResult r (AreCounted rows all) (IsFirst rows all)
      → IfOk r (λ changes. batch_edited rows edits ≡ Ok (with_changes changes.rows.items rows))
  is_made (Ok changes) counted =
      short_enough rows edits short ∙ (made_of_all rows edits all rising room grouped rise changes.rows.items counted.made).1
  is_made (Err fault) first = tt

  rows_are : (r : Result Changing EditFault) → MatchResult r (AreCounted rows all) (IsFirst rows all)
      → IfOk r (λ changes. AreRowsMade rows edits (with_changes changes.rows.items rows))
  rows_are (Ok changes) counted = (made_of_all rows edits all rising room grouped rise changes.rows.items counted.made).0.seen
  rows_are (Err fault) first = tt

  refuses : (r : Result Changing EditFault) → MatchResult r (AreCounted rows all) (IsFirst rows all) → IfErr r (RefusesBatch rows edits)
  refuses (Ok changes) counted = tt
  refuses (Err fault) first = inr (short_enough rows edits short ∙ first_is rows edits all rising room grouped rise fault first)

  earliest : (r : Result Changing EditFault) → MatchResult r (AreCounted rows all) (IsFirst rows all)
      → IfErr r (λ fault. (fault ≡ memory_fault) ⊎ IsEarliestFault rows edits fault)
  earliest (Ok changes) counted = tt
  earliest (Err fault) first = inr (earliest_is rows edits all rising room grouped rise fault first)

pub dealt_with-requires-clause-edits_rise : goal.dealt_with-requires-clause-edits_rise
dealt_with-requires-clause-edits_rise c = subst RiseBySource (sym c.as_slice.ensures.value) c.in_ok-edits.ensures.rise

pub returns-clause-ok : goal.returns-clause-ok
returns-clause-ok c =
    let grouped = subst (AreGrouped c.args.batch.now) (sym c.as_slice.ensures.value) c.in_ok-edits.ensures in
    makes c.args.graph.now c.args.batch.now _ c.requires.rising c.requires.short c.requires.room grouped c.in_ok-dealt_with.ensures.rows_rise _ c.in_ok-dealt_with.ensures.made

pub returns-clause-made : goal.returns-clause-made
returns-clause-made c =
    let grouped = subst (AreGrouped c.args.batch.now) (sym c.as_slice.ensures.value) c.in_ok-edits.ensures in
    is_made c.args.graph.now c.args.batch.now _ c.requires.rising c.requires.short c.requires.room grouped c.in_ok-dealt_with.ensures.rows_rise _ c.in_ok-dealt_with.ensures.made

pub returns-clause-err : goal.returns-clause-err
returns-clause-err c =
    let grouped = subst (AreGrouped c.args.batch.now) (sym c.as_slice.ensures.value) c.in_ok-edits.ensures in
    refuses c.args.graph.now c.args.batch.now _ c.requires.rising c.requires.short c.requires.room grouped c.in_ok-dealt_with.ensures.rows_rise _ c.in_ok-dealt_with.ensures.made

pub returns-clause-rows : goal.returns-clause-rows
returns-clause-rows c =
    let grouped = subst (AreGrouped c.args.batch.now) (sym c.as_slice.ensures.value) c.in_ok-edits.ensures in
    rows_are c.args.graph.now c.args.batch.now _ c.requires.rising c.requires.short c.requires.room grouped c.in_ok-dealt_with.ensures.rows_rise _
    c.in_ok-dealt_with.ensures.made

pub returns-clause-first : goal.returns-clause-first
returns-clause-first c =
    let grouped = subst (AreGrouped c.args.batch.now) (sym c.as_slice.ensures.value) c.in_ok-edits.ensures in
    earliest c.args.graph.now c.args.batch.now _ c.requires.rising c.requires.short c.requires.room grouped c.in_ok-dealt_with.ensures.rows_rise _
    c.in_ok-dealt_with.ensures.made
