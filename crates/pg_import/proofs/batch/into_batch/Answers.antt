use Rattle.std.proofs.Common.{length, take, refl, arith}
use Rattle.std.proofs.lemmas.Option.{slice_get_read}
use Rattle.pg_import.proofs.BatchLaw.{Makes-batch_of}
use Rattle.pg_import.proofs.BatchSteps.{batch_of-end, batch_of-more, with_lines-more}
use Rattle.pg_import.proofs.Graphs.{has_vertex-with_ends}
use Rattle.pg_import.specs.Batch.{batch_of, with_ends, with_lines, with_vertex}
use Rattle.pg_import.proofs.batch.into_batch.Goals as goal

pub name_vertex-requires-in-loop-place : goal.name_vertex-requires-in-loop-place
name_vertex-requires-in-loop-place c =
    let lines = c.args.lines.now in
    let line = c.index-lines-place.result in
    let at = slice_get_read lines (length lines) c.loop-place.place line refl (omega (arith, c.loop-place-test.true)) c.index-lines-place.is in
    (c.at-ranks.ensures c.args.graph.now lines line at c.in_ok-vertices.ensures.known).1

pub loop-place-preserved : goal.loop-place-preserved
loop-place-preserved c =
    let lines = c.args.lines.now in
    let line = c.index-lines-place.result in
    let i = c.loop-place.place in
    let graph = c.args.graph.now in
    let before = with_lines (take i lines) graph in
    let source = c.in_ok-source.ensures before c.loop-place.invariant.shows in
    let target = c.in_ok-target.ensures (with_vertex line.source before) source.1 in
    let edge = c.in_ok-edge.ensures (with_ends line before) target.1 (has_vertex-with_ends line before) in
    let pushed_source = c.in_ok-push_vertex.ensures before source.0 in
    let pushed_target = c.in_ok-push_vertex-2.ensures (with_vertex line.source before) target.0 in
    let pushed_edge = c.in_ok-push_edge.ensures (with_ends line before) edge.0 in
    let after = with_lines-more lines line i graph (omega arith) c.index-lines-place.is in
    record {
      shows = rw after edge.1;
      so_far = rw (after, pushed_edge, pushed_target, pushed_source)
          (batch_of-more lines line i before c.loop-place.batch (batch_of lines graph) (omega arith) c.index-lines-place.is c.loop-place.invariant.so_far);
    }

pub returns-clause-value : goal.returns-clause-value
returns-clause-value c =
    batch_of-end c.args.lines.now c.loop-place.place _ c.loop-place.batch _ (omega arith) c.loop-place.invariant.so_far

pub returns-clause-makes : goal.returns-clause-makes
returns-clause-makes c =
    rw (batch_of-end c.args.lines.now c.loop-place.place _ c.loop-place.batch _ (omega arith) c.loop-place.invariant.so_far)
    (Makes-batch_of c.args.lines.now c.args.graph.now)
