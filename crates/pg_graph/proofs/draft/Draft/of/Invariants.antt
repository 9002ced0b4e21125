use Rattle.std.proofs.Common.{◌≡◌, ◌+◌, ◌≤◌, drop, length}
use Rattle.pg_graph.specs.Edit.{all_edited}
use Rattle.pg_graph.proofs.draft.Draft.of.Given as goal

abbrev pub invariant-loop-edit : goal.invariant-loop-edit
invariant-loop-edit l = record {
  of_graph : l.draft.0 ≡ l.graph;
  counted : l.position ≡ l.edit-index + 1;
  edited : all_edited l.position l.draft.1 (drop l.edit-index l.edits) ≡ all_edited 1 l.graph l.edits;
  short : length l.edits ≤ 100000;
}
