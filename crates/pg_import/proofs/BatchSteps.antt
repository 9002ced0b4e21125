-- The batch of a list of edges, line by line.
use Rattle.std.proofs.Common.{◌≡◌, ℕ, ◌+◌, ◌<◌, ◌≤◌, List, [], ◌∷◌, ◌++◌, length, get_or, take, drop, sym, ◌∙◌, append_assoc}
use Rattle.std.proofs.lemmas.List.{append-nil, at_drop_more, drop_all}
use Rattle.std.proofs.lemmas.List.Sums.{fold_more}
use Rattle.pg_graph.specs.Rows.{Rows}
use Rattle.pg_graph.specs.Handed.{Edit}
use Rattle.pg_import.specs.Batch.{batch_of, edge_edit, vertex_edits, with_ends, with_line, with_lines, with_vertex}
use Rattle.pg_import.specs.declared.line.Line.{Line}

-- a graph with one line more
pub with_lines-more : (lines : List Line) (line : Line) (i : ℕ) (rows : Rows) → i < length lines → line ≡ get_or lines i line
    → with_lines (take (i + 1) lines) rows ≡ with_line line (with_lines (take i lines) rows)
with_lines-more lines line i rows inside is =
    rw (← is) at (fold_more (λ before next. with_line next before) rows lines i line inside)

-- what is pushed for a line is the next part of the batch
pub batch_of-more : (lines : List Line) (line : Line) (i : ℕ) (before : Rows) (so_far whole : List Edit) → i < length lines
    → line ≡ get_or lines i line → so_far ++ batch_of (drop i lines) before ≡ whole
    → (((so_far ++ vertex_edits line.source before) ++ vertex_edits line.target (with_vertex line.source before)) ++ edge_edit line
    (with_ends line before) ∷ []) ++ batch_of (drop (i + 1) lines) (with_line line before) ≡ whole
unfolding batch_of
batch_of-more lines line i before so_far whole inside is had =
    let next = rw (← is) at (at_drop_more (λ unread. so_far ++ batch_of unread before) lines i line inside) in
    simp append_assoc (sym (simp append_assoc at next) ∙ had)

-- the batch is whole once no line is left
pub batch_of-end : (lines : List Line) (i : ℕ) (before : Rows) (so_far whole : List Edit) → length lines ≤ i
    → so_far ++ batch_of (drop i lines) before ≡ whole → so_far ≡ whole
unfolding batch_of
batch_of-end lines i before so_far whole past had = sym (append-nil so_far) ∙ rw (drop_all i lines past) at had
