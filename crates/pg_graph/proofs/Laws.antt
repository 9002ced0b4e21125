-- Laws of batches: one batch after another is one batch of both.
use Rattle.std.proofs.Common.{◌≡◌, ℕ, ◌+◌, ◌≤◌, List, [], ◌∷◌, ◌++◌, length, Result, Ok, Err, refl, sym, ap, ◌∙◌, arith, length-append}
use Rattle.pg_graph.specs.Edit.{edited, all_edited, batch_edited, batch_limit}
use Rattle.pg_graph.specs.Rows.{Rows}
use Rattle.pg_graph_rows.specs.declared.edit.Edit.{Edit}
use Rattle.pg_graph_rows.specs.declared.edit.EditFault.{EditFault}
use Rattle.pg_graph_rows.specs.declared.edit.EditKind.{EditKind}
use Rattle.pg_graph.proofs.Batches.{short_enough, all_edited-nil, after, first_edit, Err_not_Ok}

-- a result of edits that stand n places further on
abbrev pub further : ℕ → Result Rows EditFault → Result Rows EditFault
further n (Ok rows) = Ok rows
further n (Err fault) = Err (record { position = n + fault.position; kind = fault.kind })

all_edited-further : (n position : ℕ) (rows : Rows) (edits : List Edit) → all_edited (n + position) rows edits ≡ further n (all_edited position rows edits)
all_edited-further n position rows [] = all_edited-nil (n + position) rows ∙ sym (ap (further n) (all_edited-nil position rows))
all_edited-further n position rows (edit ∷ edits) =
    first_edit (n + position) rows edit edits ∙ by (edited rows edit) (λ changed. all_edited-further n (position + 1) changed edits)
    ∙ sym (ap (further n) (first_edit position rows edit edits))
  where
    by : (r : Result Rows EditKind)
        → ((changed : Rows) → all_edited (n + (position + 1)) changed edits ≡ further n (all_edited (position + 1) changed edits))
        → after (n + position) rows edits r ≡ further n (after position rows edits r)
    by (Ok changed) later = let at : n + position + 1 ≡ n + (position + 1) = omega arith in ap (λ p. all_edited p changed edits) at ∙ later changed
    by (Err kind) later = refl

-- edits in two parts: the second is made of what the first made
pub all_edited-append : (position : ℕ) (rows now : Rows) (first second : List Edit) → all_edited position rows first ≡ Ok now
    → all_edited position rows (first ++ second) ≡ all_edited (position + length first) now second
all_edited-append position rows now [] second made =
    let same : rows ≡ now = let e = sym (all_edited-nil position rows) ∙ made in cc in
    let at : position + 0 ≡ position = omega arith in
    ap (λ r. all_edited position r second) same ∙ sym (ap (λ p. all_edited p now second) at)
all_edited-append position rows now (edit ∷ first) second made =
    by (edited rows edit) refl (λ changed later. all_edited-append (position + 1) changed now first second later)
    (sym (first_edit position rows edit first) ∙ made)
  where
    by : (r : Result Rows EditKind) → edited rows edit ≡ r
        → ((changed : Rows) → all_edited (position + 1) changed first ≡ Ok now
        → all_edited (position + 1) changed (first ++ second) ≡ all_edited (position + 1 + length first) now second)
        → after position rows first (edited rows edit) ≡ Ok now
        → all_edited position rows ((edit ∷ first) ++ second) ≡ all_edited (position + length (edit ∷ first)) now second
    by (Ok changed) e later done =
        let rest : all_edited (position + 1) changed first ≡ Ok now = sym (ap (after position rows first) e) ∙ done in
        let at : position + 1 + length first ≡ position + length (edit ∷ first) = omega arith in
        first_edit position rows edit (first ++ second) ∙ ap (after position rows (first ++ second)) e ∙ later changed rest
        ∙ ap (λ p. all_edited p now second) at
    by (Err kind) e later done = let f : after position rows first (Err kind) ≡ Ok now = sym (ap (after position rows first) e) ∙ done in
        absurd (Err_not_Ok f)

-- a batch of two parts is the first part, and then the second of what the first made
pub batch_edited-append : (rows now : Rows) (first second : List Edit) → length (first ++ second) ≤ batch_limit → batch_edited rows first ≡ Ok now
    → batch_edited rows (first ++ second) ≡ further (length first) (batch_edited now second)
batch_edited-append rows now first second short made =
    let both = length-append first second in
    let at : 1 + length first ≡ length first + 1 = omega arith in
    short_enough rows (first ++ second) short
    ∙ all_edited-append 1 rows now first second (sym (short_enough rows first (omega (arith, both))) ∙ made)
    ∙ ap (λ p. all_edited p now second) at
    ∙ all_edited-further (length first) 1 now second
    ∙ sym (ap (further (length first)) (short_enough now second (omega (arith, both))))
