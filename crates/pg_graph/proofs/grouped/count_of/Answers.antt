use Rattle.std.proofs.Common.{◌≡◌, ◌≤◌, ℕ, leb, false, ap, sym, ◌∙◌, arith}
use Rattle.std.proofs.lemmas.Bool.Decides.{nat_tests}
use Rattle.std.proofs.lemmas.List.{get_or_default}
use Rattle.pg_graph_rows.specs.RowEdit.{source_of}
use Rattle.pg_graph.proofs.grouped.count_of.Goals as goal

above : (a b id : ℕ) → leb a id ≡ false → a ≤ b → leb b id ≡ false
above a b id h le = grind (arith, nat_tests)

pub returns-then-not-is_at_most-clause-parts : goal.returns-then-not-is_at_most-clause-parts
returns-then-not-is_at_most-clause-parts c = (
  c.loop-count.invariant,
  λ k d from within.
      let edit = c.index-edits-count.result in
      let here = c.index-edits-count.is ∙ get_or_default c.args.edits.now c.loop-count.count edit d (omega (arith, from, within)) in
      let source = c.source.ensures ∙ ap (λ e. source_of e.1) here in
      let high = ap (λ n. leb n c.args.id) (sym source) ∙ sym c.is_at_most.ensures ∙ c.if-not-is_at_most.true in
      above _ _ c.args.id high (c.requires c.loop-count.count k d from within),
)
