use Rattle.std.proofs.Common.{◌≡◌, ◌+◌, ◌<◌, List, ℕ, [], length, map, sym, ap, ◌∙◌, inl, inr, arith, refl}
use Rattle.std.proofs.lemmas.Bool.Decides.{nat_tests}
use Rattle.std.proofs.lemmas.Grind.{common_steps}
use Rattle.std.proofs.lemmas.Result.{err_from_is_err_and}
use Rattle.pg_import.specs.Import.{Reading, edges_from, followed_by, list_of, reading_of}
use Rattle.pg_import.specs.Text.{line_of, raw_lines, words_of}
use Rattle.pg_import.proofs.Readings.{edges_from-end, edges_from-first, followed_by-none}
use Rattle.pg_import.proofs.TextLines.{length-raw_lines, raw_lines-some}
use Rattle.pg_import.proofs.list.read_list.Goals as goal

abbrev reading_of_raw : List ℕ → Reading
reading_of_raw raw = reading_of (words_of (line_of raw))

pub loop-unread-init : goal.loop-unread-init
unfolding list_of
loop-unread-init c = (omega arith, rw c.in-Ok.ensures.items (followed_by-none _))

pub overflow_add-number : goal.overflow_add-number
overflow_add-number c =
    let some : 0 < length c.loop-unread.unread.now = grind (arith, nat_tests) in
    omega (arith, c.loop-unread.invariant.0, raw_lines-some c.loop-unread.unread.now some, length-raw_lines c.args.text.now)

pub loop-unread-smaller : goal.loop-unread-smaller
loop-unread-smaller c = c.first_line-reading.ensures.shorter

pub loop-unread-preserved : goal.loop-unread-preserved
loop-unread-preserved c =
    let first = c.first_line-reading.ensures in
    let number = c.loop-unread.number + 1 in
    let others = edges_from (number + 1) (map reading_of_raw (raw_lines c.first_line-reading.result.1.now)) in
    let next = edges_from-first reading_of_raw (raw_lines c.loop-unread.unread.now) first.raw _ number c.loop-unread.lines.items first.lines in
    let added = rw first.reads at (c.in_ok-add_reading.ensures.ok others) in
    (omega (arith, rw first.lines at c.loop-unread.invariant.0), sym added ∙ sym next ∙ c.loop-unread.invariant.1)

pub returns-in_err-add_reading : goal.returns-in_err-add_reading
returns-in_err-add_reading c =
    let first = c.first_line-reading.ensures in
    let number = c.loop-unread.number + 1 in
    let others = edges_from (number + 1) (map reading_of_raw (raw_lines c.first_line-reading.result.1.now)) in
    let next = edges_from-first reading_of_raw (raw_lines c.loop-unread.unread.now) first.raw _ number c.loop-unread.lines.items first.lines in
    let p = err_from_is_err_and c.from_residual.result c.from_residual.ensures.1 in
    rw (p.1, p.2) (elim c.in_err-add_reading.ensures.err [
      | inl memory ↦ inl memory
      | inr fault ↦ inr (sym c.loop-unread.invariant.1 ∙ next ∙ ap (followed_by c.loop-unread.lines.items) (rw first.reads at (fault others)))
    ])

pub returns : goal.returns
returns c =
    let none : c.loop-unread.unread.now ≡ [] = grind (arith, nat_tests, common_steps) in
    sym c.loop-unread.invariant.1
    ∙ rw none (edges_from-end reading_of_raw (raw_lines []) (c.loop-unread.number + 1) c.loop-unread.lines.items refl)
