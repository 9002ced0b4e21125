use Rattle.std.proofs.Common.{◌≡◌, ◌<◌, length, nat_eq, false, sym, ap, ◌∙◌, arith}
use Rattle.std.proofs.lemmas.Bool.Decides.{nat_tests}
use Rattle.pg_map.proofs.Gapless.{entry_there, parts_there}
use Rattle.pg_map.proofs.find.place_without_gaps.Goals as goal

pub returns-clause-here : goal.returns-clause-here
returns-clause-here g c =
    let entries = c.args.entries.now in
    let first = c.index-entries-0 in
    let last = c.index-entries-end in
    let differs : nat_eq (length entries) 0 ≡ false = sym c.is_empty.ensures ∙ c.if-is_empty.false in
    let some : 0 < length entries = grind (arith, nat_tests) in
    let begins = c.number-first.ensures.value ∙ sym (ap (λ x. x.0) first.is) in
    let ends = c.number-last.ensures.value ∙ sym (ap (λ x. x.0) last.is) in
    entry_there entries c.requires first.result last.result first.is last.is some c.number-first.result c.number-last.result c.number-number.result c.args.id
    begins ends c.number-number.ensures.value c.if-number-first.false c.if-number-last.false c.if-last-first.false

pub returns-clause-parts : goal.returns-clause-parts
returns-clause-parts g c =
    let entries = c.args.entries.now in
    let first = c.index-entries-0 in
    let last = c.index-entries-end in
    let differs : nat_eq (length entries) 0 ≡ false = sym c.is_empty.ensures ∙ c.if-is_empty.false in
    let some : 0 < length entries = grind (arith, nat_tests) in
    let begins = c.number-first.ensures.value ∙ sym (ap (λ x. x.0) first.is) in
    let ends = c.number-last.ensures.value ∙ sym (ap (λ x. x.0) last.is) in
    parts_there entries c.requires first.result last.result first.is last.is some c.number-first.result c.number-last.result c.number-number.result c.args.id
    begins ends c.number-number.ensures.value c.if-number-first.false c.if-number-last.false c.if-last-first.false
