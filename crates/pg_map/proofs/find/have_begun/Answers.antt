use Rattle.std.proofs.Common.{◌≡◌, ◌+◌, ◌-◌, ◌<◌, length, leb, sym, ap, ◌∙◌, arith}
use Rattle.pg_map.proofs.Begun.{begun_by_last, begun_by_two, no_by}
use Rattle.pg_map.proofs.find.have_begun.Goals as goal

pub returns-then-count-parts-2-clause-parts : goal.returns-then-count-parts-2-clause-parts
returns-then-count-parts-2-clause-parts g c = λ _.
    let parts = c.args.parts.now in
    let last : c.args.count - 1 + 1 ≡ c.args.count = omega (arith, c.if-count-eq0.false) in
    begun_by_last (λ part. part.first) parts c.requires c.args.id c.args.count (c.args.count - 1) last c.if-count-parts.false
    c.index-parts-count.result c.index-parts-count.is c.if-count-parts-2.true
    (ap (λ x. leb x.first c.args.id) c.index-parts-count.is ∙ sym c.is_at_most.ensures ∙ c.if-not-is_at_most.false)

pub returns-clause-parts : goal.returns-clause-parts
returns-clause-parts g c = λ yes.
    let parts = c.args.parts.now in
    let last : c.args.count - 1 + 1 ≡ c.args.count = omega (arith, c.if-count-eq0.false) in
    let inside : c.args.count < length parts = omega (arith, c.if-count-parts.false, c.if-count-parts-2.false) in
    begun_by_two (λ part. part.first) parts c.requires c.args.id c.args.count (c.args.count - 1) last c.if-count-parts.false
    c.index-parts-count.result c.index-parts-count.is c.index-parts-count-2.result c.index-parts-count-2.is inside
    (ap (λ x. leb x.first c.args.id) c.index-parts-count.is ∙ sym c.is_at_most.ensures ∙ c.if-not-is_at_most.false)
    (ap (λ x. leb x.first c.args.id) c.index-parts-count-2.is ∙ sym c.is_at_most-2.ensures ∙ no_by _ yes)
