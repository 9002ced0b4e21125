use Rattle.std.proofs.Common.{◌≡◌, ◌+◌, ◌-◌, ◌<◌, length, leb, sym, ap, ◌∙◌, arith}
use Rattle.pg_map.proofs.Begun.{begun_by_last, begun_by_two, no_by}
use Rattle.pg_trace_index.proofs.InChunks.{firsts_rise}
use Rattle.pg_trace_index.proofs.chunk.have_begun.Goals as goal

pub returns-then-count-chunks-2-clause-parts : goal.returns-then-count-chunks-2-clause-parts
returns-then-count-chunks-2-clause-parts g c = λ _.
    let chunks = c.args.chunks.now in
    let last : c.args.count - 1 + 1 ≡ c.args.count = omega (arith, c.if-count-eq0.false) in
    begun_by_last (λ c. c.first) chunks (firsts_rise chunks c.requires.start c.requires.rise) c.args.id c.args.count (c.args.count - 1) last
    c.if-count-chunks.false c.index-chunks-count.result c.index-chunks-count.is c.if-count-chunks-2.true
    (ap (λ x. leb x.first c.args.id) c.index-chunks-count.is ∙ sym c.is_at_most.ensures ∙ c.if-not-is_at_most.false)

pub returns-clause-parts : goal.returns-clause-parts
returns-clause-parts g c = λ yes.
    let chunks = c.args.chunks.now in
    let last : c.args.count - 1 + 1 ≡ c.args.count = omega (arith, c.if-count-eq0.false) in
    let inside : c.args.count < length chunks = omega (arith, c.if-count-chunks.false, c.if-count-chunks-2.false) in
    begun_by_two (λ c. c.first) chunks (firsts_rise chunks c.requires.start c.requires.rise) c.args.id c.args.count (c.args.count - 1) last
    c.if-count-chunks.false c.index-chunks-count.result c.index-chunks-count.is c.index-chunks-count-2.result c.index-chunks-count-2.is inside
    (ap (λ x. leb x.first c.args.id) c.index-chunks-count.is ∙ sym c.is_at_most.ensures ∙ c.if-not-is_at_most.false)
    (ap (λ x. leb x.first c.args.id) c.index-chunks-count-2.is ∙ sym c.is_at_most-2.ensures ∙ no_by _ yes)
