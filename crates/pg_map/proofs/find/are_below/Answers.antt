use Rattle.std.proofs.Common.{◌≡◌, ◌+◌, ◌-◌, ◌<◌, length, ltb, suc, suc-le-suc, sym, ap, ◌∙◌, arith}
use Rattle.pg_map.proofs.Begun.{begun_by_last, begun_by_two, no_by}
use Rattle.pg_map.proofs.Search.{rises}
use Rattle.pg_map.proofs.find.are_below.Goals as goal

pub returns-then-count-entries-2 : goal.returns-then-count-entries-2
returns-then-count-entries-2 g c = λ _.
    let entries = c.args.entries.now in
    let last : c.args.count - 1 + 1 ≡ c.args.count = omega (arith, c.if-count-eq0.false) in
    begun_by_last (λ e. suc e.0) entries (λ i j d h w. suc-le-suc (rises entries i j d c.requires h w)) c.args.id c.args.count (c.args.count - 1)
    last c.if-count-entries.false c.index-entries-count.result c.index-entries-count.is c.if-count-entries-2.true
    (ap (λ e. ltb e.0 c.args.id) c.index-entries-count.is ∙ sym c.is_below.ensures ∙ c.if-not-is_below.false)

pub returns : goal.returns
returns g c = λ yes.
    let entries = c.args.entries.now in
    let last : c.args.count - 1 + 1 ≡ c.args.count = omega (arith, c.if-count-eq0.false) in
    let inside : c.args.count < length entries = omega (arith, c.if-count-entries.false, c.if-count-entries-2.false) in
    begun_by_two (λ e. suc e.0) entries (λ i j d h w. suc-le-suc (rises entries i j d c.requires h w)) c.args.id c.args.count (c.args.count - 1)
    last c.if-count-entries.false c.index-entries-count.result c.index-entries-count.is c.index-entries-count-2.result c.index-entries-count-2.is
    inside (ap (λ e. ltb e.0 c.args.id) c.index-entries-count.is ∙ sym c.is_below.ensures ∙ c.if-not-is_below.false)
    (ap (λ e. ltb e.0 c.args.id) c.index-entries-count-2.is ∙ sym c.is_below-2.ensures ∙ no_by _ yes)
