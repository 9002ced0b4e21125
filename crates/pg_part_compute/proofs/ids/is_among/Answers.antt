use Rattle.std.proofs.Common.{sym, ◌∙◌, arith}
use Rattle.std.proofs.lemmas.Bool.{le-ltb}
use Rattle.std.proofs.lemmas.Map.Keys.{non_decreasing_from_sorted}
use Rattle.pg_part_compute.proofs.Below.{missing, next_is}
use Rattle.pg_part_compute.proofs.ids.is_among.Goals as goal

pub count_below-place-requires : goal.count_below-place-requires
count_below-place-requires c = non_decreasing_from_sorted c.args.ids.now c.requires

pub returns-then-place-ids : goal.returns-then-place-ids
returns-then-place-ids c =
    c.eq.ensures
    ∙ next_is c.args.ids.now c.requires c.args.id c.count_below-place.result c.count_below-place.ensures.parts c.index-ids-place.result c.if-place-ids.true
    c.index-ids-place.is

pub returns-else-place-ids : goal.returns-else-place-ids
returns-else-place-ids c =
    le-ltb _ _ c.if-place-ids.false
    ∙ sym
    (missing c.args.ids.now c.requires c.args.id c.count_below-place.result c.count_below-place.ensures.parts
    (λ d inside. absurd (omega (arith, inside, c.if-place-ids.false))))
