use Rattle.std.proofs.Common.{◌≡◌, ◌-◌, ◌≤◌, length, ltb, true, false, sym, ap, ◌∙◌, arith}
use Rattle.pg_map.proofs.Begun.{no_by}
use Rattle.pg_sort.proofs.Neighbours.{parted, tested, yes_by}
use Rattle.pg_sort.proofs.near.are_below.Goals as goal
use Rattle.pg_sort.proofs.near.are_below.Goals.{then-count-gt0, else-count-gt0}

pub returns-else-count-items-2-clause-parts : goal.returns-else-count-items-2-clause-parts
returns-else-count-items-2-clause-parts g c = λ yes.
    let number = g.T.HasId.id_of in
    let items = c.args.items.now in
    let count = c.args.count in
    let id = c.args.id in
    let within : count ≤ length items = omega (arith, c.if-count-items.false) in
    let at = c.index-items-count-else-count-items-2 in
    parted number items c.requires id count within
    (λ d some. elim c.if-count-gt0.branch [
      | then-count-gt0 w ↦ tested number items id (count - 1) w.index-items-count.result true w.index-items-count.is (omega (arith, within, some))
          (ap (λ k. ltb k id) (sym w.id.ensures) ∙ sym w.is_below.ensures ∙ yes_by w.is_below.result (sym w.value-is ∙ c.if-not-is_below.false)) d
      | else-count-gt0 w ↦ absurd (omega (arith, some, w.if-count-gt0.false))
    ])
    (λ d inside. tested number items id count at.result false at.is inside
    (ap (λ k. ltb k id) (sym c.id-else-count-items-2.ensures) ∙ sym c.is_below-else-count-items-2.ensures ∙ no_by _ yes) d)
