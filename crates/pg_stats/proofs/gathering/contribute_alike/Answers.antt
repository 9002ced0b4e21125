use Rattle.std.proofs.Common.{◌≡◌, ◌+◌, ◌<◌, ◌&&◌, ◌∷◌, ℕ, Bool, List, suc, ap, drop, drop-cons, get_or, length, sym, ◌∙◌, arith}
use Rattle.std.specs.List.{list_all}
use Rattle.pg_stats.specs.Contributed.{contributes_alike}
use Rattle.pg_stats.proofs.gathering.contribute_alike.Goals as goal

from_here : (p : ℕ → Bool) (ids : List ℕ) (i : ℕ) {id : ℕ} → i < length ids → id ≡ get_or ids i id
    → list_all p (drop i ids) ≡ (p id && list_all p (drop (i + 1) ids))
from_here p ids i {id} within is =
    let next : suc i ≡ i + 1 = omega arith in
    ap (list_all p) (drop-cons ids i id within ∙ ap (λ y. y ∷ drop (suc i) ids) (sym is) ∙ ap (λ k. id ∷ drop k ids) next)

pub loop-id-preserved : goal.loop-id-preserved
loop-id-preserved g c =
    let p = contributes_alike c.args.old.now c.args.new.now c.args.superstep in
    let ids = c.args.ids.now in
    let i = c.loop-id.id-index in
    sym (ap (λ (b : Bool). b && list_all p (drop (i + 1) ids)) (sym c.contributes_alike.ensures ∙ c.if-not-contributes_alike.false))
    ∙ sym (from_here p ids i c.loop-id-test.true c.id-item.is) ∙ c.loop-id.invariant

pub returns-then-not-contributes_alike : goal.returns-then-not-contributes_alike
returns-then-not-contributes_alike g c =
    let p = contributes_alike c.args.old.now c.args.new.now c.args.superstep in
    let ids = c.args.ids.now in
    let i = c.loop-id.id-index in
    sym (sym c.loop-id.invariant ∙ from_here p ids i c.loop-id-test.true c.id-item.is
    ∙ ap (λ (b : Bool). b && list_all p (drop (i + 1) ids)) (sym c.contributes_alike.ensures ∙ c.if-not-contributes_alike.true))
