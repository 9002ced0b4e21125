use Rattle.std.proofs.Common.{◌≡◌, ℕ, ◌+◌, ◌<◌, List, [], ◌∷◌, ◌++◌, Option, sym, subst, ap, ◌∙◌, arith}
use Rattle.pg_map.specs.Entries.{ChangesRise}
use Rattle.pg_map.proofs.Parts.{Below, none_rise, rises_push}
use Rattle.tests_storage.proofs.map.each_below.Goals as goal

below_push : {X : Type 0} (changes : List (ℕ × X)) (number id : ℕ) (value : X) → id ≡ number → Below number changes
    → Below (number + 1) (changes ++ (id, value) ∷ [])
below_push [] number id value same below = (omega (arith, same), tt)
below_push (c ∷ changes) number id value same below = (omega (arith, below.0), below_push changes number id value same below.1)

pub loop-number-init : goal.loop-number-init
loop-number-init c = record {
  rise = none_rise _ c.new-changes.ensures.items;
  below = subst (Below 0) (sym c.new-changes.ensures.items) tt;
}

pub loop-number-preserved : goal.loop-number-preserved
loop-number-preserved c =
    let now = c.loop-number in
    let items = now.changes.items in
    let pushed = c.in_ok-push.ensures.items in
    let id = c.id.ensures in record {
      rise = subst ChangesRise (sym pushed) (rises_push items c.id.result _ now.invariant.rise (subst (λ n. Below n items) (sym id) now.invariant.below));
      below = subst (Below (now.number + 1)) (sym pushed) (below_push items now.number c.id.result _ id now.invariant.below);
    }
