-- The contributions to a place, of two lists.
use Rattle.std.proofs.Common.{◌≡◌, ℕ, ℤ, List, ◌++◌, map, ap, filter, ◌∙◌}
use Rattle.std.specs.Prelude.{◌==◌}
use Rattle.std.proofs.lemmas.List.{map-append}
use Rattle.std.proofs.lemmas.List.Elements.{filter-append}
use Rattle.pg_model.specs.Superstep.{at_place}

pub at_place-append : (place : ℕ) (a b : List (ℕ × ℤ)) → at_place place (a ++ b) ≡ at_place place a ++ at_place place b
at_place-append place a b =
    ap (map (λ (c : ℕ × ℤ). c.1)) (filter-append (λ (c : ℕ × ℤ). c.0 == place) a b)
    ∙ map-append (λ (c : ℕ × ℤ). c.1) (filter (λ (c : ℕ × ℤ). c.0 == place) a) (filter (λ (c : ℕ × ℤ). c.0 == place) b)
