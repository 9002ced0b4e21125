-- Envelopes in memory that copies share.
use Rattle.std.specs.Prelude.{ℕ, List, [], None, Some}
use Rattle.std.specs.Arc.{arc_value}
use Rattle.pg_inbox_bundles.specs.declared.envelopes.Envelopes.{Envelopes}

-- each with its target
abbrev pub envelopes_of : {M : Type 0} → Envelopes M → List (ℕ × (ℕ × M))
envelopes_of envelopes = elim envelopes.shared [ None ↦ [] | Some shared ↦ (arc_value shared).items ]
