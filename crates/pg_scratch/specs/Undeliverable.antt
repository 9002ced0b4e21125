-- Vertices that stand for nothing but their inboxes.
use Rattle.std.specs.Prelude.{ℕ, Bool, false, true, []}
use Rattle.pg_model.specs.declared.configuration.VertexWithInbox.{VertexWithInbox}

-- with nothing received
abbrev pub blank : {M : Type 0} → ℕ → VertexWithInbox Bool M
blank id = record { state = record { id = id; value = false; edges = []; halted = true }; inbox = [] }
