-- A number of edges that may not be known.
use Rattle.std.specs.Prelude.{◌≡◌, ℕ, ◌+◌, Option, IfSome, length}
use Rattle.pg_model.specs.declared.configuration.VertexWithInbox.{VertexWithInbox}

-- it is this number, where it is known
abbrev pub Counts : Option ℕ → ℕ → Type 0
Counts known n = IfSome known (λ m. m ≡ n)

-- the number of all edges goes from one to the other, as a vertex with its edges takes the place of another
abbrev pub Exchanges : {V M : Type 0} → Option ℕ → Option ℕ → VertexWithInbox V M → VertexWithInbox V M → Type 0
Exchanges old new x y = (rest : ℕ) → Counts old (rest + length x.state.edges) → Counts new (rest + length y.state.edges)
