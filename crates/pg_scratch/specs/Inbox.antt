-- What one more message makes of an inbox, and of all inboxes.
use Rattle.std.specs.Prelude.{ℕ, List, [], ◌∷◌, ◌++◌, map, Option, None, Some}
use Rattle.pg_model.specs.Job.{Combining}
use Rattle.pg_model.specs.Superstep.{delivered}
use Rattle.pg_model.specs.declared.configuration.VertexWithInbox.{VertexWithInbox}

module _ {M : Type 0} where
  -- what the messages of an inbox have come to
  abbrev pub combined_so_far : Combining M → List M → M
  combined_so_far c [] = c.initial
  combined_so_far c (before ∷ rest) = before

  -- the inbox with one more message, where the combiner leaves one message at most
  abbrev pub with_message : Option (Combining M) → List M → M → List M
  with_message None inbox m = inbox ++ m ∷ []
  with_message (Some c) [] m = c.combine c.initial m ∷ []
  with_message (Some c) (before ∷ rest) m = c.combine before m ∷ []

-- the vertices with what is delivered to each of these messages, and nothing else
abbrev pub with_messages : {V M : Type 0} → Option (Combining M) → List (ℕ × M) → List (VertexWithInbox V M)
    → List (VertexWithInbox V M)
with_messages combining sent xs = map (λ x. record { state = x.state; inbox = delivered combining x.state.id sent }) xs
