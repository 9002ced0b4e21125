-- The order of a superstep's messages: by sender, and then by the order in which that sender sent (this project's;
-- Pregel, section 2.1, promises none).
use Rattle.std.specs.Prelude.{◌≡◌, ℕ, ◌+◌, List, [], ◌∷◌, Some}
use Rattle.std.specs.List.{flat_map, slice_get, Contains}
use Rattle.std.specs.Ordering.{nat_cmp, ordering_then}
use Rattle.std.specs.declared.cmp.Ordering.{Ordering}
use Rattle.pg_model.specs.Job.{Program}
use Rattle.pg_model.specs.Superstep.{outcome}
use Rattle.pg_model.specs.declared.configuration.VertexWithInbox.{VertexWithInbox}
use Rattle.pg_model.specs.declared.view.View.{View}

-- a message with who sent it, and how many that sender had sent before it in the superstep
pub record Sending (M : Type 0) : Type 0 where
  pub sender : ℕ
  pub place : ℕ
  pub target : ℕ
  pub message : M

-- by sender, and then by place
abbrev pub sending_cmp : {M : Type 0} → Sending M → Sending M → Ordering
sending_cmp a b = ordering_then (nat_cmp a.sender b.sender) (nat_cmp a.place b.place)

module _ {M : Type 0} where
  -- what one sender sent, from `place` on
  abbrev pub sendings_from : ℕ → ℕ → List (ℕ × M) → List (Sending M)
  sendings_from sender place [] = []
  sendings_from sender place (m ∷ ms) =
      record { sender = sender; place = place; target = m.0; message = m.1 } ∷ sendings_from sender (place + 1) ms

module _ {V M : Type 0} (program : Program V M) (view : View) (xs : List (VertexWithInbox V M)) where
  -- all messages of a superstep
  abbrev pub sendings : List (Sending M)
  sendings = flat_map (λ x. sendings_from x.state.id 0 (outcome program view x).sent) xs

  -- a vertex sent this message, at this place among all that it sent in the superstep
  pub record IsSent (t : Sending M) : Type 0 where
    pub vertex : VertexWithInbox V M
    pub present : Contains xs vertex
    pub by : vertex.state.id ≡ t.sender
    pub nth : slice_get (outcome program view vertex).sent t.place ≡ Some (t.target, t.message)
