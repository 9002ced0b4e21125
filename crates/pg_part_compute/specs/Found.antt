-- The vertices that a step looks at, as it finds them in the new run and in the old one.
use Rattle.std.specs.Prelude.{◌≡◌, ℕ, ◌==◌, ◌&&◌, ◌||◌, not, Bool, true, false, cond, List, [], ◌∷◌, Option, None, Some}
use Rattle.std.specs.Prelude.{is_some}
use Rattle.std.specs.Cmp.Lexicographic.{pointwise}
use Rattle.std.specs.List.{AllByRecursion}
use Rattle.std.specs.Option.{option_and_then, option_map}
use Rattle.pg_graph.specs.declared.missing.Missing.{Missing}
use Rattle.pg_inbox.specs.Handed.{MessageLists}
use Rattle.pg_inbox.specs.Inboxes.{Delivers}
use Rattle.pg_model.specs.ByIds.{arriving, with_inbox_with}
use Rattle.pg_model.specs.Job.{Combining, Inputs, Program}
use Rattle.pg_model.specs.Needed.{edge_eq, inputs_if_active, view_eq}
use Rattle.pg_model.specs.Superstep.{is_active}
use Rattle.pg_model.specs.declared.configuration.VertexWithInbox.{VertexWithInbox}
use Rattle.pg_model.specs.declared.configuration.VertexState.{VertexState}
use Rattle.pg_model.specs.declared.record.Record.{Record}
use Rattle.pg_model.specs.declared.view.View.{View}
use Rattle.pg_part_compute.specs.declared.found.VertexPair.{VertexPair}
use Rattle.pg_trace.specs.Trace.{Trace, state_at}

-- the vertices of a superstep see the same
abbrev pub is_same_view : View → View → Bool
is_same_view old new = view_eq (λ (x y : ℕ). true) (λ (x y : ℕ). true) old new

module _ {V M : Type 0} where
  -- the vertex with an id, by its state, if it has one, and what is delivered to it
  abbrev pub vertex_of : Program V M → Missing → ℕ → Option (VertexState V) → List M → Option (VertexWithInbox V M)
  vertex_of program missing id state delivered = with_inbox_with program id state (arriving missing state delivered)

  -- a vertex with this state, if it is there, and with what is delivered to it
  abbrev pub with_inbox_of : Option (VertexState V) → List M → Option (VertexWithInbox V M)
  with_inbox_of state delivered = option_map (λ x. record { state = x; inbox = delivered }) state

  -- the same by the state that a trace has of it, where these bundles are to its partition
  pub record IsFound (program : Program V M) (missing : Missing) (combining : Option (Combining M)) (trace : Trace V M)
      (s : ℕ)
      (bundles : List (MessageLists M)) (id : ℕ) (found : Option (VertexWithInbox V M)) : Type 0 where
    pub inbox : List M
    pub delivers : Delivers combining id bundles inbox
    pub is : found ≡ vertex_of program missing id (state_at id s trace) inbox

  -- what a vertex reads, where it is there and active
  abbrev pub reads : View → Option (VertexWithInbox V M) → Option (Inputs V M)
  reads view x = option_and_then (inputs_if_active view) x

  -- it is there and active
  abbrev pub is_running : Option (VertexWithInbox V M) → Bool
  is_running None = false
  is_running (Some x) = is_active x

  -- it is executed in neither of two runs
  abbrev pub are_inactive : Option (VertexWithInbox V M) → Option (VertexWithInbox V M) → Bool
  are_inactive old new = not (is_running old) && not (is_running new)

  -- identical but for their votes
  pub record IsSameVertex (x y : VertexWithInbox V M) : Type 0 where
    pub id : x.state.id ≡ y.state.id
    pub value : x.state.value ≡ y.state.value
    pub edges : x.state.edges ≡ y.state.edges
    pub inbox : x.inbox ≡ y.inbox

  -- where both are there, they are
  abbrev pub AreSameVertices : Option (VertexWithInbox V M) → Option (VertexWithInbox V M) → Type 0
  AreSameVertices None new = Unit {0}
  AreSameVertices (Some x) None = Unit {0}
  AreSameVertices (Some x) (Some y) = IsSameVertex x y

  module _ (is_value : V → Type 0) (is_message : M → Type 0) where
    -- its value and the messages to it are values of their types, if it is there
    abbrev pub HasValues : Option (VertexWithInbox V M) → Type 0
    HasValues None = Unit {0}
    HasValues (Some x) = is_value x.state.value × AllByRecursion is_message x.inbox

    -- in both runs
    abbrev pub HaveValues : VertexPair V M → Type 0
    HaveValues c = HasValues c.old × HasValues c.new

  -- what its execution makes of its record, or that there is none, unless the record stays
  abbrev pub change_unless : Program V M → View → Bool → VertexPair V M → List (ℕ × Option (Record V M))
  change_unless program view reused c = cond reused [] ((c.id, option_map program.step (reads view c.new)) ∷ [])

  -- the same where there is no other run: the record stays unless it is executed
  abbrev pub change_cold : Program V M → View → VertexPair V M → List (ℕ × Option (Record V M))
  change_cold program view c = change_unless program view (not (is_running c.new)) c

  module _ (value_eq : V → V → Bool) (message_eq : M → M → Bool) where
    -- the same id, value, edges and messages
    abbrev pub is_same_vertex : VertexWithInbox V M → VertexWithInbox V M → Bool
    is_same_vertex x y =
        (x.state.id == y.state.id) && (value_eq x.state.value y.state.value
        && (pointwise (edge_eq value_eq message_eq) x.state.edges y.state.edges
        && pointwise message_eq x.inbox y.inbox))

    -- both are active, and the same
    abbrev pub are_same_reading : Option (VertexWithInbox V M) → Option (VertexWithInbox V M) → Bool
    are_same_reading None new = false
    are_same_reading (Some x) None = false
    are_same_reading (Some x) (Some y) = is_active x && (is_active y && is_same_vertex x y)

    -- it reads what it read in the old run, where the view is seen again
    abbrev pub is_taken_over : Bool → VertexPair V M → Bool
    is_taken_over same_view c = same_view && are_same_reading c.old c.new

    -- its record stays as it was in the old run: it reads the same, or nothing in both
    abbrev pub is_reused : Bool → VertexPair V M → Bool
    is_reused same_view c = is_taken_over same_view c || are_inactive c.old c.new

    -- one that is found the same is
    abbrev pub IsEqSound : VertexPair V M → Type 0
    IsEqSound c = are_same_reading c.old c.new ≡ true → AreSameVertices c.old c.new

    module _ (program : Program V M) (view : View) (same_view : Bool) where
      -- what the superstep makes of its record: nothing new, or that of its execution, or none
      abbrev pub change_of : VertexPair V M → List (ℕ × Option (Record V M))
      change_of c = change_unless program view (is_reused same_view c) c

      -- it is executed
      abbrev pub is_run : VertexPair V M → Bool
      is_run c = not (is_taken_over same_view c) && is_some (reads view c.new)
