-- A run seen by ids: what it has of each id, and of those that a test picks (this project's).
use Rattle.std.specs.Prelude.{◌≡◌, ℕ, suc, ◌==◌, Bool, List, [], ◌∷◌, map, ℤ, Option, None, Some}
use Rattle.std.specs.List.{find, filter, flat_map}
use Rattle.std.specs.Option.{option_map}
use Rattle.pg_graph.specs.Rows.{Rows}
use Rattle.pg_graph.specs.Handed.{Row}
use Rattle.pg_graph.specs.declared.missing.Missing.{Missing}
use Rattle.pg_graph.specs.declared.missing.Missing.TheVariants.{Drop, Create}
use Rattle.pg_model.specs.Job.{Program, Job}
use Rattle.pg_model.specs.Superstep.{made, outcome, state_after, sends, contributions, messages_to, delivered, at_place}
use Rattle.pg_model.specs.Run.{beginning, configuration, present_at, view_at}
use Rattle.pg_model.specs.Needed.{with_inbox_at, inputs_at}
use Rattle.pg_model.specs.Order.{Sending}
use Rattle.pg_model.specs.declared.configuration.VertexState.{VertexState}
use Rattle.pg_model.specs.declared.configuration.VertexWithInbox.{VertexWithInbox}
use Rattle.pg_model.specs.declared.record.Record.{Record}

-- by whom and what, of the messages to one target
abbrev pub envelopes_for : {M : Type 0} → ℕ → List (Sending M) → List (ℕ × M)
envelopes_for target ts = map (λ t. (t.sender, t.message)) (filter (λ t. t.target == target) ts)

-- what a vertex sends to a target by a record, with its id
abbrev pub envelopes_by : {V M : Type 0} → ℕ → ℕ → Record V M → List (ℕ × M)
envelopes_by target id r = map (λ m. (id, m)) (messages_to target r.sent)

-- what waits for an id
abbrev pub waiting_at : {M : Type 0} → ℕ → List (ℕ × List M) → Option (ℕ × List M)
waiting_at id waiting = find (λ w. w.0 == id) waiting

module _ {V M : Type 0} where
  -- the state of a vertex, if there is one
  abbrev pub state_of : Option (VertexWithInbox V M) → Option (VertexState V)
  state_of x = option_map (λ x. x.state) x

  -- what a vertex has received, if there is one
  abbrev pub inbox_of : Option (VertexWithInbox V M) → List M
  inbox_of None = []
  inbox_of (Some x) = x.inbox

  -- what is read off a record, if there is one
  abbrev pub read_off : {X : Type 0} → (Record V M → List X) → Option (Record V M) → List X
  read_off part None = []
  read_off part (Some r) = part r

  -- vertex id as it stands with a state, if it has one, and an inbox: without a state it is there where messages make
  -- it
  abbrev pub with_inbox_with : Program V M → ℕ → Option (VertexState V) → List M → Option (VertexWithInbox V M)
  with_inbox_with program id (Some state) inbox = Some (record { state = state; inbox = inbox })
  with_inbox_with program id None [] = None
  with_inbox_with program id None (m ∷ ms) = Some (made program (id, m ∷ ms))

  -- what arrives of what is delivered to a vertex that has this state, if any: nothing where undeliverable messages
  -- are dropped
  abbrev pub arriving : Missing → Option (VertexState V) → List M → List M
  arriving Drop None messages = []
  arriving Drop (Some state) messages = messages
  arriving Create state messages = messages

  -- the state that a row gives its vertex as a run begins
  abbrev pub state_first : Program V M → ℕ → Row → VertexState V
  state_first program id row = (beginning program (id, row)).state

  module _ (job : Job V M) (rows : Rows) where
    -- the state of vertex id as superstep s begins, if it has one
    abbrev pub state_at : ℕ → ℕ → Option (VertexState V)
    state_at s id = state_of (with_inbox_at id (configuration job rows s).with_inboxes)

    -- what it receives for superstep s
    abbrev pub inbox_at : ℕ → ℕ → List M
    inbox_at s id = inbox_of (with_inbox_at id (present_at job rows s))

    -- what superstep s makes of a vertex
    abbrev pub outcome_in : ℕ → VertexWithInbox V M → Record V M
    outcome_in s x = outcome job.program (view_at job rows s) x

    -- the state that it leaves the vertex
    abbrev pub state_left : ℕ → VertexWithInbox V M → VertexState V
    state_left s x = state_after x.state (outcome_in s x)

    -- what it makes of vertex id, where it is there
    abbrev pub outcome_at : ℕ → ℕ → Option (Record V M)
    outcome_at s id = option_map (outcome_in s) (with_inbox_at id (present_at job rows s))

    -- what its execution in superstep s gives, where it is executed
    abbrev pub record_at : ℕ → ℕ → Option (Record V M)
    record_at s id = option_map job.program.step (inputs_at job rows s id)

    -- what it sends in superstep s
    abbrev pub sent_at : ℕ → ℕ → List (ℕ × M)
    sent_at s id = read_off (λ r. r.sent) (outcome_at s id)

    -- and what it contributes
    abbrev pub contributed_at : ℕ → ℕ → List (ℕ × ℤ)
    contributed_at s id = read_off (λ r. r.contributed) (outcome_at s id)

    -- what superstep s delivers to it
    abbrev pub delivered_at : ℕ → ℕ → List M
    delivered_at s id = delivered job.combining id (sends job.program (view_at job rows s) (present_at job rows s))

    -- what all vertices contribute at a place in superstep s
    abbrev pub contributions_at : ℕ → ℕ → List ℤ
    contributions_at s place = at_place place (contributions job.program (view_at job rows s) (present_at job rows s))

    -- those vertices of superstep s that a test picks by their ids
    abbrev pub picked_at : (ℕ → Bool) → ℕ → List (VertexWithInbox V M)
    picked_at picks s = filter (λ x. picks x.state.id) (present_at job rows s)

    -- what is made of their ids and outcomes, one after another
    abbrev pub made_of : {X : Type 0} → (ℕ → Record V M → List X) → (ℕ → Bool) → ℕ → List X
    made_of part picks s = flat_map (λ x. part x.state.id (outcome_in s x)) (picked_at picks s)

    -- what they send to a target
    abbrev pub messages_of : (ℕ → Bool) → ℕ → ℕ → List M
    messages_of picks s target = messages_to target (sends job.program (view_at job rows s) (picked_at picks s))

    -- and what they contribute at a place
    abbrev pub contributions_of : (ℕ → Bool) → ℕ → ℕ → List ℤ
    contributions_of picks s place = at_place place (contributions job.program (view_at job rows s) (picked_at picks s))

    -- superstep s doesn't execute vertex id: it keeps its state, or has none before and after, and gives nothing
    pub record IsIdleAt (s id : ℕ) : Type 0 where
      pub inputs : inputs_at job rows s id ≡ None
      pub sent : sent_at s id ≡ []
      pub contributed : contributed_at s id ≡ []
      pub state : state_at (suc s) id ≡ state_at s id
