-- One superstep over the whole graph (Pregel, section 2: the model of computation).
use Rattle.std.specs.Prelude.{ℕ, ◌+◌, ◌-◌, ◌^◌, ◌==◌, nat_lt, min, Bool, false, cond, not, ◌||◌, ◌&&◌, List, [], ◌∷◌}
use Rattle.std.specs.Prelude.{map, length, ℤ, pos, Option, None, Some}
use Rattle.std.specs.List.{filter, flat_map, fold, sum_by, list_any, list_all}
use Rattle.pg_graph.specs.declared.missing.Missing.{Missing}
use Rattle.pg_graph.specs.declared.missing.Missing.TheVariants.{Drop, Create}
use Rattle.pg_model.specs.Job.{Inputs, Program, Combining, Aggregating, Totals, Deciding, Decision, Job, has_place}
use Rattle.pg_model.specs.declared.configuration.VertexState.{VertexState}
use Rattle.pg_model.specs.declared.configuration.VertexWithInbox.{VertexWithInbox}
use Rattle.pg_model.specs.declared.configuration.Configuration.{Configuration}
use Rattle.pg_model.specs.declared.record.Record.{Record}
use Rattle.pg_model.specs.declared.run.Ending.{Ending}
use Rattle.pg_model.specs.declared.run.Ending.TheVariants.{MasterHalted, Finished, LimitReached}
use Rattle.pg_model.specs.declared.view.Declared.{Declared}
use Rattle.pg_model.specs.declared.view.View.{View}
use Rattle.pg_model.specs.declared.view.Visible.{Visible}

-- a count that stops at the largest number of 64 bits
abbrev pub capped : ℕ → ℕ
capped n = min n (2 ^ 64 - 1)

-- what the master shows in superstep s
unfoldable pub visible_in : Deciding → Totals → ℕ → List ℤ → Visible
visible_in deciding totals s gathered =
    let decision : Decision = deciding s totals gathered in
    record {
      values = decision.values;
      halt = decision.halt;
      total_vertices = totals.vertices;
      total_edges = totals.edges;
    }

-- the values at the declared places, from `place` on
abbrev pub shown : ℕ → ℕ → List ℤ → List (Option ℤ)
shown places place [] = []
shown places place (value ∷ values) = cond (has_place places place) (Some value) None ∷ shown places (place + 1) values

-- what the program sees of it: what it has declared
unfoldable pub view_of : Declared → ℕ → Visible → View
view_of declared s visible = record {
  superstep = s;
  aggregates = shown declared.reads 0 visible.values;
  total_vertices = cond declared.total_vertices (Some visible.total_vertices) None;
  total_edges = cond declared.total_edges (Some visible.total_edges) None;
}

abbrev pub is_empty : {X : Type 0} → List X → Bool
is_empty xs = length xs == 0

module _ {V M : Type 0} where
  -- among vertices by rising id
  abbrev pub placed : VertexWithInbox V M → List (VertexWithInbox V M) → List (VertexWithInbox V M)
  placed x [] = x ∷ []
  placed x (y ∷ ys) = cond (nat_lt x.state.id y.state.id) (x ∷ y ∷ ys) (y ∷ placed x ys)

  -- a vertex that its first messages make: its initial value for input 0, no edges, not halted
  abbrev pub made : Program V M → ℕ × List M → VertexWithInbox V M
  made program w = record {
    state = record {
      id = w.0;
      value = program.initial w.0 (pos 0);
      edges = [];
      halted = false;
    };
    inbox = w.1;
  }

  -- these vertices, and those that messages make
  abbrev pub with_made : Program V M → List (VertexWithInbox V M) → List (ℕ × List M) → List (VertexWithInbox V M)
  with_made program xs waiting = fold (λ ys w. placed (made program w) ys) xs waiting

  -- the vertices of the superstep that begins with c
  abbrev pub present : Program V M → Configuration V M → List (VertexWithInbox V M)
  present program c = with_made program c.with_inboxes c.waiting

  -- how many out-edges vertices have
  abbrev pub edges_of : List (VertexWithInbox V M) → ℕ
  edges_of xs = sum_by (λ x. length x.state.edges) xs

  -- how many vertices have a state, and how many out-edges they have
  abbrev pub totals_of : Configuration V M → Totals
  totals_of c = record { vertices = length c.with_inboxes; edges = capped (edges_of c.with_inboxes) }

  -- a vertex is executed where it isn't halted or has a message
  abbrev pub is_active : VertexWithInbox V M → Bool
  is_active x = not x.state.halted || not (is_empty x.inbox)

  -- no vertex is active, and no message waits
  abbrev pub is_all_idle : Configuration V M → Bool
  is_all_idle c = list_all (λ x. not (is_active x)) c.with_inboxes && is_empty c.waiting

  -- a vertex that isn't executed stays, and sends and contributes nothing
  abbrev pub idle : VertexState V → Record V M
  idle state = record { value = state.value; edges = state.edges; halted = state.halted; sent = []; contributed = [] }

  abbrev pub inputs_of : View → VertexWithInbox V M → Inputs V M
  inputs_of view x = record {
    view = view;
    id = x.state.id;
    value = x.state.value;
    edges = x.state.edges;
    inbox = x.inbox;
  }

  -- what the superstep makes of a vertex
  unfoldable pub outcome : Program V M → View → VertexWithInbox V M → Record V M
  outcome program view x = cond (is_active x) (program.step (inputs_of view x)) (idle x.state)

  abbrev pub state_after : VertexState V → Record V M → VertexState V
  state_after state r = record { id = state.id; value = r.value; edges = r.edges; halted = r.halted }

  -- all messages of a superstep: by rising sender, each sender's in the order sent
  abbrev pub sends : Program V M → View → List (VertexWithInbox V M) → List (ℕ × M)
  sends program view xs = flat_map (λ x. (outcome program view x).sent) xs

  -- all contributions of a superstep: by rising id, each vertex's in the order given
  abbrev pub contributions : Program V M → View → List (VertexWithInbox V M) → List (ℕ × ℤ)
  contributions program view xs = flat_map (λ x. (outcome program view x).contributed) xs

  abbrev pub ids : List (VertexWithInbox V M) → List ℕ
  ids xs = map (λ x. x.state.id) xs

-- whether an id is among the ids
abbrev pub has_id : List ℕ → ℕ → Bool
has_id ids id = list_any (λ other. other == id) ids

-- rising ids with one more, where it isn't among them
abbrev pub with_id : List ℕ → ℕ → List ℕ
with_id [] id = id ∷ []
with_id (other ∷ others) id =
    cond (nat_lt id other) (id ∷ other ∷ others) (cond (id == other) (other ∷ others) (other ∷ with_id others id))

module _ {M : Type 0} where
  -- the messages to a vertex, in the order of the sends
  abbrev pub messages_to : ℕ → List (ℕ × M) → List M
  messages_to id sent = map (λ m. m.1) (filter (λ m. m.0 == id) sent)

  -- an inbox as the combiner leaves it: one message where there is any, the fold of all from the initial message
  abbrev pub combined : Option (Combining M) → List M → List M
  combined None messages = messages
  combined (Some combining) [] = []
  combined (Some combining) (m ∷ ms) = fold combining.combine combining.initial (m ∷ ms) ∷ []

  -- what a vertex receives of the messages of a superstep
  abbrev pub delivered : Option (Combining M) → ℕ → List (ℕ × M) → List M
  delivered combining id sent = combined combining (messages_to id sent)

  -- the messages that go to none of the ids
  abbrev pub undeliverable : List ℕ → List (ℕ × M) → List (ℕ × M)
  undeliverable ids sent = filter (λ m. not (has_id ids m.0)) sent

  -- the targets of messages, rising, each once
  abbrev pub targets : List (ℕ × M) → List ℕ
  targets sent = fold with_id [] (map (λ m. m.0) sent)

  -- what waits after a superstep in which these messages were undeliverable
  abbrev pub waiting_after : Missing → Option (Combining M) → List (ℕ × M) → List (ℕ × List M)
  waiting_after Drop combining undeliverables = []
  waiting_after Create combining undeliverables =
      map (λ id. (id, delivered combining id undeliverables)) (targets undeliverables)

  -- how many of them are dropped
  abbrev pub dropped_count : Missing → List (ℕ × M) → ℕ
  dropped_count Drop undeliverables = length undeliverables
  dropped_count Create undeliverables = 0

-- the contributions at a place, in their order
abbrev pub at_place : ℕ → List (ℕ × ℤ) → List ℤ
at_place place contributions = map (λ c. c.1) (filter (λ c. c.0 == place) contributions)

-- the fold of contributions at one place, where `value` was visible there
abbrev pub gathered_at : Aggregating → ℤ → List ℤ → ℤ
gathered_at aggregating value contributions =
    fold aggregating.aggregate (cond aggregating.persistent value aggregating.initial) contributions

-- the same for all places from `place` on
unfoldable pub gathered_from : ℕ → List Aggregating → List ℤ → List (ℕ × ℤ) → List ℤ
gathered_from place [] values contributions = []
gathered_from place (a ∷ rest) [] contributions = []
gathered_from place (a ∷ rest) (value ∷ values) contributions =
    gathered_at a value (at_place place contributions) ∷ gathered_from (place + 1) rest values contributions

module _ {V M : Type 0} (job : Job V M) where
  -- what the master shows in superstep s, which begins with c
  abbrev pub visible : ℕ → Configuration V M → Visible
  visible s c = visible_in job.deciding (totals_of c) s c.gathered

  -- what the program sees in it
  abbrev pub view_in : ℕ → Configuration V M → View
  view_in s c = view_of job.program.declared s (visible s c)

  -- the vertices after a superstep in which they saw `view`: each with its outcome's state, and with what was sent to
  -- it
  abbrev pub with_inboxes_after : View → List (VertexWithInbox V M) → List (VertexWithInbox V M)
  with_inboxes_after view xs =
      let all : List (ℕ × M) = sends job.program view xs in
      map (λ x. record {
        state = state_after x.state (outcome job.program view x);
        inbox = delivered job.combining
            x.state.id all;
      }) xs

  -- the configuration after superstep s, which begins with c
  unfoldable pub next : ℕ → Configuration V M → Configuration V M
  next s c =
      let view : View = view_in s c in
      let xs : List (VertexWithInbox V M) = present job.program c in
      let all : List (ℕ × M) = sends job.program view xs in
      let undeliverables : List (ℕ × M) = undeliverable (ids xs) all in
      record {
        with_inboxes = with_inboxes_after view xs;
        waiting = waiting_after job.missing job.combining undeliverables;
        gathered = gathered_from 0 job.aggregators (visible s c).values (contributions job.program view xs);
        sent = capped (c.sent + length all);
        dropped = capped (c.dropped + dropped_count job.missing undeliverables);
      }

  -- the test after superstep s, which began with c and ended with d: the master halted, all is idle, the limit is
  -- reached
  abbrev pub ending : ℕ → Configuration V M → Configuration V M → Option Ending
  ending s c d =
      cond (visible s c).halt (Some MasterHalted)
      (cond (is_all_idle d) (Some Finished) (cond (s + 1 == job.limit) (Some LimitReached) None))
