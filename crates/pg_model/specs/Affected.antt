-- What a change of the graph affects: two runs of one job, on the old rows and on the new ones (this project's;
-- vertices are affected in the sense of incremental graph algorithms).
use Rattle.std.specs.Prelude.{◌≡◌, ℕ, suc, ◌<◌, Bool, true, false, List, None, Some, ◌⊎◌}
use Rattle.std.specs.List.Sorted.{IsStrictlySortedBy}
use Rattle.std.specs.Ordering.{nat_cmp}
use Rattle.pg_graph.specs.Rows.{Rows}
use Rattle.pg_model.specs.ByIds.{state_at, inbox_at, outcome_at, record_at, sent_at, contributed_at}
use Rattle.pg_model.specs.Job.{Job}
use Rattle.pg_model.specs.Superstep.{is_active, has_id, messages_to, at_place}
use Rattle.pg_model.specs.Run.{present_at, view_at, run_length}
use Rattle.pg_model.specs.Needed.{with_inbox_at, inputs_at}
use Rattle.pg_model.specs.declared.configuration.VertexWithInbox.{VertexWithInbox}

module _ {V M : Type 0} (job : Job V M) (old new : Rows) where
  -- as superstep s begins, vertex id has the same state in both runs, or none in both, and the same inbox
  pub record StandsAlike (s id : ℕ) : Type 0 where
    pub state : state_at job old s id ≡ state_at job new s id
    pub inbox : inbox_at job old s id ≡ inbox_at job new s id

  -- the old run has superstep s, and what its vertices saw there is what those of the new run see
  pub record IsSeenAgain (s : ℕ) : Type 0 where
    pub within : s < run_length job old
    pub view : view_at job old s ≡ view_at job new s

  -- superstep s of the new run may leave vertex id unread: it stands as it stood in the old run, where that has the
  -- superstep; and what it sees is what it saw there, or it isn't executed
  pub record IsUnaffected (s id : ℕ) : Type 0 where
    pub alike : s < run_length job old → StandsAlike s id
    pub sees : IsSeenAgain s ⊎ (inputs_at job new s id ≡ None)

  -- rising ids with all of those picked that superstep s may affect
  pub record AreCandidates (picks : ℕ → Bool) (s : ℕ) (candidates : List ℕ) : Type 0 where
    pub rise : IsStrictlySortedBy nat_cmp candidates
    pub others : (id : ℕ) → picks id ≡ true → has_id candidates id ≡ false → IsUnaffected s id

  -- these ids have each active vertex of the new run that is picked
  abbrev pub HaveActive : (ℕ → Bool) → ℕ → List ℕ → Type 0
  HaveActive picks s candidates =
      (id : ℕ) (x : VertexWithInbox V M) → picks id ≡ true → with_inbox_at id (present_at job new s) ≡ Some x
      → is_active x ≡ true
      → has_id candidates id ≡ true

  -- what the old run has of vertex id in superstep s stands in the new run
  pub record IsTakenOver (s id : ℕ) : Type 0 where
    pub inputs : inputs_at job old s id ≡ inputs_at job new s id
    pub records : record_at job old s id ≡ record_at job new s id
    pub outcome : outcome_at job old s id ≡ outcome_at job new s id
    pub sent : sent_at job old s id ≡ sent_at job new s id
    pub contributed : contributed_at job old s id ≡ contributed_at job new s id
    pub state : state_at job old (suc s) id ≡ state_at job new (suc s) id

  -- in superstep s vertex id sends the same messages to a target in both runs
  abbrev pub SendsAlike : ℕ → ℕ → ℕ → Type 0
  SendsAlike s target id = messages_to target (sent_at job old s id) ≡ messages_to target (sent_at job new s id)

  -- and contributes the same at a place
  abbrev pub ContributesAlike : ℕ → ℕ → ℕ → Type 0
  ContributesAlike s place id = at_place place (contributed_at job old s id) ≡ at_place place
      (contributed_at job new s id)

  -- each of those picked sends the same to a target
  abbrev pub AllSendAlike : (ℕ → Bool) → ℕ → ℕ → Type 0
  AllSendAlike picks s target = (id : ℕ) → picks id ≡ true → SendsAlike s target id

  -- and contributes the same at a place
  abbrev pub AllContributeAlike : (ℕ → Bool) → ℕ → ℕ → Type 0
  AllContributeAlike picks s place = (id : ℕ) → picks id ≡ true → ContributesAlike s place id
