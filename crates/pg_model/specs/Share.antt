-- What one of n partitions holds of a run: vertex id belongs to partition id % n (this project's; Pregel, section 4.1,
-- leaves the function open).
use Rattle.std.specs.Prelude.{ℕ, zero, suc, ◌%◌, ◌==◌, Bool, List, [], ◌∷◌, ◌++◌, map}
use Rattle.std.specs.List.{filter, flat_map}
use Rattle.pg_graph.specs.Rows.{Rows}
use Rattle.pg_model.specs.Job.{Job}
use Rattle.pg_model.specs.Order.{Sending, sendings_from}
use Rattle.pg_model.specs.Superstep.{is_active, outcome}
use Rattle.pg_model.specs.Run.{configuration, present_at, view_at}
use Rattle.pg_model.specs.declared.configuration.VertexState.{VertexState}
use Rattle.pg_model.specs.declared.configuration.VertexWithInbox.{VertexWithInbox}
use Rattle.pg_model.specs.declared.record.Record.{Record}

-- the states of a partition's vertices at the start of a superstep, and for each superstep before it what those of
-- them that were executed gave
pub record Share (V M : Type 0) : Type 0 where
  pub states : List (VertexState V)
  pub records : List (List (ℕ × Record V M))

abbrev pub belongs : ℕ → ℕ → ℕ → Bool
belongs n p id = id % n == p

module _ {V M : Type 0} (job : Job V M) (rows : Rows) (n p : ℕ) where
  -- the partition's vertices that have a state as superstep s begins
  abbrev pub with_inboxes_of_share : ℕ → List (VertexWithInbox V M)
  with_inboxes_of_share s = filter (λ x. belongs n p x.state.id) (configuration job rows s).with_inboxes

  -- its vertices of superstep s, those that messages make included
  abbrev pub present_in_share : ℕ → List (VertexWithInbox V M)
  present_in_share s = filter (λ x. belongs n p x.state.id) (present_at job rows s)

  -- what those of them that are executed in superstep s give
  abbrev pub records_in : ℕ → List (ℕ × Record V M)
  records_in s = map (λ x. (x.state.id, outcome job.program (view_at job rows s) x))
      (filter is_active (present_in_share s))

  unfoldable pub records_below : ℕ → List (List (ℕ × Record V M))
  records_below zero = []
  records_below (suc s) = records_below s ++ records_in s ∷ []

  unfoldable pub share : ℕ → Share V M
  share s = record { states = map (λ x. x.state) (with_inboxes_of_share s); records = records_below s }

-- what executions sent, by sender and then in the order sent
abbrev pub sendings_of : {V M : Type 0} → List (ℕ × Record V M) → List (Sending M)
sendings_of records = flat_map (λ r. sendings_from r.0 0 r.1.sent) records

-- what partition p sends to partition q in superstep s
abbrev pub sent_to : {V M : Type 0} → Job V M → Rows → ℕ → ℕ → ℕ → ℕ → List (Sending M)
sent_to job rows n p q s = filter (λ t. belongs n q t.target) (sendings_of (records_in job rows n p s))
