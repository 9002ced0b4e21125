-- What a whole run over partitions leaves, for a warm run after it.
use Rattle.std.specs.Prelude.{◌≡◌, ℕ, ◌<◌, nat_lt, cond, List, map, length, slice_index_or, Option, None, Some}
use Rattle.std.specs.List.{range_with_len, slice_get}
use Rattle.pg_graph.specs.Rows.{Rows}
use Rattle.pg_inbox.specs.LoggedBundle.{Slots, slot_at}
use Rattle.pg_model.specs.Job.{Job}
use Rattle.pg_model.specs.Run.{configuration, run_length, values_of, visible_at}
use Rattle.pg_model.specs.declared.view.Visible.{Visible}
use Rattle.pg_part.specs.Handed.{bundle_in, bundle_sent}
use Rattle.pg_part.specs.Part.{IsRetained, RetainedPartOf, PartState}
use Rattle.pg_core_values.specs.Values.{Ended, HasEnded}

-- what all partitions of a run have in common: what they sent, what the master showed in each superstep, and the values
-- with which the vertices ended
pub record RetainedRun (V M : Type 0) : Type 0 where
  pub logs : Slots M
  pub shown : List Visible
  pub values : List (ℕ × V)

-- what the partitions retained, by partition, the graph, and what all partitions have in common
pub record Traces (V M : Type 0) : Type 0 where
  pub retained_parts : List (RetainedPartOf V M)
  pub graph : Rows
  pub retained_run : RetainedRun V M

-- what a step in superstep s borrows of a kept run: its logs and what was visible, where that run has the superstep
abbrev pub logs_in : {V M : Type 0} → ℕ → Option (RetainedRun V M) → Option (Slots M)
logs_in s None = None
logs_in s (Some kept) = cond (nat_lt s (length kept.shown)) (Some kept.logs) None

abbrev pub visible_in : {V M : Type 0} → ℕ → Option (RetainedRun V M) → Option Visible
visible_in s None = None
visible_in s (Some kept) = slice_get kept.shown s

-- how it ended
abbrev pub ended_by : {V M : Type 0} → RetainedRun V M → Ended V
ended_by kept = record { values = kept.values; supersteps = length kept.shown }

module _ {V M : Type 0} (job : Job V M) where
  -- what the master shows in each superstep below s
  abbrev pub shown_below : Rows → ℕ → List Visible
  shown_below rows s = map (visible_at job rows) (range_with_len 0 s)

  -- this is what n partitions have in common of the whole run: what each of them sent in each superstep, all that was
  -- shown, and the values of the answer
  pub record IsRetainedRunOf (rows : Rows) (n : ℕ) (kept : RetainedRun V M) : Type 0 where
    pub sent : (s p q : ℕ) → s < run_length job rows → p < n → q < n
        → bundle_in (slot_at kept.logs s p q) ≡ Some (bundle_sent job rows n p q s)
    pub shown : kept.shown ≡ shown_below rows (run_length job rows)
    pub values : kept.values ≡ values_of job rows (configuration job rows (run_length job rows))

  -- those of the kept run, where there is one
  abbrev pub KeepsRetainedRun : Option Rows → ℕ → Option (RetainedRun V M) → Type 0
  KeepsRetainedRun None n kept = kept ≡ None
  KeepsRetainedRun (Some rows) n None = ⊥
  KeepsRetainedRun (Some rows) n (Some kept) = IsRetainedRunOf rows n kept

  -- this is what partition p of n leaves
  abbrev pub HasRetained : Rows → ℕ → ℕ → Option (RetainedPartOf V M) → Type 0
  HasRetained rows n p None = ⊥
  HasRetained rows n p (Some retained) = IsRetained job rows n p retained

  -- this is what the run on these rows leaves, over n partitions
  pub record IsRetainedBy (rows : Rows) (n : ℕ) (retained : Traces V M) : Type 0 where
    pub each : length retained.retained_parts ≡ n
    pub whole : (p : ℕ) → p < n → HasRetained rows n p (slice_get retained.retained_parts p)
    pub graph_is : retained.graph ≡ rows
    pub retained_run : IsRetainedRunOf rows n retained.retained_run

-- parts that have ended a run of s supersteps, each against the run that is kept for it, if any, retained this, by
-- partition, as far as m partitions
abbrev pub HaveRetained : {V M : Type 0} → ℕ → List (Option (PartState V M)) → ℕ → List (RetainedPartOf V M) → Type 0
HaveRetained {V} {M} s parts m retained_parts =
    (job : Job V M) (keeps : ℕ → Option Rows) (rows : Rows) (n : ℕ) → s ≡ run_length job rows
    → ((p : ℕ) → p < m → HasEnded job (keeps p) rows n p (slice_index_or parts p None))
    → (p : ℕ) → p < m → HasRetained job rows n p (slice_get retained_parts p)
