-- The parts as a run opens.
use Rattle.std.specs.Prelude.{◌≡◌, ℕ, ℤ, ◌<◌, ◌≤◌, List, [], ◌∷◌, length, map, All, Option, None, Some, slice_index_or}
use Rattle.std.specs.List.{slice_get}
use Rattle.pg_core_machine.specs.Limits.{AreLimits, Limits}
use Rattle.pg_core_machine.specs.Machine.{first_state}
use Rattle.pg_core.specs.declared.beginning.InitialCore.{InitialCore}
use Rattle.pg_core.specs.Traces.{HasRetained}
use Rattle.pg_part.specs.PartRun.{AreTouched}
use Rattle.pg_global.specs.Master.{Master}
use Rattle.pg_global.specs.Registry.{Registered}
use Rattle.pg_graph.specs.Rows.{HasRisingIds, Rows, edge_count}
use Rattle.pg_graph.specs.declared.missing.Missing.{Missing}
use Rattle.pg_model.specs.Job.{Deciding, Job, Program}
use Rattle.pg_model.specs.Superstep.{capped, visible_in}
use Rattle.pg_model.specs.declared.view.Visible.{Visible}
use Rattle.pg_part.specs.Part.{HoldsShare, RetainedPartOf, PartState}
use Rattle.pg_stats.specs.MessageCounts.{AreMemberChanges}
use Rattle.pg_stats.specs.GlobalStats.{aggregators_of}

-- what a master shows in superstep 0 of a run on this graph, where these are the initial values
abbrev pub first_visible : Deciding → Rows → List ℤ → Visible
first_visible deciding rows gathered =
    visible_in deciding (record { vertices = length rows; edges = capped (edge_count rows) }) 0 gathered

-- what a run on a graph, whose ids rise, has as it opens, besides its parts: the master's aggregators, the first state,
-- what is shown in superstep 0, and the initial values as all that was counted
pub record HasStarted (master : Master) (rows : Rows) (limits : Limits) (start : InitialCore) : Type 0 where
  pub rising : HasRisingIds rows
  pub limits_are : AreLimits limits
  pub registry_is : start.registry ≡ master.registrations
  pub few : length master.registrations ≤ 16
  pub state_is : start.state ≡ first_state limits.partitions limits.workers
  pub run_totals_is : start.run_totals
      ≡ record { gathered = map (λ a. a.initial) (aggregators_of master.registrations); sent = 0; dropped = 0 }
  pub shown_is : start.shown.items ≡ first_visible master.deciding rows start.run_totals.gathered ∷ []
  pub places : All (λ v. length v.values ≡ length master.registrations) start.shown.items

module _ {V M : Type 0} where
  -- a part is here, and holds its share as superstep 0 begins, against the kept run, if any
  abbrev pub HasBegun : Job V M → Option Rows → Rows → ℕ → ℕ → Option (PartState V M) → Type 0
  HasBegun job kept rows n p None = ⊥
  HasBegun job kept rows n p (Some part) = HoldsShare job kept rows n p 0 part

  -- the first m parts have begun the run of each such job
  abbrev pub HaveBegun : Program V M → Missing → Registered → Rows → ℕ → ℕ → List (Option (PartState V M)) → Type 0
  HaveBegun program missing registered rows n m parts =
      (job : Job V M) → job.program ≡ program → job.missing ≡ missing → job.aggregators ≡ aggregators_of registered
      → (p : ℕ) → p < m → HasBegun job None rows n p (slice_index_or parts p None)

  -- and against the run on the kept rows where this is what its partitions retained, all rows but those of the touched
  -- ids are as they were, and those are the ids that came or went
  abbrev pub HaveBegunWith : Program V M → Missing → Registered → Rows → List ℕ → List ℕ → List (RetainedPartOf V M) → ℕ
      → ℕ → List (Option (PartState V M)) → Type 0
  HaveBegunWith program missing registered rows touched member_changes retained_parts n m parts =
      (job : Job V M) (kept : Rows) → job.program ≡ program → job.missing ≡ missing
      → job.aggregators ≡ aggregators_of registered
      → AreTouched touched kept rows → AreMemberChanges member_changes kept rows
      → ((p : ℕ) → p < m → HasRetained job kept n p (slice_get retained_parts p))
      → (p : ℕ) → p < m → HasBegun job (Some kept) rows n p (slice_index_or parts p None)

  -- the same where no ids are given that came or went
  abbrev pub HaveBegunWarm : Program V M → Missing → Registered → Rows → List ℕ → Rows → List (RetainedPartOf V M) → ℕ
      → ℕ → List (Option (PartState V M)) → Type 0
  HaveBegunWarm program missing registered rows touched kept retained_parts n m parts =
      (job : Job V M) → job.program ≡ program → job.missing ≡ missing → job.aggregators ≡ aggregators_of registered
      → AreTouched touched kept rows
      → ((p : ℕ) → p < m → HasRetained job kept n p (slice_get retained_parts p))
      → (p : ℕ) → p < m → HasBegun job (Some kept) rows n p (slice_index_or parts p None)

  -- a part is of partition p of n, and at superstep 0
  pub record IsFirst (n p : ℕ) (part : PartState V M) : Type 0 where
    pub partition_is : part.part_run.partition ≡ p
    pub partitions_are : part.part_run.partitions ≡ n
    pub place_is : part.part_run.place ≡ 0

  -- it is here
  abbrev pub IsHereFirst : ℕ → ℕ → Option (PartState V M) → Type 0
  IsHereFirst n p None = ⊥
  IsHereFirst n p (Some part) = IsFirst n p part

  -- the first m parts are
  abbrev pub AreFirst : ℕ → ℕ → List (Option (PartState V M)) → Type 0
  AreFirst n m parts = (p : ℕ) → p < m → IsHereFirst n p (slice_index_or parts p None)
