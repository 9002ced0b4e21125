-- Which vertices a step looks at, and how it finds them.
use Rattle.std.specs.Prelude.{◌≡◌, ℕ, zero, suc, true, false, Bool, ◌+◌, ◌<◌, List, [], map, Option, None, Some}
use Rattle.std.specs.List.{AllByRecursion, count_by, flat_map}
use Rattle.std.specs.List.Sorted.{IsStrictlySortedBy}
use Rattle.std.specs.Map.{keys_of}
use Rattle.std.specs.Ordering.{nat_cmp}
use Rattle.pg_graph.specs.declared.missing.Missing.{Missing}
use Rattle.pg_inbox.specs.Handed.{MessageLists}
use Rattle.pg_inbox.specs.Inboxes.{Delivers}
use Rattle.pg_inbox.specs.LoggedBundle.{Slots, slot_at}
use Rattle.pg_map.specs.Entries.{HasRisingIds}
use Rattle.pg_model.specs.Job.{Combining, Program}
use Rattle.pg_model.specs.Superstep.{capped, has_id}
use Rattle.pg_model.specs.declared.configuration.VertexWithInbox.{VertexWithInbox}
use Rattle.pg_model.specs.declared.view.View.{View}
use Rattle.pg_part_compute.specs.Found.{IsFound, IsEqSound, change_of, is_run, vertex_of}
use Rattle.pg_part_routing.specs.Routes.{AreSameTo}
use Rattle.pg_part_routing.specs.Starting.{own}
use Rattle.pg_trace.specs.Handed.{unhalted_after}
use Rattle.pg_part_compute.specs.declared.execution.StepDelta.{StepDelta}
use Rattle.pg_part_compute.specs.declared.found.VertexPair.{VertexPair}
use Rattle.pg_trace.specs.Trace.{Trace, records_of, state_at}

module _ {V M : Type 0} where
  -- the ids of the vertices that aren't halted as superstep s begins
  abbrev pub unhalted_ids : ℕ → Trace V M → List ℕ
  unhalted_ids zero trace = map (λ x. x.id) trace.initial
  unhalted_ids (suc s) trace = unhalted_after (records_of s trace)

  -- a vertex by what is delivered to it and its state in the trace
  abbrev pub found_at : Program V M → Missing → ℕ → Trace V M → ℕ × List M → Option (VertexWithInbox V M)
  found_at program missing s trace work_item =
      vertex_of program missing work_item.0 (state_at work_item.0 s trace) work_item.1

  -- a vertex that is found so where there is no other run
  abbrev pub cold : Program V M → Missing → ℕ → Trace V M → ℕ × List M → VertexPair V M
  cold program missing s trace work_item =
      record { id = work_item.0; old = None; new = found_at program missing s trace work_item }

  -- a vertex as it is found in another run, where that is there
  abbrev pub IsFoundWarm : Program V M → Missing → Option (Combining M) → ℕ → Option (Trace V M × List (MessageLists M))
      → ℕ → Option (VertexWithInbox V M) → Type 0
  IsFoundWarm program missing combining s None id found = found ≡ None
  IsFoundWarm program missing combining s (Some (trace, bundles)) id found =
      IsFound program missing combining trace s bundles id found

-- vertices by rising id with what is delivered to each: these ones, and where all are asked for each to which
-- anything is delivered
pub record AreWorkItems {M : Type 0} (combining : Option (Combining M)) (bundles : List (MessageLists M)) (ids : List ℕ)
    (all : Bool)
    (work_items : List (ℕ × List M)) : Type 0 where
  pub rise : HasRisingIds work_items
  pub delivered : AllByRecursion (λ c. Delivers combining c.0 bundles c.1) work_items
  pub have : (id : ℕ) → has_id ids id ≡ true → has_id (keys_of work_items) id ≡ true
  pub others : all ≡ true → (id : ℕ) → has_id (keys_of work_items) id ≡ false → Delivers combining id bundles []

-- these are the vertices that a step looks at, as it finds them
pub record AreFound {V M : Type 0} (value_eq : V → V → Bool) (message_eq : M → M → Bool) (program : Program V M)
    (missing : Missing)
    (combining : Option (Combining M)) (n p s : ℕ) (trace : Trace V M) (bundles : List (MessageLists M))
    (warm : Option (Trace V M × List (MessageLists M))) (ids : List ℕ) (all : Bool)
    (vertex_pairs : List (VertexPair V M)) : Type 0 where
  pub work_items : List (ℕ × List M)
  pub are : AreWorkItems combining bundles ids all work_items
  pub ids_are : map (λ c. c.id) vertex_pairs ≡ keys_of (own n p work_items)
  pub new_are : map (λ c. c.new) vertex_pairs ≡ map (found_at program missing s trace) (own n p work_items)
  pub warm_are : AllByRecursion (λ c. IsFoundWarm program missing combining s warm c.id c.old) vertex_pairs
  pub eq_is_sound : AllByRecursion (IsEqSound value_eq message_eq) vertex_pairs

-- these vertices were looked at, with this view, and executed where they didn't read what they read in another run,
-- where that saw the same
pub record IsStepDelta {V M : Type 0} (value_eq : V → V → Bool) (message_eq : M → M → Bool) (program : Program V M)
    (missing : Missing)
    (combining : Option (Combining M)) (view : View) (n p s : ℕ) (trace : Trace V M) (bundles : List (MessageLists M))
    (warm : Option (Trace V M × List (MessageLists M))) (ids : List ℕ) (all same_view : Bool) (before : ℕ)
    (step_delta : StepDelta V M) : Type 0 where
  pub work_items : List (ℕ × List M)
  pub are : AreWorkItems combining bundles ids all work_items
  pub vertex_pairs : List (VertexPair V M)
  pub ids_are : map (λ c. c.id) vertex_pairs ≡ keys_of (own n p work_items)
  pub new_are : map (λ c. c.new) vertex_pairs ≡ map (found_at program missing s trace) (own n p work_items)
  pub warm_are : AllByRecursion (λ c. IsFoundWarm program missing combining s warm c.id c.old) vertex_pairs
  pub eq_is_sound : AllByRecursion (IsEqSound value_eq message_eq) vertex_pairs
  pub dirty_ids_are : step_delta.dirty_ids.items ≡ map (λ c. c.id) vertex_pairs
  pub changes_are : step_delta.changes ≡ flat_map (change_of value_eq message_eq program view same_view) vertex_pairs
  pub counted : step_delta.meter ≡ capped
      (before + count_by (is_run value_eq message_eq program view same_view) vertex_pairs)

-- rising ids with all that a step against an old run has to look at: where states may differ, but for vertices
-- quiescent in both runs and to which nothing is delivered; where other messages may come from; and where the old run
-- saw something else all that aren't halted
pub record AreDirtyIds {V M : Type 0} (combining : Option (Combining M)) (bundles : List (MessageLists M)) (n p s : ℕ)
    (trace : Trace V M)
    (live quiescent : List ℕ) (logs old_logs : Slots M) (same_view : Bool) (ids : List ℕ) : Type 0 where
  pub rise : IsStrictlySortedBy nat_cmp ids
  pub states : (id : ℕ) → has_id ids id ≡ false → has_id live id ≡ false
  pub still : (id : ℕ) → has_id ids id ≡ false → has_id quiescent id ≡ true → Delivers combining id bundles []
  pub messages : (r q id : ℕ) → r + 1 ≡ s → q < n → has_id ids id ≡ false
      → AreSameTo id (slot_at old_logs r q p) (slot_at logs r q p)
  pub unhalted : same_view ≡ false → (id : ℕ) → has_id ids id ≡ false → has_id (unhalted_ids s trace) id ≡ false
