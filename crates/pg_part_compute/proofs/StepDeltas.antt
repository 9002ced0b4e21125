-- A step executes vertices by rising id.
use Rattle.std.proofs.Common.{◌≡◌, ℕ, ◌+◌, ◌<◌, ◌^◌, Bool, List, Option, option_map, sym, ◌∙◌, subst, arith}
use Rattle.std.specs.List.Sorted.{IsStrictlySortedBy}
use Rattle.std.specs.Ordering.{nat_cmp}
use Rattle.pg_graph.specs.declared.missing.Missing.{Missing}
use Rattle.pg_inbox.specs.Handed.{MessageLists}
use Rattle.pg_map.specs.Entries.{ChangesRise}
use Rattle.pg_model.specs.Job.{Combining, Program}
use Rattle.pg_model.specs.Superstep.{capped}
use Rattle.pg_model.specs.declared.view.View.{View}
use Rattle.pg_part_compute.specs.VertexPairs.{IsStepDelta}
use Rattle.pg_part_compute.specs.Found.{is_reused, reads}
use Rattle.pg_trace.specs.Trace.{Trace}
use Rattle.pg_part_compute.specs.declared.execution.StepDelta.{StepDelta}
use Rattle.pg_part_compute.proofs.Changing.{entries-rise}
use Rattle.pg_part_routing.proofs.Beginning.{own_rise}

-- what is executed changes records by rising id
pub step_delta_rise : {V M : Type 0} (value_eq : V → V → Bool) (message_eq : M → M → Bool) (program : Program V M)
    (missing : Missing) (combining : Option (Combining M)) (view : View)
    (n p s : ℕ) (trace : Trace V M) (bundles : List (MessageLists M)) (warm : Option (Trace V M × List (MessageLists M))) (ids : List ℕ)
    (all same_view : Bool) (before : ℕ) (step_delta : StepDelta V M)
    → IsStepDelta value_eq message_eq program missing combining view n p s trace bundles warm ids all same_view before step_delta → ChangesRise step_delta.changes
step_delta_rise value_eq message_eq program missing combining view n p s trace bundles warm ids all same_view before step_delta is =
    subst ChangesRise (sym is.changes_are)
    (entries-rise (λ c. c.id) (is_reused value_eq message_eq same_view) (λ c. option_map program.step (reads view c.new)) is.vertex_pairs
    (subst (IsStrictlySortedBy nat_cmp) (sym is.ids_are) (own_rise n p is.work_items is.are.rise)))

-- and looks at vertices by rising id
pub dirty_ids_rise : {V M : Type 0} (value_eq : V → V → Bool) (message_eq : M → M → Bool) (program : Program V M)
    (missing : Missing) (combining : Option (Combining M)) (view : View)
    (n p s : ℕ) (trace : Trace V M) (bundles : List (MessageLists M)) (warm : Option (Trace V M × List (MessageLists M))) (ids : List ℕ)
    (all same_view : Bool) (before : ℕ) (step_delta : StepDelta V M)
    → IsStepDelta value_eq message_eq program missing combining view n p s trace bundles warm ids all same_view before step_delta
    → IsStrictlySortedBy nat_cmp step_delta.dirty_ids.items
dirty_ids_rise value_eq message_eq program missing combining view n p s trace bundles warm ids all same_view before step_delta is =
    subst (IsStrictlySortedBy nat_cmp) (sym (is.dirty_ids_are ∙ is.ids_are)) (own_rise n p is.work_items is.are.rise)

-- a count that stops fits, and one to which nothing is added is the same
pub capped_fits : (n : ℕ) → capped n < 2 ^ 64
capped_fits n = omega arith

pub capped_same : (n : ℕ) → n < 2 ^ 64 → n ≡ capped (n + 0)
capped_same n fits = omega arith
