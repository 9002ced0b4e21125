-- The inputs of an execution, and the executions that a run needs against a run that was kept (this project's).
use Rattle.std.specs.Prelude.{◌≡◌, ℕ, ◌+◌, ◌==◌, nat_lt, zero, suc, Bool, true, false, cond, not, ◌&&◌, List, ℤ, Option}
use Rattle.std.specs.Prelude.{None, Some, ◌≢◌}
use Rattle.std.specs.List.{find, filter, count_by}
use Rattle.std.specs.Option.{option_and_then, option_eq}
use Rattle.std.specs.Ordering.{int_eq}
use Rattle.std.specs.Cmp.Lexicographic.{pointwise}
use Rattle.pg_graph.specs.Rows.{Rows}
use Rattle.pg_model.specs.Job.{Inputs, Job}
use Rattle.pg_model.specs.Superstep.{is_active, ids, inputs_of}
use Rattle.pg_model.specs.Run.{present_at, view_at, run_length}
use Rattle.pg_model.specs.declared.configuration.VertexWithInbox.{VertexWithInbox}
use Rattle.pg_model.specs.declared.view.View.{View}

module _ {V M : Type 0} where
  -- the vertex with an id, and what it has received
  abbrev pub with_inbox_at : ℕ → List (VertexWithInbox V M) → Option (VertexWithInbox V M)
  with_inbox_at id xs = find (λ x. x.state.id == id) xs

  -- what an active vertex reads
  abbrev pub inputs_if_active : View → VertexWithInbox V M → Option (Inputs V M)
  inputs_if_active view x = cond (is_active x) (Some (inputs_of view x)) None

  module _ (job : Job V M) where
    -- what vertex id reads in superstep s, where the run has that superstep and executes it there
    unfoldable pub inputs_at : Rows → ℕ → ℕ → Option (Inputs V M)
    inputs_at rows s id =
        cond (nat_lt s (run_length job rows))
        (option_and_then (inputs_if_active (view_at job rows s)) (with_inbox_at id (present_at job rows s))) None

    -- the same of a graph that was kept, if any
    abbrev pub kept_inputs_at : Option Rows → ℕ → ℕ → Option (Inputs V M)
    kept_inputs_at None s id = None
    kept_inputs_at (Some rows) s id = inputs_at rows s id

    -- an execution is needed where its inputs aren't those of the kept run
    pub record IsNeeded (kept : Option Rows) (rows : Rows) (s id : ℕ) : Type 0 where
      pub inputs : Inputs V M
      pub present : inputs_at rows s id ≡ Some inputs
      pub changed : kept_inputs_at kept s id ≢ Some inputs

  module _ (value_eq : V → V → Bool) (message_eq : M → M → Bool) where
    abbrev pub view_eq : View → View → Bool
    view_eq a b =
        (a.superstep == b.superstep) && (pointwise (option_eq int_eq) a.aggregates b.aggregates &&
        (option_eq ◌==◌ a.total_vertices b.total_vertices && option_eq ◌==◌ a.total_edges b.total_edges))

    abbrev pub edge_eq : ℕ × ℤ → ℕ × ℤ → Bool
    edge_eq a b = (a.0 == b.0) && int_eq a.1 b.1

    -- whether two executions read the same
    abbrev pub inputs_eq : Inputs V M → Inputs V M → Bool
    inputs_eq a b =
        view_eq a.view b.view && ((a.id == b.id) && (value_eq a.value b.value
        && (pointwise edge_eq a.edges b.edges && pointwise message_eq a.inbox b.inbox)))

    -- the test for `IsNeeded`
    abbrev pub is_changed : Option (Inputs V M) → Option (Inputs V M) → Bool
    is_changed old None = false
    is_changed None (Some new) = true
    is_changed (Some old) (Some new) = not (inputs_eq old new)

    module _ (job : Job V M) (kept : Option Rows) (rows : Rows) where
      abbrev pub is_needed : ℕ → ℕ → Bool
      is_needed s id = is_changed (kept_inputs_at job kept s id) (inputs_at job rows s id)

      -- how many executions are needed in superstep s, of those vertices whose ids a test picks
      abbrev pub needed_in : (ℕ → Bool) → ℕ → ℕ
      needed_in picks s = count_by (is_needed s) (filter picks (ids (present_at job rows s)))

      -- how many executions are needed in the supersteps below s
      unfoldable pub needed_below : ℕ → ℕ
      needed_below zero = 0
      needed_below (suc s) = needed_below s + needed_in (λ id. true) s

      -- how many executions the run needs
      abbrev pub needed_count : ℕ
      needed_count = needed_below (run_length job rows)
