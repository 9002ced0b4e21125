-- Needed executions: all of them from scratch, none against the same run, and the test decides which.
use Rattle.std.proofs.Common.{◌≡◌, ℕ, zero, suc, ◌+◌, ◌<◌, ◌≤◌, Bool, true, false, not, ◌&&◌, ◌==◌, List, [], ◌∷◌, ℤ, Option, None, Some, is_some}
use Rattle.std.proofs.Common.{refl, ap, ap₂, sym, ◌∙◌, arith, count_by, filter}
use Rattle.std.specs.Cmp.Lexicographic.{pointwise}
use Rattle.std.specs.Option.{option_eq}
use Rattle.std.specs.Ordering.{int_eq}
use Rattle.std.proofs.lemmas.Bool.{eq-eqb}
use Rattle.std.proofs.lemmas.Bool.Decides.{Decides-int_eq}
use Rattle.pg_graph.specs.Rows.{Rows, HasRisingIds}
use Rattle.pg_model.specs.Job.{Job, Inputs}
use Rattle.pg_model.specs.Superstep.{is_active, ids}
use Rattle.pg_model.specs.Run.{present_at, run_length, executions_below, executions}
use Rattle.pg_model.specs.Needed.{with_inbox_at, inputs_at, view_eq, edge_eq, inputs_eq, is_changed, is_needed, needed_in, needed_below, needed_count}
use Rattle.pg_model.proofs.LawsIds.{ids_rise}
use Rattle.pg_model.proofs.LawsInputs.{inputs_of_executed, no_inputs_idle}
use Rattle.pg_model.proofs.LawsLists.{all_weaker, all-filter, all_pass, filter-map, same_count, count_by-map, count-none}
use Rattle.pg_model.proofs.LawsVerticesWithInbox.{found_by_id}
use Rattle.pg_model.specs.declared.configuration.VertexWithInbox.{VertexWithInbox}
use Rattle.pg_model.specs.declared.view.View.{View}

-- ---- from scratch

module _ {V M : Type 0} (job : Job V M) (rows : Rows) where
  -- a vertex of the run has inputs where it is active
  has_inputs : (s : ℕ) (x : VertexWithInbox V M) → s < run_length job rows → with_inbox_at x.state.id (present_at job rows s) ≡ Some x
      → is_some (inputs_at job rows s x.state.id) ≡ is_active x
  has_inputs s x within at = by (is_active x) refl
    where
      by : (b : Bool) → is_active x ≡ b → is_some (inputs_at job rows s x.state.id) ≡ is_active x
      by true e = ap is_some (inputs_of_executed job rows s x.state.id x (record { within = within; present = at; active = e })) ∙ sym e
      by false e = ap is_some (no_inputs_idle job rows s x.state.id x at e) ∙ sym e

  -- of the vertices whose ids pass a test, as many have inputs in a superstep of the run as are executed in it
  pub count-inputs_of : HasRisingIds rows → (s : ℕ) → s < run_length job rows → (picks : ℕ → Bool)
      → count_by (λ id. is_some (inputs_at job rows s id)) (filter picks (ids (present_at job rows s)))
      ≡ count_by is_active (filter (λ x. picks x.state.id) (present_at job rows s))
  count-inputs_of rising s within picks =
      let xs : List (VertexWithInbox V M) = present_at job rows s in
      let test : ℕ → Bool = λ id. is_some (inputs_at job rows s id) in
      let some : VertexWithInbox V M → Bool = λ x. picks x.state.id in
      ap (count_by test) (filter-map picks (λ (x : VertexWithInbox V M). x.state.id) xs)
      ∙ (count_by-map test (λ (x : VertexWithInbox V M). x.state.id) (filter some xs)
      ∙ same_count (λ (x : VertexWithInbox V M). test x.state.id) is_active (filter some xs) (all_weaker
      (λ (x : VertexWithInbox V M). with_inbox_at x.state.id xs ≡ Some x) (λ (x : VertexWithInbox V M). test x.state.id ≡ is_active x)
      (λ x at. has_inputs s x within at) (filter some xs)
      (all-filter (λ (x : VertexWithInbox V M). with_inbox_at x.state.id xs ≡ Some x) some xs (found_by_id xs (ids_rise job rows rising s)))))

module _ {V M : Type 0} (value_eq : V → V → Bool) (message_eq : M → M → Bool) where
  changed_from_none : (new : Option (Inputs V M)) → is_changed value_eq message_eq None new ≡ is_some new
  changed_from_none None = refl
  changed_from_none (Some i) = refl

  module _ (job : Job V M) (rows : Rows) where
    -- from scratch, an execution is needed where there is one
    pub is_needed-none : (s id : ℕ) → is_needed value_eq message_eq job None rows s id ≡ is_some (inputs_at job rows s id)
    is_needed-none s id = changed_from_none (inputs_at job rows s id)

    -- from scratch, as many are needed of some vertices as are executed of them
    pub needed_in-none : HasRisingIds rows → (s : ℕ) → s < run_length job rows → (picks : ℕ → Bool)
        → needed_in value_eq message_eq job None rows picks s ≡ count_by is_active (filter (λ x. picks x.state.id) (present_at job rows s))
    needed_in-none rising s within picks =
        ap (λ (test : ℕ → Bool). count_by test (filter picks (ids (present_at job rows s)))) (λ i id. is_needed-none s id i)
        ∙ count-inputs_of job rows rising s within picks

    -- from scratch, every execution of the run is needed
    pub needed_below-none : HasRisingIds rows → (s : ℕ) → s ≤ run_length job rows
        → needed_below value_eq message_eq job None rows s ≡ executions_below job rows s
    unfolding needed_below executions_below
    needed_below-none rising zero within = refl
    needed_below-none rising (suc s) within =
        let each =
        needed_in-none rising s (omega arith) (λ id. true)
        ∙ ap (count_by is_active) (all_pass (λ (x : VertexWithInbox V M). true) (λ x. refl) (present_at job rows s)) in
        ap₂ ◌+◌ (needed_below-none rising s (omega arith)) each

    -- so as many are needed as the run has
    pub needed_count-none : HasRisingIds rows → needed_count value_eq message_eq job None rows ≡ executions job rows
    needed_count-none rising = needed_below-none rising (run_length job rows) (omega arith)

-- ---- against the same run

itself : {X : Type 0} (E : X → X → Bool) → ((x : X) → E x x ≡ true) → (xs : List X) → pointwise E xs xs ≡ true
itself E r [] = refl
itself E r (x ∷ xs) = ap₂ ◌&&◌ (r x) (itself E r xs)

option_itself : {X : Type 0} (E : X → X → Bool) → ((x : X) → E x x ≡ true) → (o : Option X) → option_eq E o o ≡ true
option_itself E r None = refl
option_itself E r (Some x) = r x

nat_itself : (n : ℕ) → (n == n) ≡ true
nat_itself n = eq-eqb n n refl

int_itself : (n : ℤ) → int_eq n n ≡ true
int_itself n = (Decides-int_eq n n).1 refl

module _ {V M : Type 0} (value_eq : V → V → Bool) (message_eq : M → M → Bool) (values : (a : V) → value_eq a a ≡ true)
    (messages : (a : M) → message_eq a a ≡ true) where
  view_itself : (a : View) → view_eq value_eq message_eq a a ≡ true
  view_itself a =
      ap₂ ◌&&◌ (nat_itself a.superstep) (ap₂ ◌&&◌ (itself _ (option_itself int_eq int_itself) a.aggregates)
      (ap₂ ◌&&◌ (option_itself ◌==◌ nat_itself a.total_vertices) (option_itself ◌==◌ nat_itself a.total_edges)))

  edge_itself : (a : ℕ × ℤ) → edge_eq value_eq message_eq a a ≡ true
  edge_itself a = ap₂ ◌&&◌ (nat_itself a.0) (int_itself a.1)

  inputs_itself : (a : Inputs V M) → inputs_eq value_eq message_eq a a ≡ true
  inputs_itself a =
      ap₂ ◌&&◌ (view_itself a.view)
      (ap₂ ◌&&◌ (nat_itself a.id) (ap₂ ◌&&◌ (values a.value) (ap₂ ◌&&◌ (itself _ edge_itself a.edges) (itself message_eq messages a.inbox))))

  pub unchanged : (o : Option (Inputs V M)) → is_changed value_eq message_eq o o ≡ false
  unchanged None = refl
  unchanged (Some i) = ap not (inputs_itself i)

  module _ (job : Job V M) (rows : Rows) where
    -- against the run on the same graph, no execution is needed
    pub needed_below-same : (s : ℕ) → needed_below value_eq message_eq job (Some rows) rows s ≡ 0
    unfolding needed_below
    needed_below-same zero = refl
    needed_below-same (suc s) =
        let is : List ℕ = filter (λ id. true) (ids (present_at job rows s)) in
        let none : count_by (λ id. is_needed value_eq message_eq job (Some rows) rows s id) is ≡ 0 =
        ap (λ (test : ℕ → Bool). count_by test is) (λ i id. unchanged (inputs_at job rows s id) i) ∙ count-none is in
        ap₂ ◌+◌ (needed_below-same s) none

    -- not in the whole run
    pub needed_count-same : needed_count value_eq message_eq job (Some rows) rows ≡ 0
    needed_count-same = needed_below-same (run_length job rows)
