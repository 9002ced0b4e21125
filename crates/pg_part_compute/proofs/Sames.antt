-- What is the same where a vertex is found the same in two runs; and a trace that holds a run holds less of it.
use Rattle.std.proofs.Common.{◌≡◌, ℕ, zero, suc, ◌≤◌, ◌&&◌, not, Bool, true, false, cond, [], ◌∷◌, take, Option, None}
use Rattle.std.proofs.Common.{Some, option_map, is_some, refl, sym, ap, ap₂, ◌∙◌, arith, true≢false, inl, inr}
use Rattle.std.proofs.lemmas.Bool.{cases_lt}
use Rattle.std.proofs.lemmas.List.{take-append-le, take-take, take_all}
use Rattle.pg_graph.specs.Rows.{Rows}
use Rattle.pg_model.specs.ByIds.{state_at, state_left}
use Rattle.pg_model.specs.Job.{Inputs, Job}
use Rattle.pg_model.specs.Needed.{inputs_at, is_changed}
use Rattle.pg_model.specs.Share.{records_below, records_in}
use Rattle.pg_model.specs.Superstep.{inputs_of, is_active}
use Rattle.pg_model.proofs.LawsAgreement.{next_state_of_inputs}
use Rattle.pg_model.proofs.LawsInputs.{executed_from_inputs}
use Rattle.pg_model.proofs.LawsPresent.{state_at-next}
use Rattle.pg_model.specs.declared.configuration.VertexWithInbox.{VertexWithInbox}
use Rattle.pg_model.specs.declared.view.View.{View}
use Rattle.pg_part_compute.specs.Found.{AreSameVertices, are_inactive, are_same_reading, is_running, is_same_vertex, is_same_view, reads}
use Rattle.pg_part_compute.proofs.Coverage.{length_below}
use Rattle.pg_inbox.proofs.Among.{both}
use Rattle.pg_trace.specs.OfRun.{HoldsRun}
use Rattle.pg_trace.specs.Trace.{Trace}

-- ---- one vertex in two runs

module _ {V M : Type 0} (value_eq : V → V → Bool) (message_eq : M → M → Bool) where
  -- vertices that are found the same read the same
  pub reads_same : (view : View) (o o' : Option (VertexWithInbox V M)) → are_same_reading value_eq message_eq o o' ≡ true → AreSameVertices o o'
      → reads view o ≡ reads view o'
  reads_same view None o' h same = absurd (true≢false (sym h))
  reads_same view (Some x) None h same = absurd (true≢false (sym h))
  reads_same view (Some x) (Some y) h same =
      let a = both (is_active x) (is_active y && is_same_vertex value_eq message_eq x y) h in
      let b = both (is_active y) (is_same_vertex value_eq message_eq x y) a.1 in
      let inputs : inputs_of view x ≡ inputs_of view y =
      λ i. record { view = view; id = same.id i; value = same.value i; edges = same.edges i; inbox = same.inbox i } in
      ap (λ (t : Bool). cond t (Some (inputs_of view x)) None) a.0
      ∙ (ap Some inputs ∙ sym (ap (λ (t : Bool). cond t (Some (inputs_of view y)) None) b.0))

  -- and are executed
  pub is_active_then : (view : View) (o o' : Option (VertexWithInbox V M)) → are_same_reading value_eq message_eq o o' ≡ true → is_some (reads view o') ≡ true
  is_active_then view None o' h = absurd (true≢false (sym h))
  is_active_then view (Some x) None h = absurd (true≢false (sym h))
  is_active_then view (Some x) (Some y) h =
      let a = both (is_active x) (is_active y && is_same_vertex value_eq message_eq x y) h in
      ap (λ (t : Bool). is_some (cond t (Some (inputs_of view y)) None)) (both (is_active y) (is_same_vertex value_eq message_eq x y) a.1).0

  -- one that is executed in neither run reads nothing in both
  pub at_rest_then : (old_view view : View) (o o' : Option (VertexWithInbox V M)) → are_inactive o o' ≡ true → (reads old_view o ≡ None) × (reads view o' ≡ None)
  at_rest_then old_view view o o' h =
      let parts = both (not (is_running o)) (not (is_running o')) h in
      (nothing old_view o (off (is_running o) parts.0), nothing view o' (off (is_running o') parts.1))
    where
      off : (b : Bool) → not b ≡ true → b ≡ false
      off true h = absurd (true≢false (sym h))
      off false h = refl

      nothing : (v : View) (o : Option (VertexWithInbox V M)) → is_running o ≡ false → reads v o ≡ None
      nothing v None h = refl
      nothing v (Some x) h = ap (λ (t : Bool). cond t (Some (inputs_of v x)) None) h

  -- a vertex is executed just where it reads something else than in the old run
  pub runs_if_changed : (old_view view : View) (o o' : Option (VertexWithInbox V M))
      → (not (is_same_view old_view view && are_same_reading value_eq message_eq o o') && is_some (reads view o'))
      ≡ is_changed value_eq message_eq (reads old_view o) (reads view o')
  runs_if_changed old_view view o None = nothing (is_same_view old_view view && are_same_reading value_eq message_eq o None) (reads old_view o)
    where
      nothing : (b : Bool) (i : Option (Inputs V M)) → (not b && false) ≡ is_changed value_eq message_eq i None
      nothing true i = refl
      nothing false i = refl
  runs_if_changed old_view view None (Some y) = by (is_same_view old_view view) (is_active y)
    where
      by : (b t : Bool) → (not (b && false) && is_some (cond t (Some (inputs_of view y)) None))
          ≡ is_changed value_eq message_eq None (cond t (Some (inputs_of view y)) None)
      by true true = refl
      by true false = refl
      by false true = refl
      by false false = refl
  runs_if_changed old_view view (Some x) (Some y) =
      by (is_same_view old_view view) (is_active x) (is_active y) (is_same_vertex value_eq message_eq x y) refl refl
    where
      by : (b s t e : Bool) → is_same_view old_view view ≡ b → is_same_vertex value_eq message_eq x y ≡ e
          → (not (b && (s && (t && e))) && is_some (cond t (Some (inputs_of view y)) None))
          ≡ is_changed value_eq message_eq (cond s (Some (inputs_of old_view x)) None) (cond t (Some (inputs_of view y)) None)
      by true true true true f g = ap not (sym (ap₂ ◌&&◌ f g))
      by true true true false f g = ap not (sym (ap₂ ◌&&◌ f g))
      by false true true true f g = ap not (sym (ap₂ ◌&&◌ f g))
      by false true true false f g = ap not (sym (ap₂ ◌&&◌ f g))
      by true true false e f g = refl
      by false true false e f g = refl
      by true false true e f g = refl
      by false false true e f g = refl
      by true false false e f g = refl
      by false false false e f g = refl

module _ {V M : Type 0} (job : Job V M) where
  -- the state that an execution leaves is read off its inputs
  state_from_inputs : (rows : Rows) (s id : ℕ) (i : Inputs V M) → inputs_at job rows s id ≡ Some i
      → state_at job rows (suc s) id
      ≡ Some (record { id = i.id; value = (job.program.step i).value; edges = (job.program.step i).edges; halted = (job.program.step i).halted })
  state_from_inputs rows s id i e =
      let x = executed_from_inputs job rows s id i e in
      state_at-next job rows s id ∙ (ap (option_map (state_left job rows s)) x.1.present ∙ ap Some (next_state_of_inputs job rows s id x.0 i x.1.present e))

  -- so two runs in which a vertex reads the same leave it the same
  pub same_next_state : (old rows : Rows) (s id : ℕ) (i : Inputs V M) → inputs_at job old s id ≡ Some i → inputs_at job rows s id ≡ Some i
      → state_at job old (suc s) id ≡ state_at job rows (suc s) id
  same_next_state old rows s id i e e' = state_from_inputs old s id i e ∙ sym (state_from_inputs rows s id i e')

-- ---- less of a run

module _ {V M : Type 0} (job : Job V M) (rows : Rows) (n p : ℕ) (trace : Trace V M) where
  take_below : (s r : ℕ) → s ≤ r → take s (records_below job rows n p r) ≡ records_below job rows n p s
  unfolding records_below
  take_below s zero h = let none : s ≡ 0 = omega (arith, h) in ap (λ k. take k (records_below job rows n p 0)) none ∙ ap (records_below job rows n p) (sym none)
  take_below s (suc r) h =
      elim (cases_lt r s) [
        | inl whole ↦
            let same : s ≡ suc r = omega (arith, h, whole) in
            let long = length_below job rows n p trace (suc r) in
            take_all s (records_below job rows n p (suc r)) (omega (arith, long, same)) ∙ ap (records_below job rows n p) (sym same)
        | inr less ↦
            let long = length_below job rows n p trace r in
            take-append-le s (records_below job rows n p r) (records_in job rows n p r ∷ []) (omega (arith, long, less)) ∙ take_below s r (omega (arith, less))
      ]

  pub holds_shorter : (s r : ℕ) → s ≤ r → HoldsRun job rows n p r trace → HoldsRun job rows n p s trace
  holds_shorter s r h holds = record {
    rise = holds.rise;
    initial = holds.initial;
    records = sym (take-take s r trace.records h) ∙ (ap (take s) holds.records ∙ take_below s r h);
  }
