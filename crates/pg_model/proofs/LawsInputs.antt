-- Where an execution has inputs: the run has its superstep, and its vertex is there and active.
use Rattle.std.proofs.Common.{◌≡◌, ℕ, ◌<◌, ◌≤◌, Bool, true, false, cond, ltb, Option, None, Some, option_and_then, refl, ap, ◌∙◌}
use Rattle.std.proofs.lemmas.Bool.{ltb-true, lt-ltb, le-ltb}
use Rattle.std.proofs.lemmas.Option.{none-some, cond_some}
use Rattle.pg_graph.specs.Rows.{Rows}
use Rattle.pg_model.specs.Job.{Job, Inputs}
use Rattle.pg_model.specs.Superstep.{is_active, inputs_of}
use Rattle.pg_model.specs.Run.{present_at, view_at, run_length}
use Rattle.pg_model.specs.Needed.{with_inbox_at, inputs_if_active, inputs_at}
use Rattle.pg_model.specs.declared.configuration.VertexWithInbox.{VertexWithInbox}

found : {A B : Type 0} (b : Bool) (f : A → Option B) (o : Option A) (y : B) → cond b (option_and_then f o) None ≡ Some y
    → (x : A) × (b ≡ true) × (o ≡ Some x) × (f x ≡ Some y)
found false f o y e = absurd (none-some y e)
found true f None y e = absurd (none-some y e)
found true f (Some x) y e = (x, refl, refl, e)

either_way : {X : Type 0} (x : X) (b : Bool) → cond b x x ≡ x
either_way x true = refl
either_way x false = refl

module _ {V M : Type 0} (job : Job V M) (rows : Rows) where
  -- vertex id is executed in superstep s of the run, as x stands there
  pub record IsExecuted (s id : ℕ) (x : VertexWithInbox V M) : Type 0 where
    pub within : s < run_length job rows
    pub present : with_inbox_at id (present_at job rows s) ≡ Some x
    pub active : is_active x ≡ true

  -- an execution with inputs is one of a vertex that is there and active, and reads just those
  pub executed_from_inputs : (s id : ℕ) (i : Inputs V M) → inputs_at job rows s id ≡ Some i
      → (x : VertexWithInbox V M) × IsExecuted s id x × (inputs_of (view_at job rows s) x ≡ i)
  unfolding inputs_at
  executed_from_inputs s id i e =
      let r = found (ltb s (run_length job rows)) (inputs_if_active (view_at job rows s)) (with_inbox_at id (present_at job rows s)) i e in
      let a = cond_some (is_active r.0) (inputs_of (view_at job rows s) r.0) i r.3 in
      (r.0, record { within = ltb-true _ _ r.1; present = r.2; active = a.0 }, a.1)

  -- an executed vertex reads its inputs
  pub inputs_of_executed : (s id : ℕ) (x : VertexWithInbox V M) → IsExecuted s id x → inputs_at job rows s id ≡ Some (inputs_of (view_at job rows s) x)
  unfolding inputs_at
  inputs_of_executed s id x h =
      ap (λ (b : Bool). cond b (option_and_then (inputs_if_active (view_at job rows s)) (with_inbox_at id (present_at job rows s))) None)
      (lt-ltb s (run_length job rows) h.within)
      ∙ (ap (option_and_then (inputs_if_active (view_at job rows s))) h.present
      ∙ ap (λ (b : Bool). cond b (Some (inputs_of (view_at job rows s) x)) None) h.active)

  -- there are no inputs past the end of the run
  pub no_inputs_past : (s id : ℕ) → run_length job rows ≤ s → inputs_at job rows s id ≡ None
  unfolding inputs_at
  no_inputs_past s id h =
      ap (λ (b : Bool). cond b (option_and_then (inputs_if_active (view_at job rows s)) (with_inbox_at id (present_at job rows s))) None)
      (le-ltb s (run_length job rows) h)

  -- nor of a vertex that isn't there
  pub no_inputs_missing : (s id : ℕ) → with_inbox_at id (present_at job rows s) ≡ None → inputs_at job rows s id ≡ None
  unfolding inputs_at
  no_inputs_missing s id e =
      ap (λ (o : Option (VertexWithInbox V M)). cond (ltb s (run_length job rows)) (option_and_then (inputs_if_active (view_at job rows s)) o) None) e
      ∙ either_way None (ltb s (run_length job rows))

  -- nor of one that isn't active
  pub no_inputs_idle : (s id : ℕ) (x : VertexWithInbox V M) → with_inbox_at id (present_at job rows s) ≡ Some x → is_active x ≡ false → inputs_at job rows s id ≡ None
  unfolding inputs_at
  no_inputs_idle s id x e idle =
      ap (λ (o : Option (VertexWithInbox V M)). cond (ltb s (run_length job rows)) (option_and_then (inputs_if_active (view_at job rows s)) o) None) e
      ∙ (ap (λ (b : Bool). cond (ltb s (run_length job rows)) (cond b (Some (inputs_of (view_at job rows s) x)) None) None) idle
      ∙ either_way None (ltb s (run_length job rows)))
