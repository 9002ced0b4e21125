-- Equal inputs give equal records: why what an execution of one run gave may stand in another run.
use Rattle.std.proofs.Common.{◌≡◌, ℕ, zero, suc, ◌+◌, ◌<◌, Bool, true, false, cond, ltb, List, [], ◌∷◌, ℤ, length, get_or, None, Some}
use Rattle.std.proofs.Common.{option_and_then, refl, ap, ap₂, sym, ◌∙◌, subst, arith, true≢false, add-zero, zero-add}
use Rattle.std.proofs.lemmas.Bool.{lt-ltb}
use Rattle.std.proofs.lemmas.Option.{same_Some}
use Rattle.pg_graph.specs.Rows.{Rows}
use Rattle.pg_model.specs.Agreement.{IsSeenAlike}
use Rattle.pg_model.specs.Job.{Job, Program, Inputs, has_place}
use Rattle.pg_model.specs.Superstep.{is_active, idle, inputs_of, outcome, state_after, shown, view_of}
use Rattle.pg_model.specs.Run.{present_at, view_at, run_length}
use Rattle.pg_model.specs.Needed.{with_inbox_at, inputs_if_active, inputs_at}
use Rattle.pg_model.proofs.LawsInputs.{executed_from_inputs}
use Rattle.pg_model.specs.declared.configuration.VertexWithInbox.{VertexWithInbox}
use Rattle.pg_model.specs.declared.view.Declared.{Declared}
use Rattle.pg_model.specs.declared.view.View.{View}
use Rattle.pg_model.specs.declared.view.Visible.{Visible}

-- ---- the view

same_shown : (b : Bool) (v w : ℤ) → (b ≡ true → v ≡ w) → cond b (Some v) None ≡ cond b (Some w) None
same_shown true v w e = ap Some (e refl)
same_shown false v w e = refl

shown_alike : (places place : ℕ) (xs ys : List ℤ) → length xs ≡ length ys
    → ((k : ℕ) (d : ℤ) → k < length xs → has_place places (place + k) ≡ true → get_or xs k d ≡ get_or ys k d)
    → shown places place xs ≡ shown places place ys
shown_alike places place [] [] e h = refl
shown_alike places place [] (y ∷ ys) e h = absurd (omega arith)
shown_alike places place (x ∷ xs) [] e h = absurd (omega arith)
shown_alike places place (x ∷ xs) (y ∷ ys) e h =
    ap₂ ◌∷◌
    (same_shown (has_place places place) x y (λ t. h 0 x (omega arith) (subst (λ (n : ℕ). has_place places n ≡ true) (sym (add-zero place)) t)))
    (shown_alike places (place + 1) xs ys (omega arith) (λ k d l t. h (suc k) d (omega arith) (subst (λ (n : ℕ). has_place places n ≡ true) (next_place k) t)))
  where
    next_place : (k : ℕ) → place + 1 + k ≡ place + suc k
    next_place k = omega arith

same_total : (b : Bool) (v w : ℕ) → (b ≡ true → v ≡ w) → cond b (Some v) None ≡ cond b (Some w) None
same_total true v w e = ap Some (e refl)
same_total false v w e = refl

-- a program sees the same where the declared places and totals are the same
pub same_view : (declared : Declared) (s : ℕ) (a b : Visible) → IsSeenAlike declared a b → view_of declared s a ≡ view_of declared s b
unfolding view_of
same_view declared s a b h =
    let aggregates : shown declared.reads 0 a.values ≡ shown declared.reads 0 b.values =
    shown_alike declared.reads 0 a.values b.values h.places
    (λ k d l t. h.values k d l (subst (λ (n : ℕ). has_place declared.reads n ≡ true) (zero-add k) t)) in
    let vertices = same_total declared.total_vertices a.total_vertices b.total_vertices h.vertices in
    let edges = same_total declared.total_edges a.total_edges b.total_edges h.edges in
    λ i. record { superstep = s; aggregates = aggregates i; total_vertices = vertices i; total_edges = edges i }

shown_same : (b : Bool) (v w : ℤ) → cond b (Some v) None ≡ cond b (Some w) None → b ≡ true → v ≡ w
shown_same true v w e t = cc
shown_same false v w e t = absurd (true≢false (sym t))

total_same : (b : Bool) (v w : ℕ) → cond b (Some v) None ≡ cond b (Some w) None → b ≡ true → v ≡ w
total_same true v w e t = cc
total_same false v w e t = absurd (true≢false (sym t))

heads_same : {X : Type 0} (x y : X) (xs ys : List X) → x ∷ xs ≡ y ∷ ys → x ≡ y
heads_same x y xs ys e = cc

tails_same : {X : Type 0} (x y : X) (xs ys : List X) → x ∷ xs ≡ y ∷ ys → xs ≡ ys
tails_same x y xs ys e = cc

as_many_shown : (places place : ℕ) (xs : List ℤ) → length (shown places place xs) ≡ length xs
as_many_shown places place [] = refl
as_many_shown places place (x ∷ xs) = ap suc (as_many_shown places (place + 1) xs)

alike_shown : (places place : ℕ) (xs ys : List ℤ) → shown places place xs ≡ shown places place ys → (k : ℕ) (d : ℤ)
    → has_place places (place + k) ≡ true → get_or xs k d ≡ get_or ys k d
alike_shown places place [] [] e k d t = refl
alike_shown places place [] (y ∷ ys) e k d t = absurd (omega (arith, ap length e))
alike_shown places place (x ∷ xs) [] e k d t = absurd (omega (arith, ap length e))
alike_shown places place (x ∷ xs) (y ∷ ys) e zero d t =
    shown_same (has_place places place) x y (heads_same _ _ _ _ e) (subst (λ (n : ℕ). has_place places n ≡ true) (add-zero place) t)
alike_shown places place (x ∷ xs) (y ∷ ys) e (suc k) d t =
    let at : place + suc k ≡ place + 1 + k = omega arith in
    alike_shown places (place + 1) xs ys (tails_same _ _ _ _ e) k d (subst (λ (n : ℕ). has_place places n ≡ true) at t)

-- and only there
pub seen_alike_from_view : (declared : Declared) (s : ℕ) (a b : Visible) → view_of declared s a ≡ view_of declared s b → IsSeenAlike declared a b
unfolding view_of
seen_alike_from_view declared s a b e =
    let shows : shown declared.reads 0 a.values ≡ shown declared.reads 0 b.values = ap (λ (v : View). v.aggregates) e in
    record {
      places = sym (as_many_shown declared.reads 0 a.values) ∙ (ap length shows ∙ as_many_shown declared.reads 0 b.values);
      values = λ k d l t. alike_shown declared.reads 0 a.values b.values shows k d (subst (λ (n : ℕ). has_place declared.reads n ≡ true) (sym (zero-add k)) t);
      vertices = total_same declared.total_vertices a.total_vertices b.total_vertices (ap (λ (v : View). v.total_vertices) e);
      edges = total_same declared.total_edges a.total_edges b.total_edges (ap (λ (v : View). v.total_edges) e);
    }

-- ---- one execution

module _ {V M : Type 0} where
  -- a vertex reads the same where its state, its inbox and what it sees are the same
  pub same_inputs : (v w : View) (x y : VertexWithInbox V M) → v ≡ w → x.state ≡ y.state → x.inbox ≡ y.inbox → inputs_of v x ≡ inputs_of w y
  same_inputs v w x y e state inbox = λ i. inputs_of (e i) (record { state = state i; inbox = inbox i })

  -- and the superstep makes the same of it
  pub same_outcome : (program : Program V M) (v w : View) (x y : VertexWithInbox V M) → v ≡ w → x.state ≡ y.state → x.inbox ≡ y.inbox
      → outcome program v x ≡ outcome program w y
  same_outcome program v w x y e state inbox = λ i. outcome program (e i) (record { state = state i; inbox = inbox i })

  -- so its next state is the same
  pub same_next_state : (program : Program V M) (v w : View) (x y : VertexWithInbox V M) → v ≡ w → x.state ≡ y.state → x.inbox ≡ y.inbox
      → state_after x.state (outcome program v x) ≡ state_after y.state (outcome program w y)
  same_next_state program v w x y e state inbox =
      let made = same_outcome program v w x y e state inbox in
      λ i. state_after (state i) (made i)

  -- what an execution gives is the program's step on its inputs, whatever else stands there
  pub outcome-active : (program : Program V M) (view : View) (x : VertexWithInbox V M) → is_active x ≡ true → outcome program view x ≡ program.step (inputs_of view x)
  unfolding outcome
  outcome-active program view x e = ap (λ (b : Bool). cond b (program.step (inputs_of view x)) (idle x.state)) e

  -- a vertex that isn't executed leaves nothing but its state
  pub outcome-idle : (program : Program V M) (view : View) (x : VertexWithInbox V M) → is_active x ≡ false → outcome program view x ≡ idle x.state
  unfolding outcome
  outcome-idle program view x e = ap (λ (b : Bool). cond b (program.step (inputs_of view x)) (idle x.state)) e

  -- which stays
  pub state_after-idle : (program : Program V M) (view : View) (x : VertexWithInbox V M) → is_active x ≡ false → state_after x.state (outcome program view x) ≡ x.state
  state_after-idle program view x e = ap (state_after x.state) (outcome-idle program view x e)

-- ---- two runs

module _ {V M : Type 0} where
  -- an execution gives the program's step on its inputs
  pub outcome_of_inputs : (job : Job V M) (rows : Rows) (s id : ℕ) (x : VertexWithInbox V M) (i : Inputs V M)
      → with_inbox_at id (present_at job rows s) ≡ Some x → inputs_at job rows s id ≡ Some i
      → outcome job.program (view_at job rows s) x ≡ job.program.step i
  outcome_of_inputs job rows s id x i at e =
      let r = executed_from_inputs job rows s id i e in
      let same : r.0 ≡ x = same_Some r.0 x (sym r.1.present ∙ at) in
      sym (ap (outcome job.program (view_at job rows s)) same) ∙ (outcome-active job.program (view_at job rows s) r.0 r.1.active ∙ ap job.program.step r.2)

  -- and leaves the state that this step says
  pub next_state_of_inputs : (job : Job V M) (rows : Rows) (s id : ℕ) (x : VertexWithInbox V M) (i : Inputs V M)
      → with_inbox_at id (present_at job rows s) ≡ Some x → inputs_at job rows s id ≡ Some i
      → state_after x.state (outcome job.program (view_at job rows s) x) ≡ record {
        id = i.id;
        value = (job.program.step i).value;
        edges = (job.program.step i).edges;
        halted = (job.program.step i).halted;
      }
  next_state_of_inputs job rows s id x i at e =
      let r = executed_from_inputs job rows s id i e in
      let same : r.0 ≡ x = same_Some r.0 x (sym r.1.present ∙ at) in
      let named : x.state.id ≡ i.id = sym (ap (λ (y : VertexWithInbox V M). y.state.id) same) ∙ ap (λ (j : Inputs V M). j.id) r.2 in
      let made = outcome_of_inputs job rows s id x i at e in
      λ j. record { id = named j; value = (made j).value; edges = (made j).edges; halted = (made j).halted }

  -- two runs of one program give the same record wherever an execution reads the same in both: this is why a record may be kept
  pub same_record : (job job' : Job V M) (rows rows' : Rows) (s s' id id' : ℕ) (x x' : VertexWithInbox V M) (i : Inputs V M)
      → job.program ≡ job'.program → with_inbox_at id (present_at job rows s) ≡ Some x → inputs_at job rows s id ≡ Some i
      → with_inbox_at id' (present_at job' rows' s') ≡ Some x' → inputs_at job' rows' s' id' ≡ Some i
      → outcome job.program (view_at job rows s) x ≡ outcome job'.program (view_at job' rows' s') x'
  same_record job job' rows rows' s s' id id' x x' i program at e at' e' =
      outcome_of_inputs job rows s id x i at e ∙ (ap (λ (p : Program V M). p.step i) program ∙ sym (outcome_of_inputs job' rows' s' id' x' i at' e'))

  -- two runs of one job read the same at a vertex that stands alike in both and sees the same
  pub same_inputs_at : (job : Job V M) (rows rows' : Rows) (s id : ℕ) → s < run_length job rows → s < run_length job rows'
      → view_at job rows s ≡ view_at job rows' s → with_inbox_at id (present_at job rows s) ≡ with_inbox_at id (present_at job rows' s)
      → inputs_at job rows s id ≡ inputs_at job rows' s id
  unfolding inputs_at
  same_inputs_at job rows rows' s id within within' view at =
      let both : ltb s (run_length job rows) ≡ ltb s (run_length job rows') =
      lt-ltb s (run_length job rows) within ∙ sym (lt-ltb s (run_length job rows') within') in
      λ i. cond (both i) (option_and_then (inputs_if_active (view i)) (at i)) None
