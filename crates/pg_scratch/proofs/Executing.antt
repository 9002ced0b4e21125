-- One execution, and the vertices that aren't executed.
use Rattle.std.proofs.Common.{◌≡◌, ℕ, ◌+◌, Bool, true, false, cond, not, List, [], ◌∷◌, ◌++◌, refl, sym, ap, ◌∙◌, arith, rules, tests}
use Rattle.std.proofs.lemmas.List.{append-nil}
use Rattle.pg_model.proofs.LawsAgreement.{outcome-active, outcome-idle}
use Rattle.pg_model.specs.Job.{Program}
use Rattle.pg_model.specs.Superstep.{is_active, is_empty, outcome, state_after, capped}
use Rattle.pg_model.specs.declared.configuration.VertexWithInbox.{VertexWithInbox}
use Rattle.pg_model.specs.declared.configuration.VertexState.{VertexState}
use Rattle.pg_model.specs.declared.record.Record.{Record}
use Rattle.pg_model.specs.declared.view.View.{View}
use Rattle.pg_program.specs.Computation.{Executes, step_on}
use Rattle.pg_program.specs.Context.{Context}
use Rattle.std.specs.Prelude.{◌<◌, ◌^◌, ℤ}
use Rattle.std.proofs.lemmas.Bool.{or_parts}
use Rattle.pg_scratch.specs.Pass.{ran, context_after}

module _ {V M : Type 0} (program : Program V M) (view : View) (x : VertexWithInbox V M) where
  -- the vertex and the context that an execution borrows
  module _ (vertex vertex' : VertexState V) (inbox : List M) (cx cx' : Context M) (active : is_active x ≡ true) (begins : vertex ≡ record {
    id = x.state.id;
    value = x.state.value;
    edges = x.state.edges;
    halted = false;
  }) (reads : inbox ≡ x.inbox) (sees : cx.view ≡ view) (executes : Executes program vertex vertex' inbox cx cx') where
    step_is : step_on program vertex inbox cx ≡ outcome program view x
    step_is =
        ap (λ (v : VertexState V). step_on program v inbox cx) begins
        ∙ ap (λ (l : List M). program.step (record { view = cx.view; id = x.state.id; value = x.state.value; edges = x.state.edges; inbox = l })) reads
        ∙ ap (λ (w : View). program.step (record { view = w; id = x.state.id; value = x.state.value; edges = x.state.edges; inbox = x.inbox })) sees
        ∙ sym (outcome-active program view x active)

    pub ran-executed : (state : VertexState V) (left : List M) → state ≡ vertex' → left ≡ [] → record { state = state; inbox = left } ≡ ran program view x
    ran-executed state left is_state is_left =
        let P : VertexState V → VertexWithInbox V M = λ s. record { state = s; inbox = [] } in
        let Q : List M → VertexWithInbox V M = λ l. record { state = state; inbox = l } in
        ap Q is_left ∙ ap P (is_state ∙ executes.vertex_is ∙ ap (λ (v : VertexState V). state_after v (step_on program vertex inbox cx)) begins
        ∙ ap (λ (r : Record V M). state_after x.state r) step_is)

    pub context-executed : cx' ≡ record {
      view = cx.view;
      writes = cx.writes;
      sent = cx.sent ++ (outcome program view x).sent;
      contributed = cx.contributed ++ (outcome program view x).contributed;
      calls = capped (cx.calls + 1);
    }
    context-executed =
        let P : Record V M → Context M = λ r. record {
          view = cx.view;
          writes = cx.writes;
          sent = cx.sent ++ r.sent;
          contributed = cx.contributed ++ r.contributed;
          calls = capped (cx.calls + 1);
        } in
        executes.context_is ∙ ap P step_is

-- ---- an idle vertex
length-zero : {X : Type 0} (xs : List X) → is_empty xs ≡ true → xs ≡ []
length-zero [] h = refl
length-zero (x ∷ xs) h = absurd (search (tests, rules))

not_false : (b : Bool) → not b ≡ false → b ≡ true
not_false true h = refl
not_false false h = sym h

module _ {V M : Type 0} (program : Program V M) (view : View) (x : VertexWithInbox V M) (still : is_active x ≡ false) where
  pub idle_halted : x.state.halted ≡ true
  idle_halted = not_false x.state.halted (or_parts (not x.state.halted) (not (is_empty x.inbox)) still).0

  pub idle_empty : x.inbox ≡ []
  idle_empty = length-zero x.inbox (not_false (is_empty x.inbox) (or_parts (not x.state.halted) (not (is_empty x.inbox)) still).1)

  pub ran-idle : x ≡ ran program view x
  ran-idle =
      let P : List M → VertexWithInbox V M = λ l. record { state = x.state; inbox = l } in
      let Q : Record V M → VertexWithInbox V M = λ r. record { state = state_after x.state r; inbox = [] } in
      ap P idle_empty ∙ ap Q (sym (outcome-idle program view x still))

module _ {V M : Type 0} (program : Program V M) (cx : Context M) (x : VertexWithInbox V M) where
  abbrev context_with : Record V M → Bool → Context M
  context_with r active = record {
    view = cx.view;
    writes = cx.writes;
    sent = cx.sent ++ r.sent;
    contributed = cx.contributed ++ r.contributed;
    calls = capped (cx.calls + cond active 1 0);
  }

  stays : cx.calls < 2 ^ 64 → cx.calls ≡ capped (cx.calls + 0)
  stays fits = omega arith

  pub context_after-idle : cx.calls < 2 ^ 64 → is_active x ≡ false → cx ≡ context_after program cx x
  unfolding context_after
  context_after-idle fits still =
      let P : List (ℕ × M) → List (ℕ × ℤ) → ℕ → Context M = λ s c n. record { view = cx.view; writes = cx.writes; sent = s; contributed = c; calls = n } in
      ap (λ (s : List (ℕ × M)). P s cx.contributed cx.calls) (sym (append-nil cx.sent))
      ∙ ap (λ (l : List (ℕ × ℤ)). P (cx.sent ++ []) l cx.calls) (sym (append-nil cx.contributed))
      ∙ ap (λ (n : ℕ). P (cx.sent ++ []) (cx.contributed ++ []) n) (stays fits)
      ∙ ap (λ (r : Record V M). context_with r false) (sym (outcome-idle program cx.view x still))
      ∙ ap (λ (b : Bool). context_with (outcome program cx.view x) b) (sym still)

  pub context_after-active : (cx' : Context M) → is_active x ≡ true → cx' ≡ record {
    view = cx.view;
    writes = cx.writes;
    sent = cx.sent ++ (outcome program cx.view x).sent;
    contributed = cx.contributed ++ (outcome program cx.view x).contributed;
    calls = capped (cx.calls + 1);
  } → cx' ≡ context_after program cx x
  unfolding context_after
  context_after-active cx' active executed = executed ∙ ap (λ (b : Bool). context_with (outcome program cx.view x) b) (sym active)
