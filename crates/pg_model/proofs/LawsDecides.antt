-- The test for a needed execution answers exactly whether it is needed.
use Rattle.std.proofs.Common.{◌≡◌, ◌≢◌, ℕ, Bool, ◌&&◌, ◌==◌, List, [], ◌∷◌, ℤ, Option, None, Some, refl, ap, ap₂, sym, ◌∙◌, Decides, true≢false, All}
use Rattle.std.specs.Cmp.Lexicographic.{pointwise}
use Rattle.std.specs.List.{AllByRecursion}
use Rattle.std.specs.Option.{option_eq}
use Rattle.std.specs.Ordering.{int_eq}
use Rattle.std.proofs.lemmas.Bool.Decides.{Decides-eqb, Decides-int_eq, Decides-and, Decides-like, Decides-not}
use Rattle.std.proofs.lemmas.List.Elements.{recursion_from_All}
use Rattle.std.proofs.lemmas.Option.{none-some, same_Some}
use Rattle.std.proofs.lemmas.Slice.Eq.{slice_eq-Decides}
use Rattle.pg_graph.specs.Rows.{Rows}
use Rattle.pg_model.specs.Job.{Job, Inputs}
use Rattle.pg_model.specs.Needed.{inputs_at, kept_inputs_at, IsNeeded, view_eq, edge_eq, inputs_eq, is_changed, is_needed}
use Rattle.pg_model.specs.declared.view.View.{View}

-- ---- parts

-- the test of two options decides where that of their values does
pub Decides-option_eq : {X : Type 0} (E : X → X → Bool) → ((a b : X) → Decides (E a b) (a ≡ b)) → (o p : Option X) → Decides (option_eq E o p) (o ≡ p)
Decides-option_eq E d None None = (λ _. refl, λ _. refl)
Decides-option_eq E d None (Some y) = (λ t. absurd (true≢false (sym t)), λ e. absurd (none-some y e))
Decides-option_eq E d (Some x) None = (λ t. absurd (true≢false (sym t)), λ e. absurd (none-some x (sym e)))
Decides-option_eq E d (Some x) (Some y) = (λ t. ap Some ((d x y).0 t), λ e. (d x y).1 (same_Some x y e))

-- where the test decides for those elements that P holds of
pub Decides-pointwise : {X : Type 0} (E : X → X → Bool) (P : X → Type 0) → ((a b : X) → P a → P b → Decides (E a b) (a ≡ b))
    → (xs ys : List X) → AllByRecursion P xs → AllByRecursion P ys → Decides (pointwise E xs ys) (xs ≡ ys)
Decides-pointwise E P d [] [] h k = (λ _. refl, λ _. refl)
Decides-pointwise E P d [] (y ∷ ys) h k = (λ t. absurd (true≢false (sym t)), λ e. cc)
Decides-pointwise E P d (x ∷ xs) [] h k = (λ t. absurd (true≢false (sym t)), λ e. cc)
Decides-pointwise E P d (x ∷ xs) (y ∷ ys) h k =
    Decides-like (E x y && pointwise E xs ys) (λ e. ap₂ ◌∷◌ e.0 e.1) (λ e. parts e)
    (Decides-and (E x y) (pointwise E xs ys) (d x y h.0 k.0) (Decides-pointwise E P d xs ys h.1 k.1))
  where
    parts : x ∷ xs ≡ y ∷ ys → (x ≡ y) × (xs ≡ ys)
    parts e = (cc, cc)

module _ {V M : Type 0} (value_eq : V → V → Bool) (message_eq : M → M → Bool) where
  -- the test of two edges decides whether they are equal
  pub Decides-edge_eq : (a b : ℕ × ℤ) → Decides (edge_eq value_eq message_eq a b) (a ≡ b)
  Decides-edge_eq a b =
      Decides-like ((a.0 == b.0) && int_eq a.1 b.1) (λ e i. (e.0 i, e.1 i)) (λ e. (ap (λ (x : ℕ × ℤ). x.0) e, ap (λ (x : ℕ × ℤ). x.1) e))
      (Decides-and (a.0 == b.0) (int_eq a.1 b.1) (Decides-eqb a.0 b.0) (Decides-int_eq a.1 b.1))

  -- and so does that of two views
  pub Decides-view_eq : (a b : View) → Decides (view_eq value_eq message_eq a b) (a ≡ b)
  Decides-view_eq a b =
      let aggregates = slice_eq-Decides (Decides-option_eq int_eq Decides-int_eq) a.aggregates b.aggregates _ refl in
      let totals =
      Decides-and _ _ (Decides-option_eq ◌==◌ Decides-eqb a.total_vertices b.total_vertices)
      (Decides-option_eq ◌==◌ Decides-eqb a.total_edges b.total_edges) in
      Decides-like (view_eq value_eq message_eq a b)
      (λ e i. record { superstep = e.0 i; aggregates = e.1.0 i; total_vertices = e.1.1.0 i; total_edges = e.1.1.1 i })
      (λ e.
      (ap (λ (v : View). v.superstep) e, (ap (λ (v : View). v.aggregates) e, (ap (λ (v : View). v.total_vertices) e, ap (λ (v : View). v.total_edges) e))))
      (Decides-and _ _ (Decides-eqb a.superstep b.superstep) (Decides-and _ _ aggregates totals))

  -- value and messages of these inputs are such that the tests decide
  pub record AreValues (is_value : V → Type 0) (is_message : M → Type 0) (i : Inputs V M) : Type 0 where
    pub value : is_value i.value
    pub inbox : All is_message i.inbox

  module _ (is_value : V → Type 0) (is_message : M → Type 0) (values : (a b : V) → is_value a → is_value b → Decides (value_eq a b) (a ≡ b))
      (messages : (a b : M) → is_message a → is_message b → Decides (message_eq a b) (a ≡ b)) where
    -- the test of two inputs decides whether they are equal
    pub Decides-inputs_eq : (a b : Inputs V M) → AreValues is_value is_message a → AreValues is_value is_message b
        → Decides (inputs_eq value_eq message_eq a b) (a ≡ b)
    Decides-inputs_eq a b h k =
        let edges = slice_eq-Decides Decides-edge_eq a.edges b.edges _ refl in
        let inbox =
        Decides-pointwise message_eq is_message messages a.inbox b.inbox (recursion_from_All is_message a.inbox h.inbox)
        (recursion_from_All is_message b.inbox k.inbox) in
        Decides-like (inputs_eq value_eq message_eq a b)
        (λ e i. record { view = e.0 i; id = e.1.0 i; value = e.1.1.0 i; edges = e.1.1.1.0 i; inbox = e.1.1.1.1 i })
        (λ e. (
          ap (λ (x : Inputs V M). x.view) e,
          (ap (λ (x : Inputs V M). x.id) e, (ap (λ (x : Inputs V M). x.value) e, (ap (λ (x : Inputs V M). x.edges) e, ap (λ (x : Inputs V M). x.inbox) e))),
        ))
        (Decides-and _ _ (Decides-view_eq a.view b.view)
        (Decides-and _ _ (Decides-eqb a.id b.id) (Decides-and _ _ (values a.value b.value h.value k.value) (Decides-and _ _ edges inbox))))

    Decides-is_changed : (old new : Option (Inputs V M)) → ((i : Inputs V M) → old ≡ Some i → AreValues is_value is_message i)
        → ((i : Inputs V M) → new ≡ Some i → AreValues is_value is_message i)
        → Decides (is_changed value_eq message_eq old new) ((i : Inputs V M) × (new ≡ Some i) × (old ≢ Some i))
    Decides-is_changed old None h k = (λ t. absurd (true≢false (sym t)), λ e. absurd (none-some e.0 e.1))
    Decides-is_changed None (Some new) h k = (λ _. (new, refl, none-some new), λ _. refl)
    Decides-is_changed (Some old) (Some new) h k =
        let d = Decides-not (inputs_eq value_eq message_eq old new) (Decides-inputs_eq old new (h old refl) (k new refl)) in
        (λ t. (new, refl, λ e. d.0 t (same_Some old new e)), λ n. d.1 (λ e. n.2 (ap Some e ∙ n.1)))

    module _ (job : Job V M) (kept : Option Rows) (rows : Rows) (s id : ℕ) where
      -- an execution passes the test exactly where it is needed
      pub is_needed-Decides : ((i : Inputs V M) → kept_inputs_at job kept s id ≡ Some i → AreValues is_value is_message i)
          → ((i : Inputs V M) → inputs_at job rows s id ≡ Some i → AreValues is_value is_message i)
          → Decides (is_needed value_eq message_eq job kept rows s id) (IsNeeded job kept rows s id)
      is_needed-Decides h k =
          Decides-like (is_needed value_eq message_eq job kept rows s id) (λ e. record {
            inputs = e.0;
            present = e.1;
            changed = e.2;
          }) (λ n. (n.inputs, n.present, n.changed)) (Decides-is_changed (kept_inputs_at job kept s id) (inputs_at job rows s id) h k)

  -- the same where the tests decide for all values and messages
  pub is_needed-Decides_all : ((a b : V) → Decides (value_eq a b) (a ≡ b)) → ((a b : M) → Decides (message_eq a b) (a ≡ b))
      → (job : Job V M) (kept : Option Rows) (rows : Rows) (s id : ℕ)
      → Decides (is_needed value_eq message_eq job kept rows s id) (IsNeeded job kept rows s id)
  is_needed-Decides_all values messages job kept rows s id =
      is_needed-Decides (λ _. Unit {0}) (λ _. Unit {0}) (λ a b _ _. values a b) (λ a b _ _. messages a b) job kept rows s id
      (λ i e. record { value = tt; inbox = λ _ _ _. tt }) (λ i e. record { value = tt; inbox = λ _ _ _. tt })
