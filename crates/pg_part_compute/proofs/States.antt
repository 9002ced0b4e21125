-- States that are found the same.
use Rattle.std.proofs.Common.{◌≡◌, ℕ, ℤ, ◌==◌, ◌&&◌, not, Bool, true, false, cond, List, [], ◌∷◌, Option, None, Some, refl, sym, ap₂, true≢false, IsTrue}
use Rattle.std.specs.Cmp.Lexicographic.{pointwise}
use Rattle.std.specs.List.{AllByRecursion}
use Rattle.std.specs.Bool.{Decides}
use Rattle.std.specs.Ordering.{int_eq}
use Rattle.std.proofs.lemmas.Bool.{eqb-true}
use Rattle.pg_model.specs.Needed.{edge_eq}
use Rattle.pg_model.specs.Superstep.{is_active}
use Rattle.pg_model.specs.declared.configuration.VertexState.{VertexState}
use Rattle.pg_model.specs.declared.configuration.VertexWithInbox.{VertexWithInbox}
use Rattle.pg_model.proofs.LawsDecides.{Decides-edge_eq, Decides-pointwise}
use Rattle.pg_part_compute.specs.Diverged.{has_same_rest}
use Rattle.pg_part_compute.specs.Found.{AreSameVertices, HasValues, HaveValues, IsEqSound, IsSameVertex, are_same_reading, is_same_vertex}
use Rattle.pg_part_compute.specs.declared.found.VertexPair.{VertexPair}

both : (a b : Bool) → (a && b) ≡ true → (a ≡ true) × (b ≡ true)
both true b h = (refl, h)
both false b h = absurd (true≢false (sym h))

same_votes : (a b : Bool) → cond a b (not b) ≡ true → a ≡ b
same_votes true b h = sym h
same_votes false true h = absurd (true≢false (sym h))
same_votes false false h = refl

all_anything : (es : List (ℕ × ℤ)) → AllByRecursion (λ e. Unit {0}) es
all_anything [] = tt
all_anything (e ∷ es) = (tt, all_anything es)

pub edges_are : (es fs : List (ℕ × ℤ)) → Decides (pointwise (λ a b. (a.0 == b.0) && int_eq a.1 b.1) es fs) (es ≡ fs)
edges_are es fs =
    Decides-pointwise (λ a b. (a.0 == b.0) && int_eq a.1 b.1) (λ e. Unit {0}) (λ a b _ _. Decides-edge_eq no_eq no_eq a b) es fs
    (all_anything es) (all_anything fs)
  where
    no_eq : ℕ → ℕ → Bool
    no_eq a b = true

-- states with the same value and the same rest are the same
pub same_state : {V : Type 0} (x y : VertexState V) → x.value ≡ y.value → has_same_rest x y ≡ true → x ≡ y
same_state x y values h =
    let a = both (x.id == y.id) _ h in
    let d = both (pointwise (λ a b. (a.0 == b.0) && int_eq a.1 b.1) x.edges y.edges) (cond x.halted y.halted (not y.halted)) a.1 in
    let ids = eqb-true x.id y.id a.0 in
    let edges : x.edges ≡ y.edges = (edges_are x.edges y.edges).0 d.0 in
    let votes = same_votes x.halted y.halted d.1 in
    λ i. record { id = ids i; value = values i; edges = edges i; halted = votes i }

-- lists that are equal one by one, where equal values are the same
same_list : {X : Type 0} (eq : X → X → Bool) (is_value : X → Type 0) → ((x y : X) → is_value x → is_value y → IsTrue (eq x y) → x ≡ y)
    → (xs ys : List X) → AllByRecursion is_value xs → AllByRecursion is_value ys → pointwise eq xs ys ≡ true → xs ≡ ys
same_list eq is_value exact [] [] h k e = refl
same_list eq is_value exact [] (y ∷ ys) h k e = absurd (true≢false (sym e))
same_list eq is_value exact (x ∷ xs) [] h k e = absurd (true≢false (sym e))
same_list eq is_value exact (x ∷ xs) (y ∷ ys) h k e =
    let parts = both (eq x y) (pointwise eq xs ys) e in
    ap₂ ◌∷◌ (exact x y h.0 k.0 parts.0) (same_list eq is_value exact xs ys h.1 k.1 parts.1)

-- vertices with the same id, value, edges and messages
same_vertex : {V M : Type 0} (value_eq : V → V → Bool) (message_eq : M → M → Bool) (x y : VertexWithInbox V M)
    → (value_eq x.state.value y.state.value ≡ true → x.state.value ≡ y.state.value) → (pointwise message_eq x.inbox y.inbox ≡ true → x.inbox ≡ y.inbox)
    → is_same_vertex value_eq message_eq x y ≡ true → IsSameVertex x y
same_vertex value_eq message_eq x y values messages h =
    let a = both (x.state.id == y.state.id) _ h in
    let b = both (value_eq x.state.value y.state.value) _ a.1 in
    let c = both (pointwise (edge_eq value_eq message_eq) x.state.edges y.state.edges) (pointwise message_eq x.inbox y.inbox) b.1 in
    record { id = eqb-true x.state.id y.state.id a.0; value = values b.0; edges = (edges_are x.state.edges y.state.edges).0 c.0; inbox = messages c.1 }

-- vertices whose values and messages are the same where they are found equal
module _ {V M : Type 0} (value_eq : V → V → Bool) (message_eq : M → M → Bool) (is_value : V → Type 0) (is_message : M → Type 0)
    (exact_values : (x y : V) → is_value x → is_value y → IsTrue (value_eq x y) → x ≡ y)
    (exact_messages : (x y : M) → is_message x → is_message y → IsTrue (message_eq x y) → x ≡ y) where
  same_vertices : (old new : Option (VertexWithInbox V M)) → HasValues is_value is_message old → HasValues is_value is_message new
      → are_same_reading value_eq message_eq old new ≡ true → AreSameVertices old new
  same_vertices None new h k e = tt
  same_vertices (Some x) None h k e = tt
  same_vertices (Some x) (Some y) h k e =
      let a = both (is_active x) _ e in
      let b = both (is_active y) (is_same_vertex value_eq message_eq x y) a.1 in
      same_vertex value_eq message_eq x y (exact_values x.state.value y.state.value h.0 k.0)
      (same_list message_eq is_message exact_messages x.inbox y.inbox h.1 k.1) b.1

  pub eq_is_sound_of_values : (cs : List (VertexPair V M)) → AllByRecursion (HaveValues is_value is_message) cs
      → AllByRecursion (IsEqSound value_eq message_eq) cs
  eq_is_sound_of_values [] h = tt
  eq_is_sound_of_values (c ∷ cs) h = (same_vertices c.old c.new h.0.0 h.0.1, eq_is_sound_of_values cs h.1)
