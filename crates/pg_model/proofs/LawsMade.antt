-- Vertices that messages make: who waits, where they stand, and how the ids grow.
use Rattle.std.proofs.Common.{◌≡◌, ℕ, ◌<◌, Bool, true, false, cond, not, ◌||◌, ◌==◌, ltb, List, [], ◌∷◌, map, Option, None, Some, refl, ap, sym, ◌∙◌}
use Rattle.std.proofs.Common.{subst, arith, fold, filter, true≢false, ap₂, inl, inr}
use Rattle.std.specs.List.{AllByRecursion}
use Rattle.std.specs.List.Sorted.{IsStrictlySortedBy}
use Rattle.std.specs.Ordering.{nat_cmp}
use Rattle.std.specs.declared.cmp.Ordering.TheVariants.{Less}
use Rattle.std.proofs.lemmas.Bool.{cases_order, eqb-true, or_parts}
use Rattle.std.proofs.lemmas.Bool.Decides.{nat_tests}
use Rattle.std.proofs.Math.Bool.{or_assoc, or-false}
use Rattle.pg_graph.specs.declared.missing.Missing.{Missing}
use Rattle.pg_graph.specs.declared.missing.Missing.TheVariants.{Drop, Create}
use Rattle.pg_model.proofs.LawsLists.{all_weaker}
use Rattle.pg_model.specs.InOrder.{AreWaiting}
use Rattle.pg_model.specs.Job.{Combining, Program}
use Rattle.pg_model.specs.Superstep.{ids, is_empty, has_id, with_id, messages_to, combined, delivered, undeliverable, targets, waiting_after, placed, made}
use Rattle.pg_model.specs.Superstep.{with_made, present}
use Rattle.pg_model.specs.declared.configuration.VertexWithInbox.{VertexWithInbox}
use Rattle.pg_model.specs.declared.configuration.Configuration.{Configuration}

-- ---- truth values

or_swap : (a b c : Bool) → (a || (b || c)) ≡ (b || (a || c))
or_swap true true c = refl
or_swap true false c = refl
or_swap false b c = refl

or_twice : (a b : Bool) → (a || b) ≡ (a || (a || b))
or_twice true b = refl
or_twice false b = refl

-- ---- rising ids

less_at : (a b : ℕ) → a < b → nat_cmp a b ≡ Less
less_at a b h = grind (arith, nat_tests)

lt_from_Less : (a b : ℕ) → nat_cmp a b ≡ Less → a < b
lt_from_Less a b e = grind (arith, nat_tests)

less_both : (a b c : ℕ) → ltb a b ≡ true → nat_cmp b c ≡ Less → nat_cmp a c ≡ Less
less_both a b c h k = grind (arith, nat_tests)

less_here : (a b : ℕ) → ltb a b ≡ true → nat_cmp a b ≡ Less
less_here a b h = grind (arith, nat_tests)

above_other : (a b : ℕ) → ltb a b ≡ false → (b == a) ≡ false → nat_cmp b a ≡ Less
above_other a b h k = grind (arith, nat_tests)

above_unlike : (a b : ℕ) → ltb a b ≡ false → (a == b) ≡ false → nat_cmp b a ≡ Less
above_unlike a b h k = grind (arith, nat_tests)

apart_from_less : (a b : ℕ) → nat_cmp a b ≡ Less → (a == b) ≡ false
apart_from_less a b h = grind (arith, nat_tests)

apart_from_above : (i a : ℕ) → nat_cmp a i ≡ Less → (i == a) ≡ false
apart_from_above i a e = grind (arith, nat_tests)

-- an id below all others isn't among them
pub not_below : (a : ℕ) (is : List ℕ) → AllByRecursion (λ y. nat_cmp a y ≡ Less) is → has_id is a ≡ false
not_below a [] h = refl
not_below a (i ∷ is) h = ap (λ b. b || has_id is a) (apart_from_above i a h.0) ∙ not_below a is h.1

has_itself : (a : ℕ) (is : List ℕ) → has_id (a ∷ is) a ≡ true
has_itself a is = ap (λ b. b || has_id is a) (let e : (a == a) ≡ true = grind (arith, nat_tests) in e)

not_below_first : (a y : ℕ) (ys : List ℕ) → a < y → AllByRecursion (λ z. nat_cmp y z ≡ Less) ys → has_id (y ∷ ys) a ≡ false
not_below_first a y ys l h =
    not_below a (y ∷ ys)
    (less_at a y l, all_weaker (λ z. nat_cmp y z ≡ Less) (λ z. nat_cmp a z ≡ Less) (λ z k. less_at a z (omega (arith, l, lt_from_Less y z k))) ys h)

-- rising ids are told by what they have
pub same_rising : (xs ys : List ℕ) → IsStrictlySortedBy nat_cmp xs → IsStrictlySortedBy nat_cmp ys → ((id : ℕ) → has_id xs id ≡ has_id ys id) → xs ≡ ys
unfolding IsStrictlySortedBy
same_rising [] [] h k same = refl
same_rising [] (y ∷ ys) h k same = absurd (true≢false (sym (same y ∙ has_itself y ys)))
same_rising (x ∷ xs) [] h k same = absurd (true≢false (sym (has_itself x xs) ∙ same x))
same_rising (x ∷ xs) (y ∷ ys) h k same =
    let heads : x ≡ y =
    elim (cases_order x y) [
      | inl e ↦ e
      | inr (inl less) ↦ absurd (true≢false (sym (has_itself x xs) ∙ (same x ∙ not_below_first x y ys less k.0)))
      | inr (inr more) ↦ absurd (true≢false (sym (has_itself y ys) ∙ (sym (same y) ∙ not_below_first y x xs more h.0)))
    ] in
    ap₂ ◌∷◌ heads (same_rising xs ys h.1 k.1 (λ id. later heads id (x == id) refl))
  where
    later : x ≡ y → (id : ℕ) (b : Bool) → (x == id) ≡ b → has_id xs id ≡ has_id ys id
    later heads id true e =
        let here : x ≡ id = eqb-true x id e in
        let there : y ≡ id = sym heads ∙ here in
        subst (λ n. has_id xs n ≡ false) here (not_below x xs h.0) ∙ sym (subst (λ n. has_id ys n ≡ false) there (not_below y ys k.0))
    later heads id false e =
        sym (ap (λ b. b || has_id xs id) e) ∙ (same id ∙ ap (λ b. b || has_id ys id) (ap (λ n. n == id) (sym heads) ∙ e))

-- what holds of rising ids and of one more holds of all of them
pub all-with_id : (P : ℕ → Type 0) (is : List ℕ) (id : ℕ) → AllByRecursion P is → P id → AllByRecursion P (with_id is id)
all-with_id P [] id h p = (p, tt)
all-with_id P (other ∷ others) id h p = by (ltb id other) (id == other) (all-with_id P others id h.1 p)
  where
    by : (a b : Bool) → AllByRecursion P (with_id others id)
        → AllByRecursion P (cond a (id ∷ other ∷ others) (cond b (other ∷ others) (other ∷ with_id others id)))
    by true b rest = (p, h)
    by false true rest = h
    by false false rest = (h.0, rest)

-- an id is put where it keeps the order
pub with_id-rise : (is : List ℕ) (id : ℕ) → IsStrictlySortedBy nat_cmp is → IsStrictlySortedBy nat_cmp (with_id is id)
unfolding IsStrictlySortedBy
with_id-rise [] id h = (tt, tt)
with_id-rise (other ∷ others) id h = by (ltb id other) refl (id == other) refl (with_id-rise others id h.1)
  where
    by : (a : Bool) → ltb id other ≡ a → (b : Bool) → (id == other) ≡ b → IsStrictlySortedBy nat_cmp (with_id others id)
        → IsStrictlySortedBy nat_cmp (cond a (id ∷ other ∷ others) (cond b (other ∷ others) (other ∷ with_id others id)))
    by true e b e' rest =
        ((less_here id other e, all_weaker (λ y. nat_cmp other y ≡ Less) (λ y. nat_cmp id y ≡ Less) (λ y l. less_both id other y e l) others h.0), h)
    by false e true e' rest = h
    by false e false e' rest =
        (all-with_id (λ y. nat_cmp other y ≡ Less) others id h.0 (above_unlike id other e e'), rest)

-- who is there then: that id, and those before
pub has_id-with_id : (is : List ℕ) (id other : ℕ) → has_id (with_id is id) other ≡ ((id == other) || has_id is other)
has_id-with_id [] id other = refl
has_id-with_id (first ∷ is) id other = by (ltb id first) (id == first) refl (has_id-with_id is id other)
  where
    by : (a b : Bool) → (id == first) ≡ b → has_id (with_id is id) other ≡ ((id == other) || has_id is other)
        → has_id (cond a (id ∷ first ∷ is) (cond b (first ∷ is) (first ∷ with_id is id))) other ≡ ((id == other) || has_id (first ∷ is) other)
    by true b e rest = refl
    by false true e rest =
        let same : id ≡ first = eqb-true id first e in
        ap (λ (n : ℕ). (first == other) || has_id is other) same
        ∙ or_twice (first == other) (has_id is other)
        ∙ ap (λ (n : ℕ). (n == other) || ((first == other) || has_id is other)) (sym same)
    by false false e rest =
        ap (λ b. (first == other) || b) rest ∙ or_swap (first == other) (id == other) (has_id is other)

rise_from : (is : List ℕ) (ns : List ℕ) → IsStrictlySortedBy nat_cmp is → IsStrictlySortedBy nat_cmp (fold with_id is ns)
rise_from is [] h = h
rise_from is (n ∷ ns) h = rise_from (with_id is n) ns (with_id-rise is n h)

module _ {M : Type 0} where
  -- targets rise
  pub targets-rise : (sent : List (ℕ × M)) → IsStrictlySortedBy nat_cmp (targets sent)
  unfolding IsStrictlySortedBy
  targets-rise sent = rise_from [] (map (λ (m : ℕ × M). m.0) sent) tt

  all_from : (P : ℕ → Type 0) (is : List ℕ) (sent : List (ℕ × M)) → AllByRecursion P is → AllByRecursion (λ (m : ℕ × M). P m.0) sent
      → AllByRecursion P (fold with_id is (map (λ (m : ℕ × M). m.0) sent))
  all_from P is [] h k = h
  all_from P is (m ∷ sent) h k = all_from P (with_id is m.0) sent (all-with_id P is m.0 h k.0) k.1

  -- what holds of each message's target holds of each target
  pub all-targets : (P : ℕ → Type 0) (sent : List (ℕ × M)) → AllByRecursion (λ (m : ℕ × M). P m.0) sent → AllByRecursion P (targets sent)
  all-targets P sent h = all_from P [] sent tt h

  -- ---- messages that are undeliverable

  -- they go to none of the ids
  pub undeliverable-apart : (is : List ℕ) (sent : List (ℕ × M)) → AllByRecursion (λ (m : ℕ × M). has_id is m.0 ≡ false) (undeliverable is sent)
  undeliverable-apart is [] = tt
  undeliverable-apart is (m ∷ sent) = by (has_id is m.0) refl (undeliverable-apart is sent)
    where
      by : (b : Bool) → has_id is m.0 ≡ b → AllByRecursion (λ (x : ℕ × M). has_id is x.0 ≡ false) (undeliverable is sent)
          → AllByRecursion (λ (x : ℕ × M). has_id is x.0 ≡ false) (cond (not b) (m ∷ undeliverable is sent) (undeliverable is sent))
      by true e rest = rest
      by false e rest = (e, rest)

  received_too : (id : ℕ) (m : ℕ × M) (sent : List (ℕ × M)) → is_empty (messages_to id sent) ≡ false → is_empty (messages_to id (m ∷ sent)) ≡ false
  received_too id m sent h = by (m.0 == id)
    where
      by : (b : Bool)
          → is_empty (map (λ (x : ℕ × M). x.1) (cond b (m ∷ filter (λ (x : ℕ × M). x.0 == id) sent) (filter (λ (x : ℕ × M). x.0 == id) sent))) ≡ false
      by true = grind (arith, nat_tests)
      by false = h

  -- each message's target receives something
  pub all_receive : (sent : List (ℕ × M)) → AllByRecursion (λ (m : ℕ × M). is_empty (messages_to m.0 sent) ≡ false) sent
  all_receive [] = tt
  all_receive (m ∷ sent) = (
    first_receives (m.0 == m.0) (grind (arith, nat_tests)),
    all_weaker (λ (x : ℕ × M). is_empty (messages_to x.0 sent) ≡ false) (λ (x : ℕ × M). is_empty (messages_to x.0 (m ∷ sent)) ≡ false)
        (λ x h. received_too x.0 m sent h) sent (all_receive sent),
  )
    where
      first_receives : (b : Bool) → b ≡ true
          → is_empty (map (λ (x : ℕ × M). x.1) (cond b (m ∷ filter (λ (x : ℕ × M). x.0 == m.0) sent) (filter (λ (x : ℕ × M). x.0 == m.0) sent))) ≡ false
      first_receives true e = grind (arith, nat_tests)
      first_receives false e = absurd (cc)

  combined-some : (combining : Option (Combining M)) (ms : List M) → is_empty ms ≡ false → is_empty (combined combining ms) ≡ false
  combined-some None ms h = h
  combined-some (Some c) [] h = h
  combined-some (Some c) (m ∷ ms) h = refl

  ids_of_inboxes : (f : ℕ → List M) (is : List ℕ) → map (λ (w : ℕ × List M). w.0) (map (λ id. (id, f id)) is) ≡ is
  ids_of_inboxes f [] = refl
  ids_of_inboxes f (id ∷ is) = ap (λ l. id ∷ l) (ids_of_inboxes f is)

  all_inboxes : (P : ℕ × List M → Type 0) (f : ℕ → List M) (is : List ℕ) → AllByRecursion (λ id. P (id, f id)) is → AllByRecursion P (map (λ id. (id, f id)) is)
  all_inboxes P f [] h = tt
  all_inboxes P f (id ∷ is) h = (h.0, all_inboxes P f is h.1)

  pub AreWaiting-none : (is : List ℕ) → AreWaiting {M = M} is []
  unfolding IsStrictlySortedBy
  AreWaiting-none is = record { rise = tt; apart = tt; some = tt }

  pub AreWaiting-after : (missing : Missing) (combining : Option (Combining M)) (is : List ℕ) (sent : List (ℕ × M))
      → AreWaiting is (waiting_after missing combining (undeliverable is sent))
  AreWaiting-after Drop combining is sent = AreWaiting-none is
  AreWaiting-after Create combining is sent =
      let undeliverables : List (ℕ × M) = undeliverable is sent in
      let f : ℕ → List M = λ id. delivered combining id undeliverables in
      record {
        rise = subst (IsStrictlySortedBy nat_cmp) (sym (ids_of_inboxes f (targets undeliverables))) (targets-rise undeliverables);
        apart = all_inboxes (λ w. has_id is w.0 ≡ false) f (targets undeliverables) (all-targets (λ id. has_id is id ≡ false) undeliverables (undeliverable-apart is sent));
        some =
            all_inboxes (λ w. is_empty w.1 ≡ false) f (targets undeliverables) (all-targets (λ id. is_empty (f id) ≡ false) undeliverables (all_weaker
            (λ (m : ℕ × M). is_empty (messages_to m.0 undeliverables) ≡ false) (λ (m : ℕ × M). is_empty (f m.0) ≡ false)
            (λ m h. combined-some combining (messages_to m.0 undeliverables) h) undeliverables (all_receive undeliverables)));
      }

  has_target : (is : List ℕ) (sent : List (ℕ × M)) (id : ℕ)
      → has_id (fold with_id is (map (λ (m : ℕ × M). m.0) sent)) id ≡ (has_id (map (λ (m : ℕ × M). m.0) sent) id || has_id is id)
  has_target is [] id = refl
  has_target is (m ∷ sent) id =
      has_target (with_id is m.0) sent id
      ∙ ap (λ b. has_id (map (λ (x : ℕ × M). x.0) sent) id || b) (has_id-with_id is m.0 id)
      ∙ or_swap (has_id (map (λ (x : ℕ × M). x.0) sent) id) (m.0 == id) (has_id is id)
      ∙ sym (or_assoc (m.0 == id) (has_id (map (λ (x : ℕ × M). x.0) sent) id) (has_id is id))

  -- an id is a target where a message goes to it
  pub has_id-targets : (sent : List (ℕ × M)) (id : ℕ) → has_id (targets sent) id ≡ has_id (map (λ m. m.0) sent) id
  has_id-targets sent id = has_target [] sent id ∙ or-false (has_id (map (λ (m : ℕ × M). m.0) sent) id)

  -- rising ids are the targets where they have the same ids
  pub targets-are : (is : List ℕ) (sent : List (ℕ × M)) → IsStrictlySortedBy nat_cmp is
      → ((id : ℕ) → has_id is id ≡ has_id (map (λ m. m.0) sent) id) → is ≡ targets sent
  targets-are is sent rise same =
      same_rising is (targets sent) rise (targets-rise sent) (λ id. same id ∙ sym (has_id-targets sent id))

  undeliverable_sent : (is : List ℕ) (sent : List (ℕ × M)) (id : ℕ) → has_id (map (λ (m : ℕ × M). m.0) (undeliverable is sent)) id ≡ true
      → has_id (map (λ (m : ℕ × M). m.0) sent) id ≡ true
  undeliverable_sent is [] id h = h
  undeliverable_sent is (m ∷ sent) id h = by (has_id is m.0) (m.0 == id) refl (undeliverable_sent is sent id) h
    where
      there : List (ℕ × M) → Bool
      there l = has_id (map (λ (x : ℕ × M). x.0) l) id

      by : (b a : Bool) → (m.0 == id) ≡ a → (there (undeliverable is sent) ≡ true → there sent ≡ true)
          → has_id (map (λ (x : ℕ × M). x.0) (cond (not b) (m ∷ undeliverable is sent) (undeliverable is sent))) id ≡ true → (a || there sent) ≡ true
      by b true e rest k = refl
      by true false e rest k = rest k
      by false false e rest k = rest (sym (ap (λ c. c || there (undeliverable is sent)) e) ∙ k)

  -- who waits was sent to
  pub waiting_sent : (missing : Missing) (combining : Option (Combining M)) (is : List ℕ) (sent : List (ℕ × M)) (id : ℕ)
      → has_id (map (λ w. w.0) (waiting_after missing combining (undeliverable is sent))) id ≡ true → has_id (map (λ m. m.0) sent) id ≡ true
  waiting_sent Drop combining is sent id h = absurd (cc)
  waiting_sent Create combining is sent id h =
      let undeliverables : List (ℕ × M) = undeliverable is sent in
      let there : has_id (map (λ (m : ℕ × M). m.0) undeliverables) id ≡ true =
      sym (or-false (has_id (map (λ (m : ℕ × M). m.0) undeliverables) id))
      ∙ (sym (has_target [] undeliverables id) ∙ (sym (ap (λ l. has_id l id) (ids_of_inboxes (λ id. delivered combining id undeliverables) (targets undeliverables))) ∙ h)) in
      undeliverable_sent is sent id there

module _ {V M : Type 0} where
  -- ---- those that have a state, and those that messages make

  all-placed : (P : ℕ → Type 0) (x : VertexWithInbox V M) (xs : List (VertexWithInbox V M)) → P x.state.id → AllByRecursion P (ids xs) → AllByRecursion P (ids (placed x xs))
  all-placed P x [] p h = (p, tt)
  all-placed P x (y ∷ ys) p h = by (ltb x.state.id y.state.id) (all-placed P x ys p h.1)
    where
      by : (a : Bool) → AllByRecursion P (ids (placed x ys)) → AllByRecursion P (ids (cond a (x ∷ y ∷ ys) (y ∷ placed x ys)))
      by true rest = (p, h)
      by false rest = (h.0, rest)

  placed-rise : (x : VertexWithInbox V M) (xs : List (VertexWithInbox V M)) → has_id (ids xs) x.state.id ≡ false → IsStrictlySortedBy nat_cmp (ids xs)
      → IsStrictlySortedBy nat_cmp (ids (placed x xs))
  unfolding IsStrictlySortedBy
  placed-rise x [] new h = (tt, tt)
  placed-rise x (y ∷ ys) new h =
      let both = or_parts (y.state.id == x.state.id) (has_id (ids ys) x.state.id) new in
      by (ltb x.state.id y.state.id) refl both.0 (placed-rise x ys both.1 h.1)
    where
      by : (a : Bool) → ltb x.state.id y.state.id ≡ a → (y.state.id == x.state.id) ≡ false → IsStrictlySortedBy nat_cmp (ids (placed x ys))
          → IsStrictlySortedBy nat_cmp (ids (cond a (x ∷ y ∷ ys) (y ∷ placed x ys)))
      by true e unlike rest = (
        (
          less_here x.state.id y.state.id e,
          all_weaker (λ i. nat_cmp y.state.id i ≡ Less) (λ i. nat_cmp x.state.id i ≡ Less)
              (λ i l. less_both x.state.id y.state.id i e l) (ids ys) h.0,
        ),
        h,
      )
      by false e unlike rest =
          (all-placed (λ i. nat_cmp y.state.id i ≡ Less) x ys (above_other x.state.id y.state.id e unlike) h.0, rest)

  has_id-placed : (x : VertexWithInbox V M) (xs : List (VertexWithInbox V M)) (id : ℕ) → has_id (ids (placed x xs)) id ≡ ((x.state.id == id) || has_id (ids xs) id)
  has_id-placed x [] id = refl
  has_id-placed x (y ∷ ys) id = by (ltb x.state.id y.state.id) (has_id-placed x ys id)
    where
      by : (a : Bool) → has_id (ids (placed x ys)) id ≡ ((x.state.id == id) || has_id (ids ys) id)
          → has_id (ids (cond a (x ∷ y ∷ ys) (y ∷ placed x ys))) id ≡ ((x.state.id == id) || has_id (ids (y ∷ ys)) id)
      by true rest = refl
      by false rest =
          ap (λ b. (y.state.id == id) || b) rest ∙ or_swap (y.state.id == id) (x.state.id == id) (has_id (ids ys) id)

  module _ (program : Program V M) where
    pub apart_still : (w : ℕ × List M) (xs : List (VertexWithInbox V M)) (ws : List (ℕ × List M))
        → AllByRecursion (λ id. nat_cmp w.0 id ≡ Less) (map (λ (v : ℕ × List M). v.0) ws)
        → AllByRecursion (λ (v : ℕ × List M). has_id (ids xs) v.0 ≡ false) ws
        → AllByRecursion (λ (v : ℕ × List M). has_id (ids (placed (made program w) xs)) v.0 ≡ false) ws
    apart_still w xs [] h k = tt
    apart_still w xs (v ∷ ws) h k =
        (has_id-placed (made program w) xs v.0 ∙ (ap (λ b. b || has_id (ids xs) v.0) (apart_from_less w.0 v.0 h.0) ∙ k.0), apart_still w xs ws h.1 k.1)

    pub with_made-rise : (xs : List (VertexWithInbox V M)) (ws : List (ℕ × List M)) → IsStrictlySortedBy nat_cmp (ids xs)
        → IsStrictlySortedBy nat_cmp (map (λ (w : ℕ × List M). w.0) ws)
        → AllByRecursion (λ (w : ℕ × List M). has_id (ids xs) w.0 ≡ false) ws → IsStrictlySortedBy nat_cmp (ids (with_made program xs ws))
    unfolding IsStrictlySortedBy
    with_made-rise xs [] h k apart = h
    with_made-rise xs (w ∷ ws) h k apart =
        with_made-rise (placed (made program w) xs) ws (placed-rise (made program w) xs apart.0 h) k.1 (apart_still w xs ws k.0 apart.1)

    has_id-with_made : (xs : List (VertexWithInbox V M)) (ws : List (ℕ × List M)) (id : ℕ)
        → has_id (ids (with_made program xs ws)) id ≡ (has_id (map (λ (w : ℕ × List M). w.0) ws) id || has_id (ids xs) id)
    has_id-with_made xs [] id = refl
    has_id-with_made xs (w ∷ ws) id =
        has_id-with_made (placed (made program w) xs) ws id
        ∙ ap (λ b. has_id (map (λ (v : ℕ × List M). v.0) ws) id || b) (has_id-placed (made program w) xs id)
        ∙ or_swap (has_id (map (λ (v : ℕ × List M). v.0) ws) id) (w.0 == id) (has_id (ids xs) id)
        ∙ sym (or_assoc (w.0 == id) (has_id (map (λ (v : ℕ × List M). v.0) ws) id) (has_id (ids xs) id))

    module _ (c : Configuration V M) where
      -- the vertices of a superstep stand by rising id
      pub present-rise : IsStrictlySortedBy nat_cmp (ids c.with_inboxes) → AreWaiting (ids c.with_inboxes) c.waiting
          → IsStrictlySortedBy nat_cmp (ids (present program c))
      present-rise h waits = with_made-rise c.with_inboxes c.waiting h waits.rise waits.apart

      -- they are those that have a state, and those that wait
      pub has_id-present : (id : ℕ) → has_id (ids (present program c)) id ≡ (has_id (map (λ w. w.0) c.waiting) id || has_id (ids c.with_inboxes) id)
      has_id-present id = has_id-with_made c.with_inboxes c.waiting id

      -- where nobody waits, they are those that have a state
      pub present-none : c.waiting ≡ [] → present program c ≡ c.with_inboxes
      present-none none = ap (with_made program c.with_inboxes) none
