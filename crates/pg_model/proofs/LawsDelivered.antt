-- Messages reach a vertex by rising sender, and from each sender in the order in which it sent them.
use Rattle.std.proofs.Common.{◌≡◌, ℕ, zero, suc, ◌+◌, ◌<◌, ◌≤◌, Bool, true, false, cond, ◌==◌, List, [], ◌∷◌, ◌++◌, map, Some, refl, ap, ap₂, sym}
use Rattle.std.proofs.Common.{◌∙◌, subst, arith, inl, inr, filter, flat_map, Contains, slice_get}
use Rattle.std.specs.Ordering.{nat_cmp}
use Rattle.std.specs.declared.cmp.Ordering.TheVariants.{Less}
use Rattle.std.specs.List.{AllByRecursion}
use Rattle.std.specs.List.Sorted.{IsStrictlySortedBy}
use Rattle.std.proofs.lemmas.Bool.Decides.{nat_tests}
use Rattle.std.proofs.lemmas.List.{map-append}
use Rattle.std.proofs.lemmas.List.Elements.{filter-append, Contains-append_left, Contains-append_right, Contains-append_cases}
use Rattle.std.proofs.lemmas.List.Kept.{IsStrictlySortedBy-filter}
use Rattle.std.proofs.lemmas.Option.{none-some, same_Some}
use Rattle.pg_model.proofs.LawsLists.{all-append, all_weaker, sorted-append, contains_first, contains_later, contains_cases}
use Rattle.pg_model.specs.Job.{Program}
use Rattle.pg_model.specs.Superstep.{ids, outcome, sends, messages_to}
use Rattle.pg_model.specs.Order.{Sending, sending_cmp, sendings_from, sendings, IsSent}
use Rattle.pg_model.specs.declared.configuration.VertexWithInbox.{VertexWithInbox}
use Rattle.pg_model.specs.declared.view.View.{View}

-- ---- one inbox

module _ {M : Type 0} where
  -- the messages to a vertex of two lists, one after the other
  pub messages_to-append : (id : ℕ) (a b : List (ℕ × M)) → messages_to id (a ++ b) ≡ messages_to id a ++ messages_to id b
  messages_to-append id a b =
      ap (map (λ (m : ℕ × M). m.1)) (filter-append (λ (m : ℕ × M). m.0 == id) a b)
      ∙ map-append (λ (m : ℕ × M). m.1) (filter (λ (m : ℕ × M). m.0 == id) a) (filter (λ (m : ℕ × M). m.0 == id) b)

  sent_of-from : (u k : ℕ) (ms : List (ℕ × M)) → map (λ (t : Sending M). (t.target, t.message)) (sendings_from u k ms) ≡ ms
  sent_of-from u k [] = refl
  sent_of-from u k (m ∷ ms) = ap (◌∷◌ m) (sent_of-from u (k + 1) ms)

  from_one : (u k : ℕ) (ms : List (ℕ × M)) → AllByRecursion (λ (t : Sending M). (t.sender ≡ u) × (k ≤ t.place)) (sendings_from u k ms)
  from_one u k [] = tt
  from_one u k (m ∷ ms) =
      ((refl, omega arith), all_weaker _ _ (λ t h. (h.0, omega arith)) (sendings_from u (k + 1) ms) (from_one u (k + 1) ms))

  -- messages to a vertex, read off the messages with their senders
  received : (id : ℕ) (ts : List (Sending M))
      → map (λ (t : Sending M). t.message) (filter (λ (t : Sending M). t.target == id) ts) ≡ messages_to id (map (λ (t : Sending M). (t.target, t.message)) ts)
  received id [] = refl
  received id (t ∷ ts) = by (t.target == id) _ _ (received id ts)
    where
      by : (b : Bool) (xs : List (Sending M)) (ms : List (ℕ × M))
          → map (λ (x : Sending M). x.message) xs ≡ map (λ (m : ℕ × M). m.1) ms
          → map (λ (x : Sending M). x.message) (cond b (t ∷ xs) xs)
          ≡ map (λ (m : ℕ × M). m.1) (cond b ((t.target, t.message) ∷ ms) ms)
      by true xs ms h = ap (◌∷◌ t.message) h
      by false xs ms h = h

less_by_sender : {M : Type 0} (a b : Sending M) → a.sender < b.sender → sending_cmp a b ≡ Less
less_by_sender a b h = grind (arith, nat_tests)

less_by_place : {M : Type 0} (a b : Sending M) → a.sender ≡ b.sender → a.place < b.place → sending_cmp a b ≡ Less
less_by_place a b e h = grind (arith, nat_tests)

lt_from_Less : (a b : ℕ) → nat_cmp a b ≡ Less → a < b
lt_from_Less a b e = grind (arith, nat_tests)

module _ {M : Type 0} where
  one_rises : (u k : ℕ) (ms : List (ℕ × M)) → IsStrictlySortedBy sending_cmp (sendings_from u k ms)
  unfolding IsStrictlySortedBy
  one_rises u k [] = tt
  one_rises u k (m ∷ ms) = (
    all_weaker _ _ (λ t h. less_by_place (record {
      sender = u;
      place = k;
      target = m.0;
      message = m.1;
    }) t (sym h.0) (omega arith)) (sendings_from u (k + 1) ms) (from_one u (k + 1) ms),
    one_rises u (k + 1) ms,
  )

  -- what stands in one sender's list, at which of its places
  place_in : (u k : ℕ) (ms : List (ℕ × M)) (t : Sending M) → Contains (sendings_from u k ms) t
      → (j : ℕ) × (k + j ≡ t.place) × (u ≡ t.sender) × (slice_get ms j ≡ Some (t.target, t.message))
  place_in u k [] t h = absurd (omega (arith, h.1))
  place_in u k (m ∷ ms) t h =
      elim (contains_cases _ t (sendings_from u (k + 1) ms) h) [
        | inl e ↦
            (0, omega (arith, ap (λ (x : Sending M). x.place) e), ap (λ (x : Sending M). x.sender) e, ap (λ (x : Sending M). Some (x.target, x.message)) e)
        | inr later ↦ let r = place_in u (k + 1) ms t later in (suc r.0, omega (arith, r.1), r.2, r.3)
      ]

  in_place : (u k : ℕ) (ms : List (ℕ × M)) (j : ℕ) (t : Sending M) → u ≡ t.sender → k + j ≡ t.place
      → slice_get ms j ≡ Some (t.target, t.message) → Contains (sendings_from u k ms) t
  in_place u k [] j t a b e = absurd (none-some _ e)
  in_place u k (m ∷ ms) zero t a b e =
      let at : k ≡ t.place = omega arith in
      let what : m ≡ (t.target, t.message) = same_Some _ _ e in
      (0, omega arith, λ i. record { sender = a i; place = at i; target = (what i).0; message = (what i).1 })
  in_place u k (m ∷ ms) (suc j) t a b e = contains_later _ t (sendings_from u (k + 1) ms) (in_place u (k + 1) ms j t a (omega arith) e)

module _ {V M : Type 0} (program : Program V M) (view : View) where
  -- a vertex gets what the first sender sent to it, then what the second did, and so on
  pub messages_to-sends : (id : ℕ) (xs : List (VertexWithInbox V M))
      → messages_to id (sends program view xs) ≡ flat_map (λ x. messages_to id (outcome program view x).sent) xs
  messages_to-sends id [] = refl
  messages_to-sends id (x ∷ xs) =
      messages_to-append id (outcome program view x).sent (sends program view xs)
      ∙ ap (◌++◌ (messages_to id (outcome program view x).sent)) (messages_to-sends id xs)

  -- the messages of a superstep are those with their senders, in that order
  pub sendings-sends : (xs : List (VertexWithInbox V M)) → map (λ t. (t.target, t.message)) (sendings program view xs) ≡ sends program view xs
  sendings-sends [] = refl
  sendings-sends (x ∷ xs) =
      map-append (λ (t : Sending M). (t.target, t.message)) (sendings_from x.state.id 0 (outcome program view x).sent) (sendings program view xs)
      ∙ ap₂ ◌++◌ (sent_of-from x.state.id 0 (outcome program view x).sent) (sendings-sends xs)

  -- a vertex gets the messages to it by sender and then by place
  pub messages_to-sendings : (id : ℕ) (xs : List (VertexWithInbox V M))
      → map (λ t. t.message) (filter (λ t. t.target == id) (sendings program view xs)) ≡ messages_to id (sends program view xs)
  messages_to-sendings id xs = received id (sendings program view xs) ∙ ap (messages_to id) (sendings-sends xs)

  later_senders : (u : ℕ) (xs : List (VertexWithInbox V M)) → AllByRecursion (λ id. nat_cmp u id ≡ Less) (ids xs)
      → AllByRecursion (λ (t : Sending M). u < t.sender) (sendings program view xs)
  later_senders u [] h = tt
  later_senders u (x ∷ xs) h =
      let less : u < x.state.id = lt_from_Less u x.state.id h.0 in
      all-append _ (sendings_from x.state.id 0 (outcome program view x).sent) (sendings program view xs) (all_weaker _ _
      (λ t k. omega (arith, k.0)) (sendings_from x.state.id 0 (outcome program view x).sent)
      (from_one x.state.id 0 (outcome program view x).sent)) (later_senders u xs h.1)

  -- where ids rise, the messages rise by sender and then by place
  pub sendings_rise : (xs : List (VertexWithInbox V M)) → IsStrictlySortedBy nat_cmp (ids xs) → IsStrictlySortedBy sending_cmp (sendings program view xs)
  unfolding IsStrictlySortedBy
  sendings_rise [] h = tt
  sendings_rise (x ∷ xs) h =
      let mine : List (Sending M) = sendings_from x.state.id 0 (outcome program view x).sent in
      let theirs : AllByRecursion (λ (t : Sending M). x.state.id < t.sender) (sendings program view xs) = later_senders x.state.id xs h.0 in
      sorted-append sending_cmp mine (sendings program view xs) (one_rises x.state.id 0 (outcome program view x).sent) (sendings_rise xs h.1)
      (all_weaker _ _ (λ t k. all_weaker _ _ (λ y l. less_by_sender t y (omega (arith, k.0))) (sendings program view xs) theirs) mine
      (from_one x.state.id 0 (outcome program view x).sent))

  -- and so do those to one vertex
  pub received_rise : (id : ℕ) (xs : List (VertexWithInbox V M)) → IsStrictlySortedBy nat_cmp (ids xs)
      → IsStrictlySortedBy sending_cmp (filter (λ t. t.target == id) (sendings program view xs))
  received_rise id xs h = IsStrictlySortedBy-filter sending_cmp (λ (t : Sending M). t.target == id) (sendings program view xs) (sendings_rise xs h)

  -- each message of a superstep was sent by a vertex, at its place
  pub IsSent-from_Contains : (xs : List (VertexWithInbox V M)) (t : Sending M) → Contains (sendings program view xs) t → IsSent program view xs t
  IsSent-from_Contains [] t h = absurd (omega (arith, h.1))
  IsSent-from_Contains (x ∷ xs) t h =
      elim (Contains-append_cases (sendings_from x.state.id 0 (outcome program view x).sent) (sendings program view xs) t h) [
        | inl mine ↦
            let r = place_in x.state.id 0 (outcome program view x).sent t mine in
            let at : r.0 ≡ t.place = omega (arith, r.1) in
            record {
              vertex = x;
              present = contains_first x xs;
              by = r.2;
              nth = subst (λ (j : ℕ). slice_get (outcome program view x).sent j ≡ Some (t.target, t.message)) at r.3;
            }
        | inr theirs ↦
            let r = IsSent-from_Contains xs t theirs in
            record { vertex = r.vertex; present = contains_later x r.vertex xs r.present; by = r.by; nth = r.nth }
      ]

  sent_is_there : (xs : List (VertexWithInbox V M)) (t : Sending M) (v : VertexWithInbox V M) → Contains xs v → v.state.id ≡ t.sender
      → slice_get (outcome program view v).sent t.place ≡ Some (t.target, t.message) → Contains (sendings program view xs) t
  sent_is_there [] t v h a e = absurd (omega (arith, h.1))
  sent_is_there (x ∷ xs) t v h a e =
      elim (contains_cases x v xs h) [
        | inl same ↦
            Contains-append_left (sendings_from x.state.id 0 (outcome program view x).sent) (sendings program view xs) t
            (in_place x.state.id 0 (outcome program view x).sent t.place t (ap (λ (y : VertexWithInbox V M). y.state.id) same ∙ a) (omega arith)
            (subst (λ (y : VertexWithInbox V M). slice_get (outcome program view y).sent t.place ≡ Some (t.target, t.message)) (sym same) e))
        | inr later ↦ Contains-append_right (sendings_from x.state.id 0 (outcome program view x).sent) (sendings program view xs) t
            (sent_is_there xs t v later a e)
      ]

  -- and each message that a vertex sent is there
  pub Contains-from_IsSent : (xs : List (VertexWithInbox V M)) (t : Sending M) → IsSent program view xs t → Contains (sendings program view xs) t
  Contains-from_IsSent xs t h = sent_is_there xs t h.vertex h.present h.by h.nth
