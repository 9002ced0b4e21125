-- The bundles to a partition deliver what the superstep delivers to its ids.
use Rattle.std.proofs.Common.{◌≡◌, ℕ, zero, suc, ◌+◌, ◌%◌, ◌<◌, ◌≤◌, ◌==◌, Bool, true, false, cond, List, [], ◌∷◌, ◌++◌}
use Rattle.std.proofs.Common.{length, map, get_or, refl, sym, ap, ◌∙◌, arith, filter, flat_map, mod-lt, subst}
use Rattle.std.specs.List.{AllByRecursion, range_with_len}
use Rattle.std.specs.Option.{option_to_list}
use Rattle.std.specs.List.Sorted.{IsNonDecreasingBy, IsStrictlySortedBy}
use Rattle.std.specs.declared.cmp.Ordering.TheVariants.{Less}
use Rattle.std.proofs.lemmas.Bool.{cond_both, eqb-true}
use Rattle.std.proofs.lemmas.Bool.Decides.{nat_tests}
use Rattle.std.proofs.lemmas.List.{append-nil}
use Rattle.std.proofs.lemmas.List.Elements.{filter-append}
use Rattle.pg_graph.specs.Rows.{HasRisingIds, Rows}
use Rattle.pg_inbox.specs.Handed.{AreAllOf, Outbox, RiseBySender, bundle_of, sent_by, without_senders}
use Rattle.pg_inbox.specs.Inboxes.{Delivers}
use Rattle.pg_inbox.specs.LoggedBundle.{Slots, slot_at}
use Rattle.pg_inbox.proofs.Handed.{flat_map-of_map}
use Rattle.pg_model.specs.ByIds.{delivered_at}
use Rattle.pg_model.specs.Job.{Job, Program}
use Rattle.pg_model.specs.Order.{Sending, sending_cmp, sendings, sendings_from}
use Rattle.pg_model.specs.Run.{present_at, view_at}
use Rattle.pg_model.specs.Share.{belongs, present_in_share, records_in, sendings_of, sent_to}
use Rattle.pg_model.specs.Superstep.{combined, delivered, messages_to, outcome}
use Rattle.pg_model.proofs.LawsByNumber.{IsUp, up-filter}
use Rattle.pg_model.proofs.LawsDelivered.{messages_to-sendings, sendings_rise}
use Rattle.pg_model.proofs.LawsIds.{ids_rise}
use Rattle.pg_model.proofs.LawsLists.{filter-filter, filter-map}
use Rattle.std.proofs.lemmas.Simd.{map-map}
use Rattle.pg_model.proofs.LawsShares.{ids_rise_in_share, sendings-records_in}
use Rattle.pg_model.specs.declared.configuration.VertexWithInbox.{VertexWithInbox}
use Rattle.pg_model.specs.declared.view.View.{View}
use Rattle.pg_part_routing.specs.Routes.{HasMessages, as_sends, bundle_in, bundle_sent, bundles_at}

-- ---- by sender

module _ {X : Type 0} (key : X → ℕ) where
  up_at : (x : X) (xs : List X) → AllByRecursion (λ y. key x ≤ key y) xs → (j : ℕ) (d : X) → j < length xs → key x ≤ key (get_or xs j d)
  up_at x [] h j d within = absurd (omega arith)
  up_at x (y ∷ ys) h zero d within = h.0
  up_at x (y ∷ ys) h (suc j) d within = up_at x ys h.1 j d (omega arith)

  non_decreasing : (xs : List X) → IsUp key xs → IsNonDecreasingBy key xs
  non_decreasing [] h i j d low within = absurd (omega arith)
  non_decreasing (x ∷ xs) h zero zero d low within = omega arith
  non_decreasing (x ∷ xs) h zero (suc j) d low within = up_at x xs h.0 j d (omega arith)
  non_decreasing (x ∷ xs) h (suc i) zero d low within = absurd (omega arith)
  non_decreasing (x ∷ xs) h (suc i) (suc j) d low within = non_decreasing xs h.1 i j d (omega arith) (omega arith)

-- what passes two tests, in either order
module _ {X : Type 0} where
  pub either_order : (p q : X → Bool) (ts : List X) → filter p (filter q ts) ≡ filter q (filter p ts)
  either_order p q [] = refl
  either_order p q (t ∷ ts) = by (p t) refl (q t) refl (either_order p q ts)
    where
      by : (a : Bool) → p t ≡ a → (b : Bool) → q t ≡ b → filter p (filter q ts) ≡ filter q (filter p ts)
          → filter p (cond b (t ∷ filter q ts) (filter q ts)) ≡ filter q (cond a (t ∷ filter p ts) (filter p ts))
      by true e true f h =
          ap (λ (c : Bool). cond c (t ∷ filter p (filter q ts)) (filter p (filter q ts))) e
          ∙ (ap (λ l. t ∷ l) h ∙ sym (ap (λ (c : Bool). cond c (t ∷ filter q (filter p ts)) (filter q (filter p ts))) f))
      by true e false f h = h ∙ sym (ap (λ (c : Bool). cond c (t ∷ filter q (filter p ts)) (filter q (filter p ts))) f)
      by false e true f h = ap (λ (c : Bool). cond c (t ∷ filter p (filter q ts)) (filter p (filter q ts))) e ∙ h
      by false e false f h = h

module _ {M : Type 0} where
  no_later : (a b : Sending M) → sending_cmp a b ≡ Less → a.sender ≤ b.sender
  no_later a b h = grind (arith, nat_tests)

  all_later : (a : Sending M) (ts : List (Sending M)) → AllByRecursion (λ t. sending_cmp a t ≡ Less) ts → AllByRecursion (λ t. a.sender ≤ t.sender) ts
  all_later a [] h = tt
  all_later a (t ∷ ts) h = (no_later a t h.0, all_later a ts h.1)

  up_by_sender : (ts : List (Sending M)) → IsStrictlySortedBy sending_cmp ts → IsUp (λ (t : Sending M). t.sender) ts
  unfolding IsStrictlySortedBy
  up_by_sender [] h = tt
  up_by_sender (t ∷ ts) h = (all_later t ts h.0, up_by_sender ts h.1)

  up_sends : (ts : List (Sending M)) → IsUp (λ (t : Sending M). t.sender) ts → IsUp (λ (s : ℕ × ℕ × M). s.0) (as_sends ts)
  up_sends [] h = tt
  up_sends (t ∷ ts) h = (all_of ts h.0, up_sends ts h.1)
    where
      all_of : (us : List (Sending M)) → AllByRecursion (λ u. t.sender ≤ u.sender) us → AllByRecursion (λ (s : ℕ × ℕ × M). t.sender ≤ s.0) (as_sends us)
      all_of [] k = tt
      all_of (u ∷ us) k = (k.0, all_of us k.1)

  -- ---- what one sender sent

  by_sender : ℕ → List (Sending M) → List (Sending M)
  by_sender u ts = filter (λ t. t.sender == u) ts

  sent_by-as_sends : (u : ℕ) (ts : List (Sending M)) → sent_by u (as_sends ts) ≡ as_sends (by_sender u ts)
  unfolding by_sender
  sent_by-as_sends u ts = filter-map (λ (s : ℕ × ℕ × M). s.0 == u) (λ (t : Sending M). (t.sender, t.target, t.message)) ts

  from_one : (u v k : ℕ) (ms : List (ℕ × M)) → by_sender u (sendings_from v k ms) ≡ cond (v == u) (sendings_from v k ms) []
  unfolding by_sender
  from_one u v k [] = by (v == u)
    where
      none : List (Sending M)
      none = []

      by : (b : Bool) → none ≡ cond b none none
      by true = refl
      by false = refl
  from_one u v k (m ∷ ms) = by (v == u) (from_one u v (k + 1) ms)
    where
      first : Sending M
      first = record { sender = v; place = k; target = m.0; message = m.1 }

      by : (b : Bool) → by_sender u (sendings_from v (k + 1) ms) ≡ cond b (sendings_from v (k + 1) ms) []
          → cond b (first ∷ by_sender u (sendings_from v (k + 1) ms)) (by_sender u (sendings_from v (k + 1) ms)) ≡ cond b
          (first ∷ sendings_from v (k + 1) ms) []
      by true h = ap (λ l. first ∷ l) h
      by false h = h

-- a number below n is one of those from 0 to n
one_class : {Y : Type 0} (k : ℕ) (y : List Y) (a n : ℕ) → a ≤ k → k < a + n → flat_map (λ q. cond (k == q) y []) (range_with_len a n) ≡ y
one_class k y a zero low high = absurd (omega arith)
one_class k y a (suc n) low high = by (k == a) refl (λ above. one_class k y (a + 1) n above (omega arith))
  where
    none : (b m : ℕ) → k < b → flat_map (λ q. cond (k == q) y []) (range_with_len b m) ≡ []
    none b zero h = refl
    none b (suc m) h =
        ap (λ (c : Bool). cond c y [] ++ flat_map (λ q. cond (k == q) y []) (range_with_len (b + 1) m))
        (let e : (k == b) ≡ false = grind (arith, nat_tests) in e)
        ∙ none (b + 1) m (omega arith)

    by : (b : Bool) → (k == a) ≡ b → (a + 1 ≤ k → flat_map (λ q. cond (k == q) y []) (range_with_len (a + 1) n) ≡ y)
        → cond b y [] ++ flat_map (λ q. cond (k == q) y []) (range_with_len (a + 1) n) ≡ y
    by true e later = let same = eqb-true k a e in ap (λ l. y ++ l) (none (a + 1) n (omega (arith, same))) ∙ append-nil y
    by false e later = later (above e)
      where
        above : (k == a) ≡ false → a + 1 ≤ k
        above e' = grind (arith, nat_tests)

-- one of each number
each_one : {Y : Type 0} (f : ℕ → List Y) (g : ℕ → Y) (a n : ℕ) → ((q : ℕ) → q < a + n → f q ≡ g q ∷ [])
    → flat_map f (range_with_len a n) ≡ map g (range_with_len a n)
each_one f g a zero h = refl
each_one f g a (suc n) h =
    ap (λ l. l ++ flat_map f (range_with_len (a + 1) n)) (h a (omega arith))
    ∙ ap (λ l. g a ∷ l) (each_one f g (a + 1) n (λ q below. h q (omega (arith, below))))

module _ {V M : Type 0} (program : Program V M) (view : View) (n u : ℕ) where
  sent_from : VertexWithInbox V M → List (Sending M)
  sent_from x = sendings_from x.state.id 0 (outcome program view x).sent

  -- of a partition's vertices each sender sent what it sent, if it is one of them
  sender_in_part : (q : ℕ) (xs : List (VertexWithInbox V M))
      → by_sender u (sendings program view (filter (λ x. belongs n q x.state.id) xs)) ≡ cond (u % n == q) (by_sender u (sendings program view xs)) []
  unfolding by_sender sent_from
  sender_in_part q [] = by (u % n == q)
    where
      none : List (Sending M)
      none = []

      by : (b : Bool) → none ≡ cond b none none
      by true = refl
      by false = refl
  sender_in_part q (x ∷ xs) = by (belongs n q x.state.id) refl (x.state.id == u) refl (sender_in_part q xs)
    where
      picked : List (VertexWithInbox V M)
      picked = filter (λ x. belongs n q x.state.id) xs

      mine : List (Sending M)
      mine = by_sender u (sendings program view picked)

      all : List (Sending M)
      all = by_sender u (sendings program view xs)

      first : (b : Bool) → (x.state.id == u) ≡ b → (rest : List (Sending M))
          → by_sender u (sent_from x ++ rest) ≡ cond b (sent_from x) [] ++ by_sender u rest
      first b e rest =
          filter-append (λ t. t.sender == u) (sent_from x) rest
          ∙ ap (λ l. l ++ by_sender u rest) (from_one u x.state.id 0 (outcome program view x).sent ∙ ap (λ (c : Bool). cond c (sent_from x) []) e)

      of_sender : (x.state.id == u) ≡ true → (u % n == q) ≡ belongs n q x.state.id
      of_sender e = ap (λ (k : ℕ). k % n == q) (sym (eqb-true x.state.id u e))

      by : (a : Bool) → belongs n q x.state.id ≡ a → (b : Bool) → (x.state.id == u) ≡ b → mine ≡ cond (u % n == q) all []
          → by_sender u (sendings program view (cond a (x ∷ picked) picked)) ≡ cond (u % n == q) (by_sender u (sent_from x ++ sendings program view xs)) []
      by true e true f h =
          let one = of_sender f ∙ e in
          first true f (sendings program view picked)
          ∙ (ap (λ l. sent_from x ++ l) (h ∙ ap (λ (c : Bool). cond c all []) one)
          ∙ (sym (first true f (sendings program view xs)) ∙ sym (ap (λ (c : Bool). cond c (by_sender u (sent_from x ++ sendings program view xs)) []) one)))
      by true e false f h =
          first false f (sendings program view picked)
          ∙ (h ∙ sym (ap (λ l. cond (u % n == q) l []) (first false f (sendings program view xs))))
      by false e true f h =
          let other = of_sender f ∙ e in
          h ∙ (ap (λ (c : Bool). cond c all []) other ∙ sym (ap (λ (c : Bool). cond c (by_sender u (sent_from x ++ sendings program view xs)) []) other))
      by false e false f h = h ∙ sym (ap (λ l. cond (u % n == q) l []) (first false f (sendings program view xs)))

module _ {V M : Type 0} (job : Job V M) (rows : Rows) (n p s : ℕ) (rising : HasRisingIds rows) where
  -- all messages of the superstep to ids of the partition
  pub to_part : List (Sending M)
  to_part = filter (λ t. belongs n p t.target) (sendings job.program (view_at job rows s) (present_at job rows s))

  pub lists : List (Outbox M)
  lists = map (λ q. as_sends (sent_to job rows n q p s)) (range_with_len 0 n)

  pub are_all : 0 < n → AreAllOf lists (as_sends to_part)
  unfolding to_part lists by_sender
  are_all some = record {
    rise = non_decreasing (λ (s : ℕ × ℕ × M). s.0) (as_sends to_part)
        (up_sends to_part
        (up-filter (λ t. t.sender) (λ t. belongs n p t.target) all (up_by_sender all (sendings_rise program view xs (ids_rise job rows rising s)))));
    same = λ u.
        sent_by-as_sends u to_part
        ∙ (ap as_sends (either_order (λ t. t.sender == u) (λ t. belongs n p t.target) all)
        ∙ (sym (one_class (u % n) (of_all u) 0 n (omega arith) (let h = mod-lt u some in omega (arith, h)))
        ∙ (ap (λ (f : ℕ → List (ℕ × ℕ × M)). flat_map f (range_with_len 0 n)) (λ i q. sym (of_part u q) i)
        ∙ sym (flat_map-of_map (sent_by u) (λ q. as_sends (sent_to job rows n q p s)) (range_with_len 0 n)))));
  }
    where
      program : Program V M
      program = job.program

      view : View
      view = view_at job rows s

      xs : List (VertexWithInbox V M)
      xs = present_at job rows s

      all : List (Sending M)
      all = sendings program view xs

      of_all : ℕ → List (ℕ × ℕ × M)
      of_all u = as_sends (filter (λ t. belongs n p t.target) (by_sender u all))

      of_part : (u q : ℕ) → sent_by u (as_sends (sent_to job rows n q p s)) ≡ cond (u % n == q) (of_all u) []
      of_part u q =
          sent_by-as_sends u (sent_to job rows n q p s)
          ∙ (ap as_sends (either_order (λ t. t.sender == u) (λ t. belongs n p t.target) (sendings_of (records_in job rows n q s))
          ∙ ap (filter (λ t. belongs n p t.target)) (ap (by_sender u) (sendings-records_in job rows n q s) ∙ sender_in_part program view n u q xs))
          ∙ by (u % n == q))
        where
          by : (b : Bool) → as_sends (filter (λ t. belongs n p t.target) (cond b (by_sender u all) [])) ≡ cond b (of_all u) []
          by true = refl
          by false = refl

  pub to_id : (id : ℕ) → belongs n p id ≡ true → delivered job.combining id (without_senders (as_sends to_part)) ≡ delivered_at job rows s id
  unfolding to_part
  to_id id mine =
      ap (combined job.combining)
      (ap (messages_to id) (map-map (λ (s : ℕ × ℕ × M). (s.1, s.2)) (λ (t : Sending M). (t.sender, t.target, t.message)) to_part)
      ∙ (ap (map (λ (m : ℕ × M). m.1)) (filter-map (λ (m : ℕ × M). m.0 == id) (λ (t : Sending M). (t.target, t.message)) to_part)
      ∙ (map-map (λ (m : ℕ × M). m.1) (λ (t : Sending M). (t.target, t.message)) (filter (λ t. t.target == id) to_part)
      ∙ (ap (map (λ (t : Sending M). t.message)) (filter-filter goes (λ t. belongs n p t.target) goes (λ t. each t (t.target == id) refl) all)
      ∙ messages_to-sendings job.program (view_at job rows s) id (present_at job rows s)))))
    where
      all : List (Sending M)
      all = sendings job.program (view_at job rows s) (present_at job rows s)

      goes : Sending M → Bool
      goes t = t.target == id

      each : (t : Sending M) (b : Bool) → (t.target == id) ≡ b → cond (belongs n p t.target) b false ≡ b
      each t true e = ap (λ (c : Bool). cond c true false) (ap (belongs n p) (eqb-true t.target id e) ∙ mine)
      each t false e = cond_both (belongs n p t.target) false false (λ (c : Bool). c ≡ false) (λ _. refl) (λ _. refl)

  -- the bundles to the partition are those of what each partition sent to it
  pub bundles_are : (logs : Slots M) → HasMessages job rows n p (s + 1) logs
      → bundles_at logs n p s ≡ map (λ q. bundle_sent job rows n q p s) (range_with_len 0 n)
  bundles_are logs has =
      each_one (λ q. option_to_list (bundle_in (slot_at logs s q p))) (λ q. bundle_sent job rows n q p s) 0 n
      (λ q below. ap option_to_list (has s q refl (omega (arith, below))))

  pub of_lists : map (λ q. bundle_sent job rows n q p s) (range_with_len 0 n) ≡ map (bundle_of job.combining) lists
  unfolding lists
  of_lists = sym (map-map (bundle_of job.combining) (λ q. as_sends (sent_to job rows n q p s)) (range_with_len 0 n))

  -- they deliver to its ids what the superstep delivers
  pub delivers_in_part : 0 < n → (logs : Slots M) → HasMessages job rows n p (s + 1) logs → (id : ℕ) → belongs n p id ≡ true → (inbox : List M)
      → Delivers job.combining id (bundles_at logs n p s) inbox → inbox ≡ delivered_at job rows s id
  delivers_in_part some logs has id mine inbox delivers =
      delivers lists (as_sends to_part) (bundles_are logs has ∙ of_lists) (are_all some) ∙ to_id id mine

  -- what one partition sends to another rises by sender
  pub sent_rise : (q : ℕ) → RiseBySender (as_sends (sent_to job rows n p q s))
  sent_rise q =
      non_decreasing (λ (s : ℕ × ℕ × M). s.0) (as_sends (sent_to job rows n p q s))
      (up_sends (sent_to job rows n p q s) (up-filter (λ t. t.sender) (λ t. belongs n q t.target) (sendings_of (records_in job rows n p s))
      (subst (IsUp (λ t. t.sender)) (sym (sendings-records_in job rows n p s))
      (up_by_sender (sendings job.program (view_at job rows s) (present_in_share job rows n p s))
      (sendings_rise job.program (view_at job rows s) (present_in_share job rows n p s) (ids_rise_in_share job rows n p rising s))))))
