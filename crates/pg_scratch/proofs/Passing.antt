-- A pass over the places of a list, which leaves out idle vertices alone.
use Rattle.std.proofs.Common.{◌≡◌, ℕ, zero, suc, ◌+◌, ◌-◌, ◌^◌, ◌<◌, ◌≤◌, Bool, true, false, cond, not, ◌||◌, List, [], ◌∷◌, ◌++◌, length, map}
use Rattle.std.proofs.Common.{get_or, set, take, drop, Option, None, Some, refl, sym, ap, ◌∙◌, subst, ⊎_elim, arith, rules, tests}
use Rattle.std.specs.Prelude.{◌==◌, ℤ, IfSome}
use Rattle.std.specs.List.{slice_get, count_by}
use Rattle.std.specs.List.Sorted.{IsStrictlySortedBy}
use Rattle.std.specs.Option.{option_map}
use Rattle.std.specs.Ordering.{nat_cmp}
use Rattle.std.proofs.lemmas.Bool.{cases_lt, or_right, or_left}
use Rattle.std.proofs.lemmas.List.{flat_map_more, append-nil, length-map}
use Rattle.std.proofs.lemmas.List.Sums.{sum_by_push, sum_by-cons, sum_by-set}
use Rattle.std.proofs.lemmas.Map.Keys.{below_from_sorted}
use Rattle.std.proofs.lemmas.Option.{slice_get-map, slice_get_within, get_or_from_slice_get}
use Rattle.pg_model.proofs.LawsLists.{by_bool}
use Rattle.pg_model.specs.Job.{Program}
use Rattle.pg_model.specs.Superstep.{is_active, outcome, has_id, capped, edges_of, sends, contributions}
use Rattle.pg_model.specs.declared.configuration.VertexWithInbox.{VertexWithInbox}
use Rattle.pg_model.specs.declared.view.View.{View}
use Rattle.pg_model.specs.declared.view.Declared.{Declared}
use Rattle.pg_program.specs.Context.{Context, ShowsDeclared}
use Rattle.pg_scratch.specs.Pass.{ran, context_after, ran_context, with_unhalted}
use Rattle.pg_scratch.specs.Totals.{Counts, Exchanges}
use Rattle.pg_scratch.specs.Worklist.{ListsActive}
use Rattle.pg_scratch.proofs.LawsPlaces.{element, has_id-push}
use Rattle.pg_model.proofs.LawsListed.{has_id-get_or, listed_place}
use Rattle.pg_scratch.proofs.Executing.{ran-idle, idle_halted, context_after-idle}

-- ---- lists of which the first i elements are changed
module _ {X : Type 0} (f : X → X) where
  abbrev pub changed_below : ℕ → List X → List X
  changed_below i xs = map f (take i xs) ++ drop i xs

  changed_below-zero : (xs : List X) → changed_below 0 xs ≡ xs
  changed_below-zero [] = refl
  changed_below-zero (x ∷ xs) = refl

  pub changed_below-more : (xs : List X) (i : ℕ) (x : X) → slice_get xs i ≡ Some x → changed_below (suc i) xs ≡ set (changed_below i xs) i (f x)
  changed_below-more [] i x h = let k : None ≡ Some x = h in cc
  changed_below-more (y ∷ xs) zero x h =
      let same : y ≡ x = (let k : Some y ≡ Some x = h in cc) in
      ap (λ (z : X). f z ∷ xs) same
  changed_below-more (y ∷ xs) (suc i) x h = ap (λ l. f y ∷ l) (changed_below-more xs i x h)

  pub changed_below-at : (xs : List X) (i : ℕ) (x : X) → slice_get xs i ≡ Some x → slice_get (changed_below i xs) i ≡ Some x
  changed_below-at [] i x h = let k : None ≡ Some x = h in cc
  changed_below-at (y ∷ xs) zero x h = h
  changed_below-at (y ∷ xs) (suc i) x h = changed_below-at xs i x h

  set_same : (xs : List X) (i : ℕ) (x : X) → slice_get xs i ≡ Some x → set xs i x ≡ xs
  set_same [] i x h = refl
  set_same (y ∷ xs) zero x h = ap (λ z. z ∷ xs) (let k : Some y ≡ Some x = h in cc)
  set_same (y ∷ xs) (suc i) x h = ap (λ l. y ∷ l) (set_same xs i x h)

  pub changed_below-all : (xs : List X) → changed_below (length xs) xs ≡ map f xs
  changed_below-all [] = refl
  changed_below-all (x ∷ xs) = ap (λ l. f x ∷ l) (changed_below-all xs)

  -- an element that stays
  pub changed_below-stays : (xs : List X) (i : ℕ) (x : X) → slice_get xs i ≡ Some x → x ≡ f x → changed_below (suc i) xs ≡ changed_below i xs
  changed_below-stays xs i x h stays =
      changed_below-more xs i x h ∙ ap (set (changed_below i xs) i) (sym stays) ∙ set_same (changed_below i xs) i x (changed_below-at xs i x h)

take-next : {X : Type 0} (xs : List X) (i : ℕ) (x : X) → slice_get xs i ≡ Some x → take (suc i) xs ≡ take i xs ++ x ∷ []
take-next [] i x h = let k : None ≡ Some x = h in cc
take-next (y ∷ xs) zero x h = ap (λ z. z ∷ []) (let k : Some y ≡ Some x = h in cc)
take-next (y ∷ xs) (suc i) x h = ap (λ l. y ∷ l) (take-next xs i x h)

-- ---- the context, one vertex further
module _ {V M : Type 0} (program : Program V M) (cx : Context M) where
  more_calls : (c n k : ℕ) → capped (capped (c + n) + k) ≡ capped (c + (n + k))
  more_calls c n k = omega arith

  pub ran_context-push : (xs : List (VertexWithInbox V M)) (x : VertexWithInbox V M)
      → context_after program (ran_context program cx xs) x ≡ ran_context program cx (xs ++ x ∷ [])
  unfolding context_after ran_context
  ran_context-push xs x =
      let P : List (ℕ × M) → List (ℕ × ℤ) → ℕ → Context M = λ s c n. record { view = cx.view; writes = cx.writes; sent = s; contributed = c; calls = n } in
      let s0 = (cx.sent ++ sends program cx.view xs) ++ (outcome program cx.view x).sent in
      let c0 = (cx.contributed ++ contributions program cx.view xs) ++ (outcome program cx.view x).contributed in
      let n0 = capped (capped (cx.calls + count_by is_active xs) + cond (is_active x) 1 0) in
      let s1 = cx.sent ++ sends program cx.view (xs ++ x ∷ []) in
      let c1 = cx.contributed ++ contributions program cx.view (xs ++ x ∷ []) in
      ap (λ (s : List (ℕ × M)). P s c0 n0) (flat_map_more (λ (y : VertexWithInbox V M). (outcome program cx.view y).sent) cx.sent xs x)
      ∙ ap (λ (l : List (ℕ × ℤ)). P s1 l n0) (flat_map_more (λ (y : VertexWithInbox V M). (outcome program cx.view y).contributed) cx.contributed xs x)
      ∙ ap (λ (n : ℕ). P s1 c1 n) (more_calls cx.calls (count_by is_active xs) (cond (is_active x) 1 0)
      ∙ ap (λ (n : ℕ). capped (cx.calls + n)) (sym (sum_by_push (λ (y : VertexWithInbox V M). cond (is_active y) 1 0) xs x)))

  pub ran_context-fits : (xs : List (VertexWithInbox V M)) → (ran_context program cx xs).calls < 2 ^ 64
  unfolding ran_context
  ran_context-fits xs = omega arith

  pub ran_context-none : cx.calls < 2 ^ 64 → cx ≡ ran_context program cx []
  unfolding ran_context
  ran_context-none fits =
      let P : List (ℕ × M) → List (ℕ × ℤ) → ℕ → Context M = λ s c n. record { view = cx.view; writes = cx.writes; sent = s; contributed = c; calls = n } in
      let stays : cx.calls ≡ capped (cx.calls + 0) = omega arith in
      ap (λ (s : List (ℕ × M)). P s cx.contributed cx.calls) (sym (append-nil cx.sent))
      ∙ ap (λ (l : List (ℕ × ℤ)). P (cx.sent ++ []) l cx.calls) (sym (append-nil cx.contributed))
      ∙ ap (λ (n : ℕ). P (cx.sent ++ []) (cx.contributed ++ []) n) stays

-- ---- the state of a pass: k places of the list are done, and all vertices below `low`
pub record PassedTo {V M : Type 0} (program : Program V M) (first now : List (VertexWithInbox V M)) (cx_first cx : Context M)
    (work unhalted : List ℕ) (edges : Option ℕ) (k low : ℕ) : Type 0 where
  pub bound : low ≤ length first
  pub with_inboxes : now ≡ changed_below (ran program cx_first.view) low first
  pub context : cx ≡ ran_context program cx_first (take low first)
  pub ahead : (j : ℕ) → k ≤ j → j < length work → low ≤ get_or work j 0
  pub covers : (i : ℕ) (x : VertexWithInbox V M) → slice_get first i ≡ Some x → is_active x ≡ true → low ≤ i
      → (j : ℕ) × (k ≤ j) × (j < length work) × (get_or work j 0 ≡ i)
  pub within : (p : ℕ) → has_id unhalted p ≡ true → p < low
  pub lists : (i : ℕ) (x : VertexWithInbox V M) → slice_get first i ≡ Some x → i < low → (ran program cx_first.view x).state.halted ≡ false → has_id unhalted i ≡ true
  pub counts : Counts edges (edges_of now)

same_place : {X : Type 0} (xs : List X) (i j : ℕ) (x y : X) → slice_get xs i ≡ Some x → slice_get xs j ≡ Some y → i ≡ j → y ≡ x
same_place xs i j x y at_i at_j same =
    let e : Some y ≡ Some x = sym at_j ∙ ap (slice_get xs) (sym same) ∙ at_i in cc

-- ---- the number of edges, as a vertex is exchanged
less_and_more : (n k : ℕ) → k ≤ n → n ≡ n - k + k
less_and_more n k h = omega arith

module _ {V M : Type 0} where
  edges_within : (xs : List (VertexWithInbox V M)) (i : ℕ) (x : VertexWithInbox V M) → slice_get xs i ≡ Some x → length x.state.edges ≤ edges_of xs
  edges_within [] i x at = let k : None ≡ Some x = at in cc
  edges_within (y ∷ xs) zero x at =
      let same : y ≡ x = (let k : Some y ≡ Some x = at in cc) in
      omega (arith, sum_by-cons (λ (z : VertexWithInbox V M). length z.state.edges) y xs, ap (λ (z : VertexWithInbox V M). length z.state.edges) same)
  edges_within (y ∷ xs) (suc i) x at = omega (arith, sum_by-cons (λ (z : VertexWithInbox V M). length z.state.edges) y xs, edges_within xs i x at)

  exchanged_at : (now after : List (VertexWithInbox V M)) (i : ℕ) (x y : VertexWithInbox V M) (edges edges' : Option ℕ)
      → slice_get now i ≡ Some x → after ≡ set now i y → Exchanges edges edges' x y → Counts edges (edges_of now)
      → Counts edges' (edges_of after)
  exchanged_at now after i x y edges edges' at step exchanges counts =
      let size : VertexWithInbox V M → ℕ = λ z. length z.state.edges in
      let within = edges_within now i x at in
      let rest = edges_of now - size x in
      let both : edges_of now ≡ rest + size x = less_and_more (edges_of now) (size x) within in
      let moved = sum_by-set size now i y x (slice_get_within now i x at) in
      let there : size (get_or now i x) ≡ size x = ap size (get_or_from_slice_get now i x x at) in
      let left : edges_of after ≡ rest + size y = ap (λ (l : List (VertexWithInbox V M)). edges_of l) step ∙ omega (arith, moved, there, both) in
      subst (Counts edges') (sym left) (exchanges rest (subst (Counts edges) both counts))

  -- no vertex has more edges than all have
  pub known_within : (now : List (VertexWithInbox V M)) (i : ℕ) (x : VertexWithInbox V M) (edges : Option ℕ)
      → slice_get now i ≡ Some x → Counts edges (edges_of now) → IfSome edges (λ n. length x.state.edges ≤ n)
  known_within now i x None at counts = tt
  known_within now i x (Some n) at counts = omega (arith, edges_within now i x at, counts)

module _ {V M : Type 0} (program : Program V M) (first now : List (VertexWithInbox V M)) (cx_first cx : Context M)
    (work unhalted : List ℕ) (edges : Option ℕ) (k : ℕ) where
  -- an idle vertex is passed over
  advance_idle : (low : ℕ) (x : VertexWithInbox V M) → PassedTo program first now cx_first cx work unhalted edges k low
      → slice_get first low ≡ Some x → is_active x ≡ false
      → ((j : ℕ) → k ≤ j → j < length work → low < get_or work j 0)
      → PassedTo program first now cx_first cx work unhalted edges k (suc low)
  advance_idle low x passed here still ahead =
      let stays = ran-idle program cx_first.view x still in
      let before = ran_context program cx_first (take low first) in
      record {
        bound = slice_get_within first low x here;
        with_inboxes = passed.with_inboxes ∙ sym (changed_below-stays (ran program cx_first.view) first low x here stays);
        context = passed.context
            ∙ context_after-idle program before x (ran_context-fits program cx_first (take low first)) still
            ∙ ran_context-push program cx_first (take low first) x
            ∙ ap (ran_context program cx_first) (sym (take-next first low x here));
        ahead = ahead;
        covers = λ i y at active more. passed.covers i y at active (omega arith);
        within = λ p h. let l = passed.within p h in omega arith;
        lists = λ i y at less not_halted.
            ⊎_elim
            (λ (l : i < low). passed.lists i y at l not_halted)
            (λ (l : low ≤ i).
            let same : i ≡ low = omega arith in
            let is : y ≡ x = same_place first low i x y here at (sym same) in
            let asleep : (ran program cx_first.view y).state.halted ≡ true =
            ap (λ (z : VertexWithInbox V M). (ran program cx_first.view z).state.halted) is
            ∙ ap (λ (z : VertexWithInbox V M). z.state.halted) (sym stays) ∙ idle_halted program cx_first.view x still in
            let k : false ≡ true = sym not_halted ∙ asleep in cc)
            (cases_lt i low);
        counts = passed.counts;
      }

  -- idle vertices are passed over
  skip : (n low target : ℕ) → target ≡ low + n → PassedTo program first now cx_first cx work unhalted edges k low
      → target ≤ length first → ((j : ℕ) → k ≤ j → j < length work → target ≤ get_or work j 0)
      → ((i : ℕ) (x : VertexWithInbox V M) → slice_get first i ≡ Some x → low ≤ i → i < target → is_active x ≡ false)
      → PassedTo program first now cx_first cx work unhalted edges k target
  skip zero low target is passed inside ahead still =
      let e : low ≡ target = omega arith in subst (λ (t : ℕ). PassedTo program first now cx_first cx work unhalted edges k t) e passed
  skip (suc n) low target is passed inside ahead still =
      let last = low + n in
      let before =
      skip n low last refl passed (omega arith) (λ j a b. let l = ahead j a b in omega arith) (λ i x at more less. still i x at more (omega arith)) in
      let e : suc last ≡ target = omega arith in
      let inside_last : last < length first = omega arith in
      let some = element first last inside_last in
      subst (λ (t : ℕ). PassedTo program first now cx_first cx work unhalted edges k t) e
      (advance_idle last some.0 before some.1 (still last some.0 some.1 (omega arith) (omega arith)) (λ j a b. let l = ahead j a b in omega arith))

  -- all vertices below the next place of the list are passed over
  quiet_until : (low target : ℕ) → PassedTo program first now cx_first cx work unhalted edges k low
      → ((j : ℕ) → k ≤ j → j < length work → target ≤ get_or work j 0) → (i : ℕ) (x : VertexWithInbox V M)
      → slice_get first i ≡ Some x → low ≤ i → i < target → is_active x ≡ false
  quiet_until low target passed ahead i x at more less =
      by_bool (is_active x)
      (λ active. let w = passed.covers i x at active more in let l = ahead w.0 w.1 w.2 in absurd (omega (arith, w.3)))
      (λ still. still)

  pub skip_to : (low target : ℕ) → PassedTo program first now cx_first cx work unhalted edges k low → low ≤ target
      → target ≤ length first → ((j : ℕ) → k ≤ j → j < length work → target ≤ get_or work j 0)
      → PassedTo program first now cx_first cx work unhalted edges k target
  skip_to low target passed more inside ahead =
      skip (target - low) low target (omega arith) passed inside ahead (quiet_until low target passed ahead)

  -- the vertex at the next place of the list is visited
  pub visited : (place : ℕ) (x : VertexWithInbox V M) (after : List (VertexWithInbox V M)) (cx' : Context M) (unhalted' : List ℕ)
      (edges' : Option ℕ) → PassedTo program first now cx_first cx work unhalted edges k place
      → IsStrictlySortedBy nat_cmp work → k < length work → get_or work k 0 ≡ place → slice_get first place ≡ Some x
      → after ≡ set now place (ran program cx_first.view x) → cx' ≡ context_after program cx x
      → unhalted' ≡ with_unhalted unhalted place (ran program cx_first.view x)
      → Exchanges edges edges' x (ran program cx_first.view x)
      → PassedTo program first after cx_first cx' work unhalted' edges' (k + 1) (suc place)
  visited place x after cx' unhalted' edges' passed rising inside is here step context grows exchanges =
      record {
        bound = slice_get_within first place x here;
        with_inboxes =
            step ∙ ap (λ (l : List (VertexWithInbox V M)). set l place (ran program cx_first.view x)) passed.with_inboxes
            ∙ sym (changed_below-more (ran program cx_first.view) first place x here);
        context =
            context ∙ ap (λ (c : Context M). context_after program c x) passed.context ∙ ran_context-push program cx_first (take place first) x
            ∙ ap (ran_context program cx_first) (sym (take-next first place x here));
        ahead = λ j a b. let l = below_from_sorted work k j 0 rising (omega arith) b in omega arith;
        covers = λ i y at active more.
            let w = passed.covers i y at active (omega arith) in
            let apart : k < w.0 =
            ⊎_elim (λ (l : k < w.0). l) (λ (l : w.0 ≤ k). let same : w.0 ≡ k = omega (arith, w.1) in absurd
            (omega (arith, w.3, ap (λ (n : ℕ). get_or work n 0) same))) (cases_lt k w.0) in
            (w.0, omega arith, w.2, w.3);
        within = λ p h.
            by_bool (has_id unhalted p)
            (λ t. let l = passed.within p t in omega arith)
            (λ t.
            by_bool (ran program cx_first.view x).state.halted
            (λ asleep. let e : false ≡ true = sym t ∙ ap (λ l. has_id l p) (sym (grows ∙ ap (λ b. cond b unhalted (unhalted ++ place ∷ [])) asleep)) ∙ h in cc)
            (λ not_halted.
            let new : (place == p) ≡ true = sym (ap (λ b. b || (place == p)) t) ∙ sym (has_id-push unhalted place p)
            ∙ ap (λ l. has_id l p) (sym (grows ∙ ap (λ b. cond b unhalted (unhalted ++ place ∷ [])) not_halted)) ∙ h in
            let same : place ≡ p = search (tests, rules) in omega arith));
        lists = λ i y at less not_halted.
            ⊎_elim
            (λ (l : i < place).
            let old = passed.lists i y at l not_halted in
            by_bool (ran program cx_first.view x).state.halted
            (λ asleep. ap (λ l. has_id l i) (grows ∙ ap (λ b. cond b unhalted (unhalted ++ place ∷ [])) asleep) ∙ old)
            (λ woken. ap (λ l. has_id l i) (grows ∙ ap (λ b. cond b unhalted (unhalted ++ place ∷ [])) woken) ∙ has_id-push unhalted place i
            ∙ or_left (has_id unhalted i) (place == i) old))
            (λ (l : place ≤ i).
            let same : i ≡ place = omega arith in
            let is_x : y ≡ x = same_place first place i x y here at (sym same) in
            let woken : (ran program cx_first.view x).state.halted ≡ false =
            ap (λ (z : VertexWithInbox V M). (ran program cx_first.view z).state.halted) (sym is_x) ∙ not_halted in
            let equal : (place == i) ≡ true = search (tests, rules) in
            ap (λ l. has_id l i) (grows ∙ ap (λ b. cond b unhalted (unhalted ++ place ∷ [])) woken) ∙ has_id-push unhalted place i
            ∙ or_right (has_id unhalted i) (place == i) equal)
            (cases_lt i place);
        counts =
            let at : slice_get now place ≡ Some x = ap (λ (l : List (VertexWithInbox V M)). slice_get l place) passed.with_inboxes
            ∙ changed_below-at (ran program cx_first.view) first place x here in
            exchanged_at now after place x (ran program cx_first.view x) edges edges' at step exchanges passed.counts;
      }

-- ---- a pass from its beginning to its end
take_whole : {X : Type 0} (xs : List X) → take (length xs) xs ≡ xs
take_whole [] = refl
take_whole (x ∷ xs) = ap (λ l. x ∷ l) (take_whole xs)

only_halted : (b : Bool) → (not b || false) ≡ true → b ≡ false
only_halted true h = sym h
only_halted false h = refl

module _ {V M : Type 0} (program : Program V M) (first : List (VertexWithInbox V M)) (cx_first : Context M) (work : List ℕ) where
  pub passed_none : (edges : Option ℕ) → cx_first.calls < 2 ^ 64 → ListsActive first work
      → Counts edges (edges_of first) → PassedTo program first first cx_first cx_first work [] edges 0 0
  passed_none edges fits lists counts =
      record {
        bound = omega arith;
        with_inboxes = sym (changed_below-zero (ran program cx_first.view) first);
        context = ran_context-none program cx_first fits;
        ahead = λ j a b. omega arith;
        covers = λ i x at active more. let w = listed_place work i (lists.covers i x at active) in (w.0, omega arith, w.1, w.2);
        within = λ p h. let k : false ≡ true = h in cc;
        lists = λ i x at less not_halted. absurd (omega arith);
        counts = counts;
      }

  module _ (now : List (VertexWithInbox V M)) (cx : Context M) (unhalted : List ℕ) (edges : Option ℕ) (k low : ℕ)
      (done : length work ≤ k) (passed : PassedTo program first now cx_first cx work unhalted edges k low) where
    whole : PassedTo program first now cx_first cx work unhalted edges k (length first)
    whole = skip_to program first now cx_first cx work unhalted edges k low (length first) passed passed.bound (omega arith) (λ j a b. absurd (omega arith))

    pub passed_with_inboxes : now ≡ map (ran program cx_first.view) first
    passed_with_inboxes = whole.with_inboxes ∙ changed_below-all (ran program cx_first.view) first

    pub passed_counts : Counts edges (edges_of now)
    passed_counts = whole.counts

    pub passed_context : cx ≡ ran_context program cx_first first
    passed_context = whole.context ∙ ap (ran_context program cx_first) (take_whole first)

    same_length : length now ≡ length first
    same_length = ap length passed_with_inboxes ∙ simp length-map

    pub passed_lists : ListsActive now unhalted
    passed_lists =
        record {
          within = λ p h. let l = whole.within p h in omega (arith, same_length);
          covers = λ i y at active.
              let l = slice_get_within now i y at in
              let f = element first i (omega (arith, same_length)) in
              let x : VertexWithInbox V M = f.0 in
              let there : Some (ran program cx_first.view x) ≡ Some y =
              sym (ap (option_map (ran program cx_first.view)) f.1) ∙ sym (slice_get-map (ran program cx_first.view) first i)
              ∙ ap (λ (l : List (VertexWithInbox V M)). slice_get l i) (sym passed_with_inboxes) ∙ at in
              let is_y : ran program cx_first.view x ≡ y = (cc) in
              let not_halted : (ran program cx_first.view x).state.halted ≡ false =
              only_halted (ran program cx_first.view x).state.halted (ap is_active is_y ∙ active) in
              whole.lists i x f.1 (slice_get_within first i x f.1) not_halted;
        }

-- ---- one turn of the pass
length-changed_below : {X : Type 0} (f : X → X) (i : ℕ) (xs : List X) → length (changed_below f i xs) ≡ length xs
length-changed_below f zero [] = refl
length-changed_below f zero (x ∷ xs) = refl
length-changed_below f (suc i) [] = refl
length-changed_below f (suc i) (x ∷ xs) = ap (λ n. suc n) (length-changed_below f i xs)

ran_context-view : {V M : Type 0} (program : Program V M) (cx : Context M) (xs : List (VertexWithInbox V M)) → (ran_context program cx xs).view ≡ cx.view
unfolding ran_context
ran_context-view program cx xs = refl

ran_context-writes : {V M : Type 0} (program : Program V M) (cx : Context M) (xs : List (VertexWithInbox V M)) → (ran_context program cx xs).writes ≡ cx.writes
unfolding ran_context
ran_context-writes program cx xs = refl

module _ {V M : Type 0} (program : Program V M) (first now : List (VertexWithInbox V M)) (cx_first cx : Context M)
    (work unhalted : List ℕ) (edges : Option ℕ) (k low : ℕ) (lists : ListsActive first work)
    (rising : IsStrictlySortedBy nat_cmp work) (passed : PassedTo program first now cx_first cx work unhalted edges k low) where
  pub same_view : cx.view ≡ cx_first.view
  same_view = ap (λ (c : Context M). c.view) passed.context ∙ ran_context-view program cx_first (take low first)

  pub same_writes : cx.writes ≡ cx_first.writes
  same_writes = ap (λ (c : Context M). c.writes) passed.context ∙ ran_context-writes program cx_first (take low first)

  pub still_shown : (declared : Declared) → ShowsDeclared declared cx_first.view → ShowsDeclared declared cx.view
  still_shown declared shown = let P : View → Type 0 = λ v. ShowsDeclared declared v in subst P (sym same_view) shown

  pub still_fits : cx.calls < 2 ^ 64
  still_fits = let P : Context M → Type 0 = λ c. c.calls < 2 ^ 64 in subst P (sym passed.context) (ran_context-fits program cx_first (take low first))

  module _ (inside : k < length work) where
    place : ℕ
    place = get_or work k 0

    pub place_inside : get_or work k 0 < length now
    place_inside =
        let l = lists.within (get_or work k 0) (has_id-get_or work k 0 inside) in
        omega (arith, l, ap length passed.with_inboxes, length-changed_below (ran program cx_first.view) low first)

    pub pass_on : (after : List (VertexWithInbox V M)) (cx' : Context M) (unhalted' : List ℕ) (edges' : Option ℕ)
        → ((x : VertexWithInbox V M) → slice_get now (get_or work k 0) ≡ Some x → after ≡ set now (get_or work k 0) (ran program cx.view x))
        → ((x : VertexWithInbox V M) → slice_get now (get_or work k 0) ≡ Some x → cx' ≡ context_after program cx x)
        → ((x : VertexWithInbox V M) → slice_get now (get_or work k 0) ≡ Some x → unhalted' ≡ with_unhalted unhalted (get_or work k 0) (ran program cx.view x))
        → ((x : VertexWithInbox V M) → slice_get now (get_or work k 0) ≡ Some x → Exchanges edges edges' x (ran program cx.view x))
        → (low : ℕ) × PassedTo program first after cx_first cx' work unhalted' edges' (k + 1) low
    pass_on after cx' unhalted' edges' step context grows exchanges =
        let at : ℕ = get_or work k 0 in
        let within = lists.within at (has_id-get_or work k 0 inside) in
        let there = skip_to program first now cx_first cx work unhalted edges k low at passed (passed.ahead k (omega arith) inside) (omega arith)
        (λ j a b. ⊎_elim (λ (l : k < j). let r = below_from_sorted work k j 0 rising l b in omega arith)
        (λ (l : j ≤ k). let e : j ≡ k = omega arith in omega (arith, ap (λ (n : ℕ). get_or work n 0) e)) (cases_lt k j)) in
        let f = element first at within in
        let x : VertexWithInbox V M = f.0 in
        let here : slice_get now at ≡ Some x = ap (λ (l : List (VertexWithInbox V M)). slice_get l at) there.with_inboxes
        ∙ changed_below-at (ran program cx_first.view) first at x f.1 in (
          suc at,
          visited program first now cx_first cx work unhalted edges k at x after cx' unhalted' edges' there rising inside refl f.1
              (step x here ∙ ap (λ (v : View). set now at (ran program v x)) same_view)
              (context x here)
              (grows x here ∙ ap (λ (v : View). with_unhalted unhalted at (ran program v x)) same_view)
              (let P : View → Type 0 = λ v. Exchanges edges edges' x (ran program v x) in subst P same_view (exchanges x here)),
        )

module _ {V M : Type 0} (program : Program V M) (first : List (VertexWithInbox V M)) (cx_first : Context M) (work : List ℕ)
    (edges : Option ℕ) (fits : cx_first.calls < 2 ^ 64) (lists : ListsActive first work)
    (counts : Counts edges (edges_of first)) where
  pub passed_first : (unhalted : List ℕ) → unhalted ≡ [] → (low : ℕ) × PassedTo program first first cx_first cx_first work unhalted edges 0 low
  passed_first unhalted none =
      let P : List ℕ → Type 0 = λ l. PassedTo program first first cx_first cx_first work l edges 0 0 in
      (0, subst P (sym none) (passed_none program first cx_first work edges fits lists counts))

  -- where the list is empty, nobody is executed
  pub nobody-with_inboxes : length work ≡ 0 → first ≡ map (ran program cx_first.view) first
  nobody-with_inboxes none =
      passed_with_inboxes program first cx_first work first cx_first [] edges 0 0 (omega arith) (passed_none program first cx_first work edges fits lists counts)

  pub nobody-context : length work ≡ 0 → cx_first ≡ ran_context program cx_first first
  nobody-context none =
      passed_context program first cx_first work first cx_first [] edges 0 0 (omega arith) (passed_none program first cx_first work edges fits lists counts)

-- what a test for an empty list says
pub zero-from_test : (n : ℕ) (b : Bool) → b ≡ (n == 0) → b ≡ true → n ≡ 0
zero-from_test n b is h = let t : (n == 0) ≡ true = sym is ∙ h in search (tests, rules)

pub positive-from_test : (n : ℕ) (b : Bool) → b ≡ (n == 0) → b ≡ false → 0 < n
positive-from_test n b is h = let t : (n == 0) ≡ false = sym is ∙ h in search (tests, rules)
