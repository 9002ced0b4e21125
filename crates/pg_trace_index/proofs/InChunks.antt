-- Values in chunks: where a search finds them, and what is made of them in place.
use Rattle.std.proofs.Common.{◌≡◌, ℕ, zero, suc, ◌+◌, ◌-◌, ◌<◌, ◌≤◌, List, [], ◌∷◌, ◌++◌, length, get_or, set, take, drop, true, false, None, Some}
use Rattle.std.proofs.Common.{Ordering, refl, sym, ap, ◌∙◌, subst, arith, leb, append_assoc}
use Rattle.std.specs.BTreeMap.{insert_entry}
use Rattle.std.specs.List.{HoldsAt, insert}
use Rattle.std.specs.List.Sorted.{IsNonDecreasingBy, IsPartitionPoint, IsStrictlySortedBy}
use Rattle.std.specs.Ordering.{nat_cmp, match_ordering}
use Rattle.std.specs.declared.cmp.Ordering.TheVariants.{Less, Equal, Greater}
use Rattle.std.proofs.lemmas.Bool.{leb-true, leb-false}
use Rattle.std.proofs.lemmas.Bool.Decides.{nat_tests}
use Rattle.std.proofs.lemmas.List.{append-nil, get_or_default, take-append-drop, take_more}
use Rattle.std.proofs.lemmas.Grind.{flat_map-append}
use Rattle.std.proofs.lemmas.Map.Lookups.{exact_unsigned}
use Rattle.pg_map.specs.Chunks.{StartsAt}
use Rattle.pg_map.specs.Entries.{HasRisingIds}
use Rattle.pg_map.proofs.Parts.{Below, From, above_first, below_middle, change-left, change-right, find-left, find-right, from_first, from_weaker}
use Rattle.pg_map.proofs.Parts.{is_equal, none_below, none_from, rises_after, rises_left, rises_right}
use Rattle.pg_map.proofs.Rising.{find, rises-insert}
use Rattle.pg_map.proofs.Search.{lookup_found, rises}
use Rattle.pg_trace_index.specs.Chunks.{AreSound, IsAt, Start, all_of, listed}
use Rattle.pg_trace_index.specs.declared.chunk.Chunk.{Chunk}

other_way : (a b : ℕ) → nat_cmp a b ≡ Less → nat_cmp b a ≡ Greater
other_way a b h = grind (arith, nat_tests)

this_way : (a b : ℕ) → nat_cmp a b ≡ Greater → nat_cmp b a ≡ Less
this_way a b h = grind (arith, nat_tests)

past : (a b : ℕ) → b < a → nat_cmp a b ≡ Greater
past a b h = grind (arith, nat_tests)

before : (a b : ℕ) → a < b → nat_cmp a b ≡ Less
before a b h = grind (arith, nat_tests)

module _ {X : Type 0} where
  -- ---- among entries

  -- what `insert_entry` makes of a first entry and of the others, by how the ids compare
  abbrev put_by : Ordering → (ℕ × X) → List (ℕ × X) → ℕ → X → List (ℕ × X)
  put_by r e es id v = match_ordering r ((id, v) ∷ e ∷ es) ((e.0, v) ∷ es) (e ∷ insert_entry nat_cmp es id v)

  from_at : (m : ℕ) (es : List (ℕ × X)) (p : ℕ) (d : ℕ × X) → From m es → p < length es → m ≤ (get_or es p d).0
  from_at m [] p d from within = absurd (omega arith)
  from_at m (e ∷ es) zero d from within = from.0
  from_at m (e ∷ es) (suc p) d from within = from_at m es p d from.1 (omega arith)

  -- where the last is below an id, all are
  pub all_below : (es : List (ℕ × X)) (id m : ℕ) (last : ℕ × X) → HasRisingIds es → m + 1 ≡ length es → last ≡ get_or es m last → last.0 < id
      → IsPartitionPoint (λ e. nat_cmp e.0 id ≡ Less) (λ e. nat_cmp e.0 id ≡ Greater) es (length es)
  all_below es id m last rise count here low =
      (λ k x z h. under k x (omega arith), λ k x h g. absurd (omega arith))
    where
      under : (k : ℕ) (x : ℕ × X) → k < length es → nat_cmp (get_or es k x).0 id ≡ Less
      under k x h =
          let bound = rises es k m x rise (omega arith) (omega arith) in
          let same : (get_or es m x).0 ≡ last.0 = ap (λ e. e.0) (get_or_default es m x last (omega arith) ∙ sym here) in
          before (get_or es k x).0 id (omega (arith, bound, same, low))

  -- a value put where its id is found
  pub put_found : (id : ℕ) (v : X) (es : List (ℕ × X)) (p : ℕ) → HasRisingIds es → p < length es → HoldsAt (λ e. nat_cmp e.0 id ≡ Equal) es p
      → set es p (id, v) ≡ insert_entry nat_cmp es id v
  put_found id v [] p rise within here = absurd (omega arith)
  put_found id v (e ∷ es) zero rise within here =
      let same = exact_unsigned e.0 id (here e) in
      ap (λ k. (k, v) ∷ es) (sym same)
      ∙ sym (ap (λ r. put_by r e es id v) (ap (λ k. nat_cmp k e.0) (sym same) ∙ is_equal e.0))
  put_found id v (e ∷ es) (suc p) rise within here =
      let same = exact_unsigned (get_or es p e).0 id (here e) in
      let above = from_at (e.0 + 1) es p e (above_first e es rise) (omega arith) in
      ap (λ l. e ∷ l) (put_found id v es p (rises_after e es rise) (omega arith) (λ d. here d))
      ∙ sym (ap (λ r. put_by r e es id v) (past id e.0 (omega (arith, same, above))))

  -- and where it is missing
  pub put_missing : (id : ℕ) (v : X) (es : List (ℕ × X)) (p : ℕ) → p ≤ length es
      → IsPartitionPoint (λ e. nat_cmp e.0 id ≡ Less) (λ e. nat_cmp e.0 id ≡ Greater) es p → insert es p (id, v) ≡ insert_entry nat_cmp es id v
  put_missing id v [] zero within parts = refl
  put_missing id v [] (suc p) within parts = absurd (omega arith)
  put_missing id v (e ∷ es) zero within parts =
      sym (ap (λ r. put_by r e es id v)
      (this_way e.0 id (parts.1 0 e (omega arith) (omega arith))))
  put_missing id v (e ∷ es) (suc p) within parts =
      ap (λ l. e ∷ l)
      (put_missing id v es p (omega arith)
      (λ k d z h. parts.0 (suc k) d (omega arith) (omega arith), λ k d h g. parts.1 (suc k) d (omega arith) (omega arith)))
      ∙ sym (ap (λ r. put_by r e es id v)
      (other_way e.0 id (parts.0 0 e (omega arith) (omega arith))))

  -- ---- the chunks' first ids

  from_start : (m : ℕ) (a b : List (ℕ × X)) → StartsAt m a → HasRisingIds (a ++ b) → From m (a ++ b)
  from_start m [] b starts rise = absurd starts
  from_start m (e ∷ a) b starts rise = subst (λ k. From k (e ∷ a ++ b)) (sym starts) (from_first e (a ++ b) rise)

  below_start : (m : ℕ) (a b c : List (ℕ × X)) → StartsAt m b → HasRisingIds (a ++ (b ++ c)) → Below m a
  below_start m a [] c starts rise = absurd starts
  below_start m a (e ∷ b) c starts rise = subst (λ k. Below k a) (sym starts) (below_middle a e (b ++ c) rise)

  below_weaker : (m k : ℕ) (es : List (ℕ × X)) → m ≤ k → Below m es → Below k es
  below_weaker m k [] h all = tt
  below_weaker m k (e ∷ es) h all = (omega (arith, all.0), below_weaker m k es h all.1)

  start_within : (k m : ℕ) (a b : List (ℕ × X)) → StartsAt m a → From k (a ++ b) → k ≤ m
  start_within k m [] b starts from = absurd starts
  start_within k m (e ∷ a) b starts from = omega (arith, starts, from.0)

  from_rest : (k : ℕ) (a b : List (ℕ × X)) → From k (a ++ b) → From k b
  from_rest k [] b from = from
  from_rest k (e ∷ a) b from = from_rest k a b from.1

  first_within : (k : ℕ) (cs : List (Chunk X)) (j : ℕ) (d : Chunk X) → Start cs → From k (all_of cs) → j < length cs → k ≤ (get_or cs j d).first
  first_within k [] j d start from within = absurd (omega arith)
  first_within k (c ∷ cs) zero d start from within = start_within k c.first (listed c) (all_of cs) start.0 from
  first_within k (c ∷ cs) (suc j) d start from within = first_within k cs j d start.1 (from_rest k (listed c) (all_of cs) from) (omega arith)

  pub firsts_rise : (cs : List (Chunk X)) → Start cs → HasRisingIds (all_of cs) → IsNonDecreasingBy (λ c. c.first) cs
  firsts_rise [] start rise i j d h within = absurd (omega arith)
  firsts_rise (c ∷ cs) start rise zero j d h within =
      first_within c.first (c ∷ cs) j d start (from_start c.first (listed c) (all_of cs) start.0 rise) within
  firsts_rise (c ∷ cs) start rise (suc i) zero d h within = absurd (omega arith)
  firsts_rise (c ∷ cs) start rise (suc i) (suc j) d h within =
      firsts_rise cs start.1 (rises_right (listed c) (all_of cs) rise) i j d (omega arith) (omega arith)

  -- ---- one chunk and the others

  module _ (q : ℕ) where
    above : (cs : List (Chunk X)) → Start cs → HasRisingIds (all_of cs) → ((k : ℕ) (d : Chunk X) → k < length cs → q < (get_or cs k d).first)
        → From (q + 1) (all_of cs)
    above [] start rise high = tt
    above (c ∷ cs) start rise high =
        from_weaker (q + 1) c.first (all_of (c ∷ cs)) (let h = high 0 c (omega arith) in omega arith)
        (from_start c.first (listed c) (all_of cs) start.0 rise)

    -- where the entries of a chunk stand in all, if an id belongs there; and what becomes of all if they are others
    pub record Around (cs : List (Chunk X)) (m : ℕ) (c : Chunk X) : Type 0 where
      pub front : List (ℕ × X)
      pub back : List (ℕ × X)
      pub whole : all_of cs ≡ front ++ (listed c ++ back)
      pub below : Below q front
      pub beyond : From (q + 1) back
      pub begins : StartsAt c.first (listed c)
      pub rises : HasRisingIds (listed c)
      pub changed : (c' : Chunk X) → all_of (set cs m c') ≡ front ++ (listed c' ++ back)
      pub start : (c' : Chunk X) → StartsAt c'.first (listed c') → Start (set cs m c')

    around : (cs : List (Chunk X)) (m : ℕ) (c : Chunk X) → Start cs → HasRisingIds (all_of cs) → m < length cs → c ≡ get_or cs m c
        → (0 < m → c.first ≤ q) → ((k : ℕ) (d : Chunk X) → m < k → k < length cs → q < (get_or cs k d).first) → Around cs m c
    around [] m c start rise within here low high = absurd (omega arith)
    around (x ∷ cs) zero c start rise within here low high = record {
      front = [];
      back = all_of cs;
      whole = ap (λ d. listed d ++ all_of cs) (sym here);
      below = tt;
      beyond = above cs start.1 (rises_right (listed x) (all_of cs) rise) (λ k d h. high (suc k) d (omega arith) (omega arith));
      begins = subst (λ d. StartsAt d.first (listed d)) (sym here) start.0;
      rises = subst (λ d. HasRisingIds (listed d)) (sym here) (rises_left (listed x) (all_of cs) rise);
      changed = λ c'. refl;
      start = λ c' s. (s, start.1);
    }
    around (x ∷ cs) (suc m) c start rise within here low high =
        let later = around cs m c start.1 (rises_right (listed x) (all_of cs) rise) (omega arith) here (λ h. low (omega arith))
        (λ k d h g. high (suc k) d (omega arith) (omega arith)) in
        let all : all_of (x ∷ cs) ≡ (listed x ++ later.front) ++ (listed c ++ later.back) =
        ap (λ l. listed x ++ l) later.whole ∙ sym (append_assoc (listed x) later.front (listed c ++ later.back)) in record {
          front = listed x ++ later.front;
          back = later.back;
          whole = all;
          below = below_weaker c.first q (listed x ++ later.front) (low (omega arith))
              (below_start c.first (listed x ++ later.front) (listed c) later.back later.begins (subst (λ l. HasRisingIds l) all rise));
          beyond = later.beyond;
          begins = later.begins;
          rises = later.rises;
          changed = λ c'. ap (λ l. listed x ++ l) (later.changed c') ∙ sym (append_assoc (listed x) later.front (listed c' ++ later.back));
          start = λ c' s. (start.0, later.start c' s);
        }

    -- the chunk that a search among the first ids tells
    module _ (cs : List (Chunk X)) (sound : AreSound cs) (n : ℕ) (parts : IsPartitionPoint (λ c. leb c.first q ≡ true) (λ c. leb c.first q ≡ false) cs n) where
      high_by : (k : ℕ) (d : Chunk X) → n ≤ k → k < length cs → q < (get_or cs k d).first
      high_by k d h g = leb-false (get_or cs k d).first q (parts.1 k d h g)

      pub none_begun : n ≡ 0 → find q (all_of cs) ≡ None
      none_begun first =
          none_from q (q + 1) (all_of cs) (omega arith) (above cs sound.start sound.rise (λ k d h. high_by k d (omega arith) h))

      pub here : (m : ℕ) (c : Chunk X) → m ≡ n - 1 → n ≤ length cs → 0 < length cs → c ≡ get_or cs m c → Around cs m c
      here m c last within some is =
          around cs m c sound.start sound.rise (omega arith) is
          (λ h. subst (λ d. d.first ≤ q) (sym is) (leb-true (get_or cs m c).first q (parts.0 m c (omega arith) (omega arith))))
          (λ k d h g. high_by k d (omega arith) g)

    module _ (cs : List (Chunk X)) (m : ℕ) (c : Chunk X) (at : Around cs m c) where
      pub found_there : find q (all_of cs) ≡ find q (listed c)
      found_there =
          ap (find q) at.whole ∙ find-right q at.front (listed c ++ at.back) (none_below q q at.front (omega arith) at.below)
          ∙ find-left q (listed c) at.back (none_from q (q + 1) at.back (omega arith) at.beyond)

      pub put_there : (c' : Chunk X) (v : X) → listed c' ≡ insert_entry nat_cmp (listed c) q v → all_of (set cs m c') ≡ insert_entry nat_cmp (all_of cs) q v
      put_there c' v is =
          at.changed c' ∙ ap (λ l. at.front ++ (l ++ at.back)) is
          ∙ sym (ap (λ l. insert_entry nat_cmp l q v) at.whole ∙ change-right q (Some v) at.front (listed c ++ at.back) at.below
          ∙ ap (λ l. at.front ++ l) (change-left q (q + 1) (Some v) (listed c) at.back (omega arith) at.beyond))

      pub put_sound : (c' : Chunk X) (v : X) → AreSound cs → listed c' ≡ insert_entry nat_cmp (listed c) q v → StartsAt c'.first (listed c')
          → AreSound (set cs m c')
      put_sound c' v sound is starts = record {
        start = at.start c' starts;
        rise = subst HasRisingIds (sym (put_there c' v is)) (rises-insert (all_of cs) q v sound.rise);
      }

  starts_set : (m p : ℕ) (es : List (ℕ × X)) (k : ℕ) (v : X) (d : ℕ × X) → p < length es → k ≡ (get_or es p d).0 → StartsAt m es
      → StartsAt m (set es p (k, v))
  starts_set m p [] k v d within same starts = absurd (omega arith)
  starts_set m zero (e ∷ es) k v d within same starts = starts ∙ sym same
  starts_set m (suc p) (e ∷ es) k v d within same starts = starts

  -- the chunk in which a value stands
  module _ (id : ℕ) (cs : List (Chunk X)) (sound : AreSound cs) (m p : ℕ) (at : IsAt id cs m p) (c : Chunk X) (is : c ≡ get_or cs m c) where
    around_found : Around id cs m c
    around_found = let within = at.chunk in here id cs sound (m + 1) at.begun m c (omega arith) (omega (arith, within)) (omega (arith, within)) is

    pub value_found : (e : ℕ × X) → find id (all_of cs) ≡ Some (get_or (listed c) p e).1
    value_found e = found_there id cs m c around_found ∙ lookup_found (listed c) id p e around_found.rises (at.place c is) (at.here c is)

    pub changed_there : (c' : Chunk X) (e : ℕ × X) (v : X) → e ≡ get_or (listed c) p e → c'.first ≡ c.first → listed c' ≡ set (listed c) p (e.0, v)
        → (all_of (set cs m c') ≡ insert_entry nat_cmp (all_of cs) id v) × AreSound (set cs m c')
    changed_there c' e v e_is first put =
        let a = around_found in
        let key : e.0 ≡ (get_or (listed c) p e).0 = ap (λ x. x.0) e_is in
        let same : e.0 ≡ id = key ∙ exact_unsigned (get_or (listed c) p e).0 id (at.here c is e) in
        let now = put ∙ ap (λ k. set (listed c) p (k, v)) same ∙ put_found id v (listed c) p a.rises (at.place c is) (at.here c is) in
        let starts = subst (λ l. StartsAt c'.first l) (sym put)
        (subst (λ k. StartsAt k (set (listed c) p (e.0, v))) (sym first) (starts_set c.first p (listed c) e.0 v e (at.place c is) key a.begins)) in
        (put_there id cs m c a c' v now, put_sound id cs m c a c' v sound now starts)

  -- ---- where chunks start

  pub starts_here : (es : List (ℕ × X)) (d : ℕ × X) → 0 < length es → StartsAt (get_or es 0 d).0 es
  starts_here [] d some = absurd (omega arith)
  starts_here (e ∷ es) d some = refl

  starts_take : (m h : ℕ) (es : List (ℕ × X)) → 0 < h → StartsAt m es → StartsAt m (take h es)
  starts_take m zero es some starts = absurd (omega arith)
  starts_take m (suc h) [] some starts = absurd starts
  starts_take m (suc h) (e ∷ es) some starts = starts

  -- ---- one chunk more

  pub one_more : (cs : List (Chunk X)) (i : ℕ) (c : Chunk X) → i < length cs → c ≡ get_or cs i c → all_of (take (i + 1) cs) ≡ all_of (take i cs) ++ listed c
  one_more cs i c within here =
      ap all_of (take_more cs i c within) ∙ flat_map-append listed (take i cs) (get_or cs i c ∷ [])
      ∙ ap (λ l. all_of (take i cs) ++ l) (append-nil (listed (get_or cs i c)) ∙ sym (ap listed here))

  -- ---- no chunk, and one

  pub none_sound : AreSound {X = X} []
  unfolding IsStrictlySortedBy
  none_sound = record { start = tt; rise = tt }

  one_rises : (id : ℕ) (v : X) → HasRisingIds ((id, v) ∷ [])
  unfolding IsStrictlySortedBy
  one_rises id v = (tt, tt)

  pub one_sound : (c : Chunk X) (id : ℕ) (v : X) → c.first ≡ id → listed c ≡ (id, v) ∷ [] → AreSound (c ∷ [])
  one_sound c id v first is = record {
    start = (subst (StartsAt c.first) (sym is) first, tt);
    rise = subst HasRisingIds (sym (append-nil (listed c) ∙ is)) (one_rises id v);
  }

  -- ---- two chunks of one

  module _ (cs : List (Chunk X)) (sound : AreSound cs) (m : ℕ) (within : m < length cs) (c c1 c2 : Chunk X) (here : c ≡ get_or cs m c) (h : ℕ) (some : 0 < h)
      (first : c1.first ≡ c.first) (front : listed c1 ≡ take h (listed c)) (back : listed c2 ≡ drop h (listed c)) (starts : StartsAt c2.first (listed c2)) where
    joined : listed c1 ++ listed c2 ≡ listed c
    joined = ap (λ l. l ++ listed c2) front ∙ ap (λ l. take h (listed c) ++ l) back ∙ take-append-drop h (listed c)

    cut_all : (xs : List (Chunk X)) (n : ℕ) → n < length xs → c ≡ get_or xs n c → all_of (insert (set xs n c1) (suc n) c2) ≡ all_of xs
    cut_all [] n within here = absurd (omega arith)
    cut_all (x ∷ xs) zero within here =
        sym (append_assoc (listed c1) (listed c2) (all_of xs)) ∙ ap (λ l. l ++ all_of xs) joined ∙ ap (λ d. listed d ++ all_of xs) here
    cut_all (x ∷ xs) (suc n) within here = ap (λ l. listed x ++ l) (cut_all xs n (omega arith) here)

    cut_start : (xs : List (Chunk X)) (n : ℕ) → n < length xs → c ≡ get_or xs n c → Start xs → Start (insert (set xs n c1) (suc n) c2)
    cut_start [] n within here start = absurd (omega arith)
    cut_start (x ∷ xs) zero within here start =
        let old = subst (λ d. StartsAt d.first (listed d)) (sym here) start.0 in
        let new = subst (StartsAt c1.first) (sym front)
        (subst (λ k. StartsAt k (take h (listed c))) (sym first) (starts_take c.first h (listed c) some old)) in
        (new, (starts, start.1))
    cut_start (x ∷ xs) (suc n) within here start = (start.0, cut_start xs n (omega arith) here start.1)

    next : suc m ≡ m + 1
    next = omega arith

    pub cut_is : all_of (insert (set cs m c1) (m + 1) c2) ≡ all_of cs
    cut_is = sym (ap (λ k. all_of (insert (set cs m c1) k c2)) next) ∙ cut_all cs m within here

    pub cut_sound : AreSound (insert (set cs m c1) (m + 1) c2)
    cut_sound = record {
      start = subst (λ k. Start (insert (set cs m c1) k c2)) next (cut_start cs m within here sound.start);
      rise = subst HasRisingIds (sym cut_is) sound.rise;
    }
