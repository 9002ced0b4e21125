-- Message lists of two bundles by rising target, gone through side by side.
use Rattle.std.proofs.Common.{◌≡◌, ℕ, zero, suc, ◌+◌, ◌<◌, ◌≤◌, ◌==◌, ◌||◌, Bool, true, false, cond, List, [], ◌∷◌, ◌++◌, length, take, drop, slice_get, get_or}
use Rattle.std.proofs.Common.{Option, None, Some, refl, sym, ap, ap₂, ◌∙◌, subst, subst₂, inl, inr, eqb, eqb-true, ltb, is_lt, is_some, append_assoc}
use Rattle.std.proofs.Common.{⊎_elim, arith}
use Rattle.std.specs.Int.{from_bool}
use Rattle.std.specs.List.{All, AllByRecursion}
use Rattle.std.specs.List.Sorted.{IsStrictlySortedBy}
use Rattle.std.specs.Map.{values_of}
use Rattle.std.specs.Ordering.{nat_cmp, ord_min}
use Rattle.std.specs.BTreeMap.{is_at}
use Rattle.std.specs.Option.{option_map}
use Rattle.std.specs.declared.cmp.Ordering.TheVariants.{Less}
use Rattle.std.proofs.lemmas.Bool.{cases_eq, cases_lt, true≢false, or_cases, or_parts}
use Rattle.std.proofs.lemmas.Bool.Decides.{nat_tests}
use Rattle.std.proofs.lemmas.List.{append-nil, drop-drop, drop-map, take-append-drop}
use Rattle.std.proofs.lemmas.List.Elements.{All-drop}
use Rattle.std.proofs.lemmas.Map.Entries.{lookup_head, lookup_tail}
use Rattle.std.proofs.lemmas.Option.{get_or_from_slice_get, slice_get_within}
use Rattle.std.proofs.Math.Bool.{or-true}
use Rattle.pg_map.specs.Entries.{HasRisingIds, value_at}
use Rattle.pg_map.proofs.Parts.{From, above_first, from_first, from_weaker, is_less, none_from, rises_right}
use Rattle.pg_map.proofs.Rising.{at_other, at_same}
use Rattle.pg_model.specs.Superstep.{has_id}
use Rattle.pg_inbox_messages.specs.Contents.{Holds}
use Rattle.pg_inbox_messages.specs.declared.message_list.Contents.{Contents}
use Rattle.pg_inbox_bundles.specs.Bundles.{MessageLists, entries_in}
use Rattle.pg_inbox_bundles.specs.Changed.{AreChanged, AreSameAt, IsAdded, lower}
use Rattle.pg_inbox_bundles.specs.Holding.{HoldAll, HoldsAt}
use Rattle.pg_inbox_bundles.proofs.Held.{holds_at}

-- ---- one list

module _ {X : Type 0} where
  rises_from : (place : ℕ) (entries : List (ℕ × X)) → HasRisingIds entries → HasRisingIds (drop place entries)
  rises_from place entries rise = rises_right (take place entries) (drop place entries) (subst HasRisingIds (sym (take-append-drop place entries)) rise)

  -- the entry at a place is the first of those from there on
  first_from : (place : ℕ) (entries : List (ℕ × X)) → slice_get (drop place entries) 0 ≡ slice_get entries place
  first_from zero entries = refl
  first_from (suc place) [] = refl
  first_from (suc place) (e ∷ es) = first_from place es

  -- what is left of entries, none of them below an id, without what is at it
  record IsPast (id : ℕ) (entries later : List (ℕ × X)) : Type 0 where
    above : From (id + 1) later
    same : (q : ℕ) → id < q → value_at q later ≡ value_at q entries

  -- entries without the first, where something is found there
  abbrev remaining : Option X → List (ℕ × X) → List (ℕ × X)
  remaining found entries = drop (from_bool (is_some found)) entries

  module _ (id : ℕ) where
    found_first : (e : ℕ × X) (es : List (ℕ × X)) → id ≡ e.0 → value_at id (e ∷ es) ≡ Some e.1
    found_first e es same = lookup_head (is_at (nat_cmp id)) e es (ap (is_at (nat_cmp id)) (sym same) ∙ at_same id)

    above_apart : (e : ℕ × X) (es : List (ℕ × X)) → HasRisingIds (e ∷ es) → From id (e ∷ es) → (id ≡ e.0 → ⊥) → From (id + 1) (e ∷ es)
    above_apart e es rise from apart = from_weaker (id + 1) e.0 (e ∷ es) (omega (arith, from.0, apart)) (from_first e es rise)

    past : (entries : List (ℕ × X)) → HasRisingIds entries → From id entries → IsPast id entries (remaining (value_at id entries) entries)
    past [] rise from = record { above = tt; same = λ q h. refl }
    past (e ∷ es) rise from = ⊎_elim here there (cases_eq id e.0)
      where
        here : id ≡ e.0 → IsPast id (e ∷ es) (remaining (value_at id (e ∷ es)) (e ∷ es))
        here same = subst (λ o. IsPast id (e ∷ es) (remaining o (e ∷ es))) (sym (found_first e es same)) (record {
          above = subst (λ k. From (k + 1) es) (sym same) (above_first e es rise);
          same = λ q h. sym (lookup_tail (is_at (nat_cmp q)) e es (at_other q e.0 (λ at. omega (arith, at, same, h))));
        })

        there : (id ≡ e.0 → ⊥) → IsPast id (e ∷ es) (remaining (value_at id (e ∷ es)) (e ∷ es))
        there apart =
            let above = above_apart e es rise from apart in
            subst (λ o. IsPast id (e ∷ es) (remaining o (e ∷ es))) (sym (none_from id (id + 1) (e ∷ es) (omega arith) above))
            (record { above = above; same = λ q h. refl })

    -- where the first of them isn't at it, none is
    absent : (entries : List (ℕ × X)) → HasRisingIds entries → From id entries → ((e : ℕ × X) → slice_get entries 0 ≡ Some e → id ≡ e.0 → ⊥)
        → value_at id entries ≡ None
    absent [] rise from apart = refl
    absent (e ∷ es) rise from apart = none_from id (id + 1) (e ∷ es) (omega arith) (above_apart e es rise from (apart e refl))

    pub absent_from : (place : ℕ) (entries : List (ℕ × X)) → HasRisingIds entries → From id (drop place entries)
        → ((e : ℕ × X) → slice_get entries place ≡ Some e → id ≡ e.0 → ⊥) → value_at id (drop place entries) ≡ None
    absent_from place entries rise from apart =
        absent (drop place entries) (rises_from place entries rise) from (λ e is. apart e (sym (first_from place entries) ∙ is))

    pub other_there : (place : ℕ) (entries : List (ℕ × X)) {x : ℕ × X} → x ≡ get_or entries place x → false ≡ eqb x.0 id → (e : ℕ × X)
        → slice_get entries place ≡ Some e → id ≡ e.0 → ⊥
    other_there place entries {x} at other e is same =
        let here : x.0 ≡ e.0 = ap (λ y. y.0) (at ∙ get_or_from_slice_get entries place e x is) in
        absurd (grind (arith, nat_tests))

    pub none_there : (place : ℕ) (entries : List (ℕ × X)) → false ≡ ltb place (length entries) → (e : ℕ × X) → slice_get entries place ≡ Some e → id ≡ e.0 → ⊥
    none_there place entries past e is same = let within = slice_get_within entries place e is in absurd (grind (arith, nat_tests))

  -- ---- how many are past it

  -- as many as were found
  pub counted : {Y : Type 0} (f : Y → X) (given : Option Y) {found : Option X} {is_given : Bool} {count : ℕ} → option_map f given ≡ found
      → is_given ≡ is_some given → count ≡ from_bool is_given → count ≡ from_bool (is_some found)
  counted f given {found} same is counts = counts ∙ ap from_bool (is ∙ by given ∙ ap is_some same)
    where
      by : (o : Option _) → is_some o ≡ is_some (option_map f o)
      by None = refl
      by (Some y) = refl

  module _ (id place count : ℕ) (entries : List (ℕ × X)) (is : count ≡ from_bool (is_some (value_at id (drop place entries)))) where
    past_from : HasRisingIds entries → From id (drop place entries) → IsPast id (drop place entries) (drop (place + count) entries)
    past_from rise from =
        subst (IsPast id (drop place entries)) (ap (λ n. drop n (drop place entries)) (sym is) ∙ drop-drop count place entries)
        (past id (drop place entries) (rises_from place entries rise) from)

    fewer : length (drop (place + count) entries) + count ≡ length (drop place entries)
    fewer = ap (λ l. length l + count) (sym (drop-drop count place entries)) ∙ ap (λ n. length (drop n (drop place entries)) + n) is ∙ by (drop place entries)
      where
        by : (es : List (ℕ × X)) → length (remaining (value_at id es) es) + from_bool (is_some (value_at id es)) ≡ length es
        by [] = refl
        by (e ∷ es) = one (is_some (value_at id (e ∷ es)))
          where
            one : (b : Bool) → length (drop (from_bool b) (e ∷ es)) + from_bool b ≡ length (e ∷ es)
            one true = omega arith
            one false = omega arith

-- ---- the lowest id

module _ {X : Type 0} where
  -- no entry is below an id, and one is at it
  pub record IsLowest (id : ℕ) (old new : List (ℕ × X)) : Type 0 where
    pub old_from : From id old
    pub new_from : From id new
    pub one : value_at id old ≡ None → value_at id new ≡ None → ⊥

  abbrev first_id : List (ℕ × X) → Option ℕ
  first_id entries = option_map (λ e. e.0) (slice_get entries 0)

  some_first : (e : ℕ × X) (es : List (ℕ × X)) → value_at e.0 (e ∷ es) ≡ None → ⊥
  some_first e es none = let some : Some e.1 ≡ None = sym (found_first e.0 e es refl) ∙ none in cc

  lowest : (id : ℕ) (old new : List (ℕ × X)) → HasRisingIds old → HasRisingIds new → lower (first_id old) (first_id new) ≡ Some id → IsLowest id old new
  lowest id [] [] rise rise' is = absurd cc
  lowest id (o ∷ old) [] rise rise' is = subst (λ k. IsLowest k (o ∷ old) []) (let same : o.0 ≡ id = cc in same) (record {
    old_from = from_first o old rise;
    new_from = tt;
    one = λ none none'. some_first o old none;
  })
  lowest id [] (n ∷ new) rise rise' is = subst (λ k. IsLowest k [] (n ∷ new)) (let same : n.0 ≡ id = cc in same) (record {
    old_from = tt;
    new_from = from_first n new rise';
    one = λ none none'. some_first n new none';
  })
  lowest id (o ∷ old) (n ∷ new) rise rise' is = by (is_lt (nat_cmp n.0 o.0)) refl (let same : ord_min nat_cmp o.0 n.0 ≡ id = cc in same)
    where
      by : (b : Bool) → is_lt (nat_cmp n.0 o.0) ≡ b → cond b n.0 o.0 ≡ id → IsLowest id (o ∷ old) (n ∷ new)
      by true less same = subst (λ k. IsLowest k (o ∷ old) (n ∷ new)) same (record {
        old_from = from_weaker n.0 o.0 (o ∷ old) (let below : n.0 ≤ o.0 = grind (arith, nat_tests) in below) (from_first o old rise);
        new_from = from_first n new rise';
        one = λ none none'. some_first n new none';
      })
      by false less same = subst (λ k. IsLowest k (o ∷ old) (n ∷ new)) same (record {
        old_from = from_first o old rise;
        new_from = from_weaker o.0 n.0 (n ∷ new) (let below : o.0 ≤ n.0 = grind (arith, nat_tests) in below) (from_first n new rise');
        one = λ none none'. some_first o old none;
      })

  module _ (i j : ℕ) (old new : List (ℕ × X)) where
    firsts : lower (first_id (drop i old)) (first_id (drop j new)) ≡ lower (option_map (λ e. e.0) (slice_get old i)) (option_map (λ e. e.0) (slice_get new j))
    firsts = ap₂ (λ o n. lower (option_map (λ e. e.0) o) (option_map (λ e. e.0) n)) (first_from i old) (first_from j new)

    pub lowest_from : {id : ℕ} {first second next : Option ℕ} → HasRisingIds old → HasRisingIds new → first ≡ option_map (λ e. e.0) (slice_get old i)
        → second ≡ option_map (λ e. e.0) (slice_get new j) → next ≡ lower first second → next ≡ Some id → IsLowest id (drop i old) (drop j new)
    lowest_from {id} rise rise' at at' is found =
        lowest id (drop i old) (drop j new) (rises_from i old rise) (rises_from j new rise') (firsts ∙ sym (is ∙ ap₂ lower at at') ∙ found)

    -- where there is none, all are past
    pub over : {first second next : Option ℕ} → first ≡ option_map (λ e. e.0) (slice_get old i) → second ≡ option_map (λ e. e.0) (slice_get new j)
        → next ≡ lower first second → next ≡ None → (drop i old ≡ []) × (drop j new ≡ [])
    over at at' is none = by (drop i old) (drop j new) (firsts ∙ sym (is ∙ ap₂ lower at at') ∙ none)
      where
        by : (es fs : List (ℕ × X)) → lower (first_id es) (first_id fs) ≡ None → (es ≡ []) × (fs ≡ [])
        by [] [] h = (refl, refl)
        by [] (f ∷ fs) h = absurd cc
        by (e ∷ es) [] h = absurd cc
        by (e ∷ es) (f ∷ fs) h = absurd cc

    pub fewer_left : (id a b : ℕ) → IsLowest id (drop i old) (drop j new) → a ≡ from_bool (is_some (value_at id (drop i old)))
        → b ≡ from_bool (is_some (value_at id (drop j new)))
        → length (drop (i + a) old) + length (drop (j + b) new) < length (drop i old) + length (drop j new)
    fewer_left id a b low is is' =
        omega (arith, fewer id i a old is, fewer id j b new is', some (value_at id (drop i old)) (value_at id (drop j new)) low.one, is, is')
      where
        some : (o n : Option X) → (o ≡ None → n ≡ None → ⊥) → 0 < from_bool (is_some o) + from_bool (is_some n)
        some None None one = absurd (one refl refl)
        some None (Some n) one = omega arith
        some (Some o) None one = omega arith
        some (Some o) (Some n) one = omega arith

-- ---- where they differ

-- what holds of each id that is among these holds of all
all_among : (P : ℕ → Type 0) (ids : List ℕ) → ((q : ℕ) → has_id ids q ≡ true → P q) → AllByRecursion P ids
all_among P [] each = tt
all_among P (id ∷ ids) each = (
  each id (ap (λ b. b || has_id ids id) (let same : (id == id) ≡ true = grind (arith, nat_tests) in same)),
  all_among P ids (λ q among. each q (ap (λ b. (id == q) || b) among ∙ or-true (id == q))),
)

module _ {M : Type 0} (id : ℕ) (old new old_later new_later : MessageLists M) (low : IsLowest id old new) (old_past : IsPast id old old_later)
    (new_past : IsPast id new new_later) where
  none_past : (q : ℕ) → q ≤ id → AreSameAt old_later new_later q
  none_past q below =
      ap (entries_in q) (none_from q (id + 1) old_later (omega arith) old_past.above ∙ sym (none_from q (id + 1) new_later (omega arith) new_past.above))

  same_past : (q : ℕ) → AreSameAt old new q → AreSameAt old_later new_later q
  same_past q same = ⊎_elim
      (λ (above : id < q). ap (entries_in q) (old_past.same q above) ∙ same ∙ ap (entries_in q) (sym (new_past.same q above)))
      (none_past q)
      (cases_lt id q)

  same_before : (q : ℕ) → (q ≡ id → AreSameAt old new id) → AreSameAt old_later new_later q → AreSameAt old new q
  same_before q here same = ⊎_elim
      (λ (above : id < q). ap (entries_in q) (sym (old_past.same q above)) ∙ same ∙ ap (entries_in q) (new_past.same q above))
      (λ (below : q ≤ id). ⊎_elim
      (λ (at : q ≡ id). subst (AreSameAt old new) (sym at) (here at))
      (λ (apart : q ≡ id → ⊥). ap (entries_in q) (none_from q id old (omega (arith, below, apart)) low.old_from
      ∙ sym (none_from q id new (omega (arith, below, apart)) low.new_from)))
      (cases_eq q id))
      (cases_lt id q)

  changed_past : (ids : List ℕ) → AreChanged old_later new_later ids → (q : ℕ) → has_id ids q ≡ true → nat_cmp id q ≡ Less
  changed_past ids changed q among = ⊎_elim (is_less id q) (λ (below : q ≤ id). absurd (changed.differ q among (none_past q below))) (cases_lt id q)

  -- they differ where the rests do, and at the id if it is added
  turn : (found found' ids : List ℕ) → IsAdded id (value_at id old) (value_at id new) found found' → AreChanged old_later new_later ids
      → (more : List ℕ) × (found ++ more ≡ found' ++ ids) × AreChanged old new more
  unfolding IsStrictlySortedBy
  turn found found' ids (inl same) changed = (
    ids,
    ap (λ l. l ++ ids) (sym same.1),
    record {
      rise = changed.rise;
      differ = λ q among here. changed.differ q among (same_past q here);
      others = λ q other. same_before q (λ at. same.0) (changed.others q other);
    },
  )
  turn found found' ids (inr differ) changed = (
    id ∷ ids,
    sym (ap (λ l. l ++ ids) differ.1 ∙ append_assoc found (id ∷ []) ids),
    record {
      rise = (all_among (λ q. nat_cmp id q ≡ Less) ids (changed_past ids changed), changed.rise);
      differ = λ q among here. ⊎_elim
          (λ (at : (id == q) ≡ true). differ.0 (subst (AreSameAt old new) (sym (eqb-true id q at)) here))
          (λ (past : has_id ids q ≡ true). changed.differ q past (same_past q here))
          (or_cases (id == q) (has_id ids q) among);
      others = λ q other.
          let parts = or_parts (id == q) (has_id ids q) other in
          same_before q (λ at. absurd (true≢false (let same : (id == q) ≡ true = grind (arith, nat_tests) in sym same ∙ parts.0))) (changed.others q parts.1);
    },
  )

module _ {M : Type 0} (is_value : M → Type 0) where
  pub held_from : (id place : ℕ) (message_lists : MessageLists M) {found : Option (Contents M)} → HoldAll is_value message_lists
      → found ≡ value_at id (drop place message_lists) → HoldsAt is_value found
  held_from id place message_lists hold is =
      subst (HoldsAt is_value) (sym is) (holds_at is_value id (drop place message_lists)
      (subst (All (Holds is_value)) (drop-map (λ p. p.1) place message_lists) (All-drop (Holds is_value) place (values_of message_lists) hold)))

module _ {M : Type 0} (old new : MessageLists M) where
  -- what is found, with just the ids at which the rests differ, is just the ids at which all differ
  abbrev pub AreFoundBefore : MessageLists M → MessageLists M → List ℕ → Type 0
  AreFoundBefore old_left new_left found = (ids : List ℕ) → AreChanged old_left new_left ids → AreChanged old new (found ++ ids)

  pub found_more : (i j id a b : ℕ) (found found' : List ℕ) {before after : Option (Contents M)} → HasRisingIds old → HasRisingIds new
      → AreFoundBefore (drop i old) (drop j new) found → IsLowest id (drop i old) (drop j new)
      → before ≡ value_at id (drop i old) → after ≡ value_at id (drop j new)
      → a ≡ from_bool (is_some (value_at id (drop i old))) → b ≡ from_bool (is_some (value_at id (drop j new)))
      → IsAdded id before after found found' → AreFoundBefore (drop (i + a) old) (drop (j + b) new) found'
  found_more i j id a b found found' rise rise' so_far low at at' is is' added ids changed =
      let more = turn id (drop i old) (drop j new) (drop (i + a) old) (drop (j + b) new) low (past_from id i a old is rise low.old_from)
      (past_from id j b new is' rise' low.new_from) found found' ids (subst₂ (λ o n. IsAdded id o n found found') at at' added) changed in
      subst (AreChanged old new) more.1 (so_far more.0 more.2)

  pub found_all : (i j : ℕ) (found : List ℕ) → AreFoundBefore (drop i old) (drop j new) found → (drop i old ≡ []) × (drop j new ≡ []) → AreChanged old new found
  unfolding IsStrictlySortedBy
  found_all i j found so_far over =
      subst (AreChanged old new) (append-nil found) (so_far [] (subst₂ (λ o n. AreChanged o n []) (sym over.0) (sym over.1) (record {
        rise = tt;
        differ = λ q among. absurd (true≢false (sym among));
        others = λ q other. refl;
      })))
