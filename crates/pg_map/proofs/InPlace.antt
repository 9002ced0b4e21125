-- Values put in the place of others.
use Rattle.std.proofs.Common.{◌≡◌, ℕ, zero, suc, ◌<◌, ◌≤◌, List, [], ◌∷◌, length, get_or, slice_set, Option, Some, None, Ordering, true, false, is_some}
use Rattle.std.proofs.Common.{◌==◌, ◌+◌, ◌++◌, take, drop, length-drop, Bor, ◌⊎◌, inl, inr, Bool, nat_eq, ltb, refl, sym, ap, ◌∙◌, subst, arith}
use Rattle.std.specs.declared.cmp.Ordering.TheVariants.{Less, Equal, Greater}
use Rattle.std.specs.Ordering.{nat_cmp, match_ordering, is_eq}
use Rattle.std.specs.BTreeMap.{insert_entry, is_at}
use Rattle.std.specs.Map.{keys_of}
use Rattle.std.specs.Cmp.{nat_cmp_total}
use Rattle.std.proofs.lemmas.Map.{lookup-none}
use Rattle.std.proofs.lemmas.Map.Entries.{length-keys_of, lookup_tail, none_below_head}
use Rattle.std.specs.List.Sorted.{IsPartitionPoint}
use Rattle.std.proofs.lemmas.Bool.{cases_eq, eqb-true, ltb-true, true≢false}
use Rattle.std.proofs.lemmas.Bool.Decides.{nat_tests}
use Rattle.std.specs.List.{flat_map}
use Rattle.std.proofs.Math.Seq.{take-append_seam}
use Rattle.pg_map.specs.Chunks.{AreChunks, AreCut, AreGroups, AreParts, AreThere, IsPart, StartsAt, chunks_in, entries_of}
use Rattle.pg_map.specs.Entries.{HasRisingIds, value_at, with_change, with_changes}
use Rattle.std.specs.Option.{option_copied}
use Rattle.std.proofs.lemmas.List.{drop_more, nil_from_length}
use Rattle.std.proofs.lemmas.Option.{get_or_from_slice_get, slice_get_within}
use Rattle.pg_map.specs.declared.part.Node.{Node}
use Rattle.pg_map.proofs.InParts.{part_turn}
use Rattle.pg_map.proofs.Parts.{is_equal, is_greater, rises_after, rises_left, rises_right}
use Rattle.pg_map.proofs.Search.{lookup_past}
use Rattle.pg_map.proofs.Rising.{find-insert_same, find-insert_other, rises-insert}

module _ {X : Type 0} where
  -- the entry at a place, below which all ids are below its own, gets another value
  pub put_at : (es : List (ℕ × X)) (i id : ℕ) (v : X) (d : ℕ × X) → i < length es → ((k : ℕ) → k < i → (get_or es k d).0 < id)
      → (get_or es i d).0 ≡ id → slice_set es i ((get_or es i d).0, v) ≡ insert_entry nat_cmp es id v
  put_at [] i id v d within below here = absurd (omega arith)
  put_at (e ∷ es) zero id v d within below here =
      sym (ap (λ r. match_ordering r ((id, v) ∷ e ∷ es) ((e.0, v) ∷ es) (e ∷ insert_entry nat_cmp es id v)) (ap (λ k. nat_cmp id k) here ∙ is_equal id))
  put_at (e ∷ es) (suc i) id v d within below here =
      ap (λ l. e ∷ l) (put_at es i id v d (omega arith) (λ k h. below (suc k) (omega arith)) here)
      ∙ sym (ap (λ r. match_ordering r ((id, v) ∷ e ∷ es) ((e.0, v) ∷ es) (e ∷ insert_entry nat_cmp es id v)) (is_greater id e.0 (below 0 (omega arith))))

  -- what is there stays there
  pub stays : (changes : List (ℕ × Option X)) (es : List (ℕ × X)) (id : ℕ) (v : X) → AreThere changes es → AreThere changes (insert_entry nat_cmp es id v)
  stays [] es id v there = tt
  stays (c ∷ changes) es id v there = ((there.0.0, by (cases_eq c.0 id)), stays changes es id v there.1)
    where
      by : (c.0 ≡ id) ⊎ (c.0 ≡ id → ⊥) → is_some (value_at c.0 (insert_entry nat_cmp es id v)) ≡ true
      by (inl same) = ap (λ k. is_some (value_at k (insert_entry nat_cmp es id v))) same ∙ ap is_some (find-insert_same es id v)
      by (inr apart) = ap is_some (find-insert_other es id v c.0 apart) ∙ there.0.1

  -- where so many ids are below one that is there, the next is that one
  module _ (es : List (ℕ × X)) (i id : ℕ) (d : ℕ × X) (rise : HasRisingIds es)
      (parts : IsPartitionPoint (λ e. ltb e.0 id ≡ true) (λ e. ltb e.0 id ≡ false) es i) (there : is_some (value_at id es) ≡ true) where
    pub is_here : (get_or es i d).0 ≡ id
    is_here = by (nat_eq (get_or es i d).0 id) refl
      where
        by : (b : Bool) → nat_eq (get_or es i d).0 id ≡ b → (get_or es i d).0 ≡ id
        by true p = eqb-true (get_or es i d).0 id p
        by false p = absurd
            (true≢false (sym there ∙ ap is_some (lookup_past es id i rise parts
            (λ e at. ap (λ x. nat_eq x.0 id) (sym (get_or_from_slice_get es i e d at)) ∙ p))))

    pub is_within : (length es ≤ i → ⊥)
    is_within past = true≢false (sym there ∙ ap is_some (lookup_past es id i rise parts (λ e at. absurd (omega (arith, past, slice_get_within es i e at)))))

    pub put_here : (v : X) → i < length es → slice_set es i ((get_or es i d).0, v) ≡ insert_entry nat_cmp es id v
    put_here v within = put_at es i id v d within (λ k h. ltb-true (get_or es k d).0 id (parts.0 k d (omega arith) h)) is_here

  keys-insert : (es : List (ℕ × X)) (id : ℕ) (v : X) → HasRisingIds es → is_some (value_at id es) ≡ true → keys_of (insert_entry nat_cmp es id v) ≡ keys_of es
  keys-insert [] id v rise there = absurd (true≢false (sym there))
  keys-insert (e ∷ es) id v rise there = by (nat_cmp id e.0) refl (keys-insert es id v (rises_after e es rise))
    where
      by : (r : Ordering) → nat_cmp id e.0 ≡ r → (is_some (value_at id es) ≡ true → keys_of (insert_entry nat_cmp es id v) ≡ keys_of es)
          → keys_of (match_ordering r ((id, v) ∷ e ∷ es) ((e.0, v) ∷ es) (e ∷ insert_entry nat_cmp es id v)) ≡ keys_of (e ∷ es)
      by Less p later = absurd
          (true≢false (sym there ∙ ap is_some (lookup-none (is_at (nat_cmp id)) (e ∷ es) (none_below_head nat_cmp_total id e es rise p))))
      by Equal p later = refl
      by Greater p later = ap (λ l. e.0 ∷ l) (later (sym (ap is_some (lookup_tail (is_at (nat_cmp id)) e es (ap is_eq p))) ∙ there))

  -- values in the place of others leave the ids as they are
  keys_stay : (changes : List (ℕ × Option X)) (es : List (ℕ × X)) → HasRisingIds es → AreThere changes es → keys_of (with_changes changes es) ≡ keys_of es
  keys_stay [] es rise there = refl
  keys_stay (c ∷ changes) es rise there = by c.1 refl (λ v. keys_stay changes (insert_entry nat_cmp es c.0 v))
    where
      by : (o : Option X) → c.1 ≡ o
          → ((v : X) → HasRisingIds (insert_entry nat_cmp es c.0 v) → AreThere changes (insert_entry nat_cmp es c.0 v)
          → keys_of (with_changes changes (insert_entry nat_cmp es c.0 v)) ≡ keys_of (insert_entry nat_cmp es c.0 v))
          → keys_of (with_changes changes (with_change c.0 o es)) ≡ keys_of es
      by None is later = absurd (true≢false (sym there.0.0 ∙ ap is_some is))
      by (Some v) is later = later v (rises-insert es c.0 v rise) (stays changes es c.0 v there.1) ∙ keys-insert es c.0 v rise there.0.1

  part_by_keys : (first count : ℕ) (es es' : List (ℕ × X)) → keys_of es' ≡ keys_of es → IsPart first count es → IsPart first count es'
  part_by_keys first count [] es' keys is = absurd is.0
  part_by_keys first count (e ∷ es) [] keys is = absurd (omega (arith, ap length keys))
  part_by_keys first count (e ∷ es) (f ∷ fs) keys is = (
    is.0 ∙ sym (ap (λ l. get_or l 0 e.0) keys),
    is.1 ∙ sym (length-keys_of (e ∷ es)) ∙ sym (ap length keys) ∙ length-keys_of (f ∷ fs),
  )

  pub part_stays : (first count : ℕ) (changes : List (ℕ × Option X)) (es es' : List (ℕ × X)) → HasRisingIds es → AreThere changes es
      → es' ≡ with_changes changes es → IsPart first count es → IsPart first count es'
  part_stays first count changes es es' rise there made is = part_by_keys first count es es' (ap keys_of made ∙ keys_stay changes es rise there) is

  -- the next change gives a value to an id that is there
  pub there_turn : (changes : List (ℕ × Option X)) (es : List (ℕ × X)) (i : ℕ) (c : ℕ × Option X) → i < length changes → c ≡ get_or changes i c
      → is_some c.1 ≡ true → is_some (value_at c.0 es) ≡ true → (AreThere (drop i changes) es → AreThere changes es)
      → AreThere (drop (i + 1) changes) es → AreThere changes es
  there_turn changes es i c within is gives there so_far later =
      so_far
      (subst (λ l. AreThere l es) (sym (drop_more changes i c within))
      (subst (λ x. (is_some x.1 ≡ true) × (is_some (value_at x.0 es) ≡ true)) is (gives, there), later))

  pub there_over : (changes : List (ℕ × Option X)) (es : List (ℕ × X)) (i : ℕ) → length changes ≤ i → (AreThere (drop i changes) es → AreThere changes es)
      → AreThere changes es
  there_over changes es i past so_far = so_far (subst (λ l. AreThere l es) (sym (nil_from_length (drop i changes) (omega (arith, length-drop i changes)))) tt)

  -- the next value is put
  module _ (todo : List (ℕ × Option X)) (es : List (ℕ × X)) (i : ℕ) (d : ℕ × Option X) (within : i < length todo)
      (there : AreThere (drop i todo) es) where
    next : drop i todo ≡ get_or todo i d ∷ drop (i + 1) todo
    next = drop_more todo i d within

    pub next_there : AreThere (get_or todo i d ∷ drop (i + 1) todo) es
    next_there = subst (λ l. AreThere l es) next there

    pub gives_some : (get_or todo i d).1 ≡ None → ⊥
    gives_some none = true≢false (sym next_there.0.0 ∙ ap is_some none)

    pub put_turn : (todo' : List (ℕ × Option X)) (es' all : List (ℕ × X)) (v : X) → drop (i + 1) todo' ≡ drop (i + 1) todo
        → (get_or todo i d).1 ≡ Some v → es' ≡ insert_entry nat_cmp es (get_or todo i d).0 v → with_changes (drop i todo) es ≡ all → HasRisingIds es
        → (with_changes (drop (i + 1) todo') es' ≡ all) × AreThere (drop (i + 1) todo') es' × HasRisingIds es'
    put_turn todo' es' all v remaining gives put made rise = (
      ap (λ l. with_changes l es') remaining
          ∙ ap (with_changes (drop (i + 1) todo)) (put ∙ sym (ap (λ o. with_change (get_or todo i d).0 o es) gives))
          ∙ sym (ap (λ l. with_changes l es) next)
          ∙ made,
      subst (λ l. AreThere l es') (sym remaining)
          (subst (AreThere (drop (i + 1) todo)) (sym put) (stays (drop (i + 1) todo) es (get_or todo i d).0 v next_there.1)),
      subst HasRisingIds (sym put) (rises-insert es (get_or todo i d).0 v rise),
    )

  pub put_over : (todo changes : List (ℕ × Option X)) (es es₀ : List (ℕ × X)) (i : ℕ) → length todo ≤ i
      → with_changes (drop i todo) es ≡ with_changes changes es₀ → es ≡ with_changes changes es₀
  put_over todo changes es es₀ i past made =
      sym (ap (λ l. with_changes l es) (nil_from_length (drop i todo) (omega (arith, length-drop i todo)))) ∙ made

pub copied_some : {Y : Type 0} (r : Option (Bor Y)) → is_some r ≡ true → is_some (option_copied r) ≡ true
copied_some None some = some
copied_some (Some x) some = refl

-- the first of some parts and the others, with the changes that fall into each
module _ {X T : Type 0} (listed : Node T → List (ℕ × X)) (all : List (Node T)) (c : Node T) (cs : List (Node T)) (at : all ≡ c ∷ cs)
    (are : AreParts listed all) (rise : HasRisingIds (flat_map listed all)) where
  pub first_is : IsPart c.first c.count (listed c)
  first_is = (subst (AreParts listed) at are).0

  pub others_are : AreParts listed cs
  others_are = (subst (AreParts listed) at are).1

  pub first_rises : HasRisingIds (listed c)
  first_rises = rises_left (listed c) (flat_map listed cs) (subst (λ l. HasRisingIds (flat_map listed l)) at rise)

  pub others_rise : HasRisingIds (flat_map listed cs)
  others_rise = rises_right (listed c) (flat_map listed cs) (subst (λ l. HasRisingIds (flat_map listed l)) at rise)

  module _ (todo here later : List (ℕ × Option X)) (n : ℕ) (parts : todo ≡ here ++ later) (front : here ≡ take n todo) (back : later ≡ drop n todo)
      (cut : AreCut cs (take n todo) (drop n todo)) where
    pub both_made : (a b : List (ℕ × X)) → a ≡ with_changes here (listed c) → b ≡ with_changes later (flat_map listed cs)
        → a ++ b ≡ with_changes todo (flat_map listed all)
    both_made a b first others =
        ap (λ l. a ++ l) others ∙ part_turn listed [] a all cs c todo here later n at parts front back are rise cut first

    -- none of them falls into the first
    pub others_made : (b : List (ℕ × X)) → length here ≡ 0 → b ≡ with_changes later (flat_map listed cs)
        → listed c ++ b ≡ with_changes todo (flat_map listed all)
    others_made b none others = both_made (listed c) b (sym (ap (λ l. with_changes l (listed c)) (nil_from_length here none))) others

-- the first of some groups and the others
module _ {X : Type 0} (all : List (Node (Node (ℕ × X)))) (c : Node (Node (ℕ × X))) (cs : List (Node (Node (ℕ × X)))) (at : all ≡ c ∷ cs)
    (are : AreGroups all) where
  pub first_chunks : AreChunks (chunks_in c)
  first_chunks = (subst AreGroups at are).1.0

  pub others_groups : AreGroups cs
  others_groups = let parts = subst AreGroups at are in (parts.0.1, parts.1.1)

  pub some_chunks : 0 < length (chunks_in c)
  some_chunks = by (chunks_in c) (subst AreGroups at are).0.0.0
    where
      by : (chunks : List (Node (ℕ × X))) → StartsAt c.first (entries_of chunks) → 0 < length chunks
      by [] starts = absurd starts
      by (x ∷ xs) starts = omega arith

-- a list that was written over by one as long
pub written : {Y : Type 0} (new old : List Y) (n : ℕ) → n ≡ length new → take n (new ++ drop (length new) old) ≡ new
written new old n same = ap (λ k. take k (new ++ drop (length new) old)) same ∙ take-append_seam new (drop (length new) old)

pub no_length : (n : ℕ) → true ≡ (n == 0) → n ≡ 0
no_length n h = grind (arith, nat_tests)
