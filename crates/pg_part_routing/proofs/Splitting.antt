-- Items put with the partitions of their targets.
use Rattle.std.proofs.Common.{◌≡◌, ℕ, ◌+◌, append_assoc, flat_map, get_or, take, ◌%◌, ◌==◌, ◌<◌, Bool, true, false, cond, List, [], ◌∷◌, ◌++◌, length, map}
use Rattle.std.proofs.Common.{slice_index_or, slice_set, refl, sym, ap, ◌∙◌, subst, filter, true≢false}
use Rattle.std.proofs.lemmas.Bool.{eqb-true, eq-eqb}
use Rattle.std.proofs.lemmas.List.{append-nil, get_or-set_other, get_or-set_same, map-append}
use Rattle.std.proofs.lemmas.List.Elements.{filter-append}
use Rattle.pg_model.specs.Share.{belongs}
use Rattle.pg_part_routing.specs.Sending.{AreParts, HaveMore, items_to}
use Rattle.pg_part_routing.proofs.Listing.{flat_map-push, one_taken}

module _ {X : Type 0} (n q : ℕ) where
  items_to-push : (before : List (ℕ × X)) (t : ℕ) (x : X) → items_to n q (before ++ (t, x) ∷ []) ≡ items_to n q before ++ cond (t % n == q) (x ∷ []) []
  items_to-push before t x =
      ap (map (λ (i : ℕ × X). i.1)) (filter-append (λ (i : ℕ × X). belongs n q i.0) before ((t, x) ∷ []))
      ∙ (map-append (λ (i : ℕ × X). i.1) (filter (λ i. belongs n q i.0) before) (filter (λ i. belongs n q i.0) ((t, x) ∷ []))
      ∙ ap (λ l. items_to n q before ++ l) (one (t % n == q)))
    where
      one : (b : Bool) → map (λ (i : ℕ × X). i.1) (cond b ((t, x) ∷ []) []) ≡ cond b (x ∷ []) []
      one true = refl
      one false = refl

  -- an item more, with the partition of its target
  pub item_put : (parts : List (List X)) (place : ℕ) (before : List (ℕ × X)) (t : ℕ) (x : X) (part : List X) → place ≡ t % n → place < length parts
      → part ≡ slice_index_or parts place [] ++ x ∷ [] → slice_index_or parts q [] ≡ items_to n q before
      → slice_index_or (slice_set parts place part) q [] ≡ items_to n q (before ++ (t, x) ∷ [])
  item_put parts place before t x part at within is same = by (t % n == q) refl ∙ sym (items_to-push before t x)
    where
      by : (b : Bool) → (t % n == q) ≡ b → slice_index_or (slice_set parts place part) q [] ≡ items_to n q before ++ cond b (x ∷ []) []
      by true e =
          let here : place ≡ q = at ∙ eqb-true (t % n) q e in
          subst (λ k. slice_index_or (slice_set parts place part) k [] ≡ items_to n q before ++ x ∷ []) here
          (get_or-set_same parts place part [] within ∙ (is ∙ ap (λ l. l ++ x ∷ []) (ap (λ k. slice_index_or parts k []) here ∙ same)))
      by false e =
          get_or-set_other parts place q part [] (λ there. true≢false (sym (eq-eqb (t % n) q (sym at ∙ sym there)) ∙ e))
          ∙ (same ∙ sym (append-nil (items_to n q before)))

module _ {X : Type 0} (n : ℕ) where
  pub have_none : (parts : List (List X)) → HaveMore n [] parts parts
  have_none parts items are q below = are q below ∙ ap (items_to n q) (sym (append-nil items))

  -- items of a list of which one more is put
  pub have_pushed : {Y : Type 0} (f : Y → ℕ × X) (ys : List Y) (i : ℕ) {y : Y} (start before after : List (List X)) → i < length ys
      → y ≡ get_or ys i y → HaveMore n (map f (take i ys)) start before → HaveMore n (f y ∷ []) before after
      → HaveMore n (map f (take (i + 1) ys)) start after
  have_pushed f ys i {y} start before after within is so_far put items are =
      subst (λ l. AreParts n l after)
      (append_assoc items (map f (take i ys)) (f y ∷ [])
      ∙ ap (λ l. items ++ l) (sym (map-append f (take i ys) (y ∷ [])) ∙ ap (map f) (one_taken ys i within is)))
      (put (items ++ map f (take i ys)) (so_far items are))

  -- and of one of which more are put for each element
  pub have_gathered : {Y : Type 0} (f : Y → List (ℕ × X)) (ys : List Y) (i : ℕ) {y : Y} (before after : List (List X)) → i < length ys
      → y ≡ get_or ys i y → AreParts n (flat_map f (take i ys)) before → HaveMore n (f y) before after → AreParts n (flat_map f (take (i + 1) ys)) after
  have_gathered f ys i {y} before after within is so_far more =
      subst (λ l. AreParts n l after) (sym (flat_map-push f (take i ys) y) ∙ ap (flat_map f) (one_taken ys i within is))
      (more (flat_map f (take i ys)) so_far)
