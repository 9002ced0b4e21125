-- The targets at which two bundles differ, found one after another, and what tells entries apart.
use Rattle.std.proofs.Common.{◌≡◌, ℕ, ◌==◌, ◌||◌, ◌⊎◌, Bool, true, false, List, [], ◌∷◌, ◌++◌, map, length, Option}
use Rattle.std.proofs.Common.{None, Some, refl, sym, ap, ◌∙◌, subst, inl, inr, append_assoc, true≢false, eqb-true}
use Rattle.std.specs.Prelude.{◌↔◌}
use Rattle.std.specs.List.{AllByRecursion}
use Rattle.std.specs.List.Sorted.{IsStrictlySortedBy}
use Rattle.std.specs.Option.{unwrap_or}
use Rattle.std.specs.Ordering.{nat_cmp}
use Rattle.std.specs.declared.cmp.Ordering.TheVariants.{Less}
use Rattle.std.proofs.lemmas.List.{append-nil}
use Rattle.std.proofs.Math.Bool.{or-false, or_assoc}
use Rattle.std.proofs.lemmas.Bool.{or_cases}
use Rattle.pg_map.specs.Entries.{value_at}
use Rattle.pg_model.specs.Superstep.{has_id, is_empty}
use Rattle.pg_inbox_messages.specs.declared.message_list.Contents.{Contents}
use Rattle.pg_inbox_bundles.specs.Bundles.{Entry, MessageLists, each_entry, entries_of}
use Rattle.pg_inbox_bundles.specs.Changed.{AreChanged, AreSameAt, DifferAt, IsAdded}

has_id-push : (ids : List ℕ) (id q : ℕ) → has_id (ids ++ id ∷ []) q ≡ (has_id ids q || (id == q))
has_id-push [] id q = or-false (id == q)
has_id-push (i ∷ ids) id q = ap (λ b. (i == q) || b) (has_id-push ids id q) ∙ sym (or_assoc (i == q) (has_id ids q) (id == q))

pub has_id-append : (xs ys : List ℕ) (q : ℕ) → has_id (xs ++ ys) q ≡ (has_id xs q || has_id ys q)
has_id-append [] ys q = refl
has_id-append (x ∷ xs) ys q = ap (λ b. (x == q) || b) (has_id-append xs ys q) ∙ sym (or_assoc (x == q) (has_id xs q) (has_id ys q))

all-without : (P : ℕ → Type 0) (xs : List ℕ) (y : ℕ) (ys : List ℕ) → AllByRecursion P (xs ++ y ∷ ys) → AllByRecursion P (xs ++ ys)
all-without P [] y ys h = h.1
all-without P (x ∷ xs) y ys h = (h.0, all-without P xs y ys h.1)

rises-without : (xs : List ℕ) (y : ℕ) (ys : List ℕ) → IsStrictlySortedBy nat_cmp (xs ++ y ∷ ys) → IsStrictlySortedBy nat_cmp (xs ++ ys)
unfolding IsStrictlySortedBy
rises-without [] y ys h = h.1
rises-without (x ∷ xs) y ys h = (all-without (λ z. nat_cmp x z ≡ Less) xs y ys h.0, rises-without xs y ys h.1)

pub rises-more : {M : Type 0} (old new : Option (Contents M)) (found found' rest : List ℕ) (id : ℕ)
    → IsStrictlySortedBy nat_cmp (found ++ id ∷ rest) → IsAdded id old new found found' → IsStrictlySortedBy nat_cmp (found' ++ rest)
rises-more old new found found' rest id rise (inl same) = subst (λ l. IsStrictlySortedBy nat_cmp (l ++ rest)) (sym same.1) (rises-without found id rest rise)
rises-more old new found found' rest id rise (inr differ) =
    subst (IsStrictlySortedBy nat_cmp) (sym (ap (λ l. l ++ rest) differ.1 ∙ append_assoc found (id ∷ []) rest)) rise

module _ {M : Type 0} (old new : MessageLists M) where
  -- where the bundles differ at each id found, and at no other that was looked at
  abbrev pub AreFoundChanges : List ℕ → List ℕ → Type 0
  AreFoundChanges found seen =
      (q : ℕ) → (has_id found q ≡ true → DifferAt old new q) × (has_id found q ≡ false → has_id seen q ≡ true → AreSameAt old new q)

  pub stated-more : (found found' seen : List ℕ) (id : ℕ) → AreFoundChanges found seen
      → IsAdded id (value_at id old) (value_at id new) found found' → AreFoundChanges found' (seen ++ id ∷ [])
  stated-more found found' seen id so_far (inl same) q = (
    λ h. (so_far q).0 (sym (ap (λ l. has_id l q) same.1) ∙ h),
    λ other h. by (sym (ap (λ l. has_id l q) same.1) ∙ other) (or_cases (has_id seen q) (id == q) (sym (has_id-push seen id q) ∙ h)),
  )
    where
      by : has_id found q ≡ false → (has_id seen q ≡ true) ⊎ ((id == q) ≡ true) → AreSameAt old new q
      by other (inl k) = (so_far q).1 other k
      by other (inr k) = subst (AreSameAt old new) (eqb-true id q k) same.0
  stated-more found found' seen id so_far (inr differ) q = (
    λ h. by (or_cases (has_id found q) (id == q) (sym more ∙ h)),
    λ other h. back (has_id found q) refl (sym more ∙ other) (or_cases (has_id seen q) (id == q) (sym (has_id-push seen id q) ∙ h)),
  )
    where
      more : has_id found' q ≡ (has_id found q || (id == q))
      more = ap (λ l. has_id l q) differ.1 ∙ has_id-push found id q

      by : (has_id found q ≡ true) ⊎ ((id == q) ≡ true) → DifferAt old new q
      by (inl k) = (so_far q).0 k
      by (inr k) = subst (DifferAt old new) (eqb-true id q k) differ.0

      back : (b : Bool) → has_id found q ≡ b → (b || (id == q)) ≡ false → (has_id seen q ≡ true) ⊎ ((id == q) ≡ true) → AreSameAt old new q
      back true e other seen = absurd (true≢false other)
      back false e other (inl k) = (so_far q).1 e k
      back false e other (inr k) = absurd (true≢false (sym k ∙ other))

  pub changed_all : (ids found : List ℕ) → ((id : ℕ) → has_id ids id ≡ false → AreSameAt old new id) → IsStrictlySortedBy nat_cmp (found ++ [])
      → AreFoundChanges found ids → AreChanged old new found
  changed_all ids found elsewhere rise stated = record {
    rise = subst (IsStrictlySortedBy nat_cmp) (append-nil found) rise;
    differ = λ id. (stated id).0;
    others = λ id other. by id other (has_id ids id) refl;
  }
    where
      by : (id : ℕ) → has_id found id ≡ false → (b : Bool) → has_id ids id ≡ b → AreSameAt old new id
      by id other true e = (stated id).1 other e
      by id other false e = elsewhere id e

-- ---- entries tell what they are made of

module _ {M : Type 0} (target : ℕ) where
  abbrev seen_in : Option M → List (ℕ × M) → List (Entry M)
  seen_in folded envelopes = elim folded [
    | None ↦ each_entry target envelopes
    | Some m ↦ record { target = target; from = None; message = m; count = length envelopes } ∷ []
  ]

  pub envelope_of : Entry M → ℕ × M
  envelope_of e = (unwrap_or e.from 0, e.message)

  pub envelopes_back : (l : List (ℕ × M)) → map envelope_of (each_entry target l) ≡ l
  unfolding envelope_of
  envelopes_back [] = refl
  envelopes_back (x ∷ l) = ap (λ k. x ∷ k) (envelopes_back l)

  pub same_by_envelopes : (a b : Contents M) → a.folded ≡ None → b.folded ≡ None → (a.envelopes ≡ b.envelopes) ↔ (entries_of target a ≡ entries_of target b)
  same_by_envelopes a b p q =
      let at_a : entries_of target a ≡ each_entry target a.envelopes = ap (λ f. seen_in f a.envelopes) p in
      let at_b : entries_of target b ≡ each_entry target b.envelopes = ap (λ f. seen_in f b.envelopes) q in (
        (λ h. at_a ∙ (ap (each_entry target) h ∙ sym at_b)),
        λ h. sym (envelopes_back a.envelopes) ∙ (ap (map envelope_of) (sym at_a ∙ (h ∙ at_b)) ∙ envelopes_back b.envelopes),
      )

  first_from : List (Entry M) → Option ℕ
  first_from [] = None
  first_from (e ∷ es) = e.from

  not_folded : (m : M) (n : ℕ) (l : List (ℕ × M)) → is_empty l ≡ false
      → record { target = target; from = None; message = m; count = n } ∷ [] ≡ each_entry target l → ⊥
  unfolding first_from
  not_folded m n [] some h = absurd cc
  not_folded m n (x ∷ l) some h = let k : None ≡ Some x.0 = ap first_from h in absurd cc

  pub fold_apart : (a b : Contents M) (x : M) → a.folded ≡ Some x → b.folded ≡ None → is_empty b.envelopes ≡ false
      → entries_of target a ≡ entries_of target b → ⊥
  fold_apart a b x p q some h =
      not_folded x (length a.envelopes) b.envelopes some (sym (ap (λ f. seen_in f a.envelopes) p) ∙ (h ∙ ap (λ f. seen_in f b.envelopes) q))
