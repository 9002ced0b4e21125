-- Slots of which most have the usual bundle.
use Rattle.std.proofs.Common.{◌≡◌, ℕ, zero, suc, ◌+◌, ◌<◌, ◌≤◌, ◌==◌, Bool, true, false, cond, List, [], ◌∷◌, ◌++◌, length, map, take, get_or}
use Rattle.std.proofs.Common.{Option, None, Some, refl, sym, ap, ◌∙◌, subst, arith, eq-eqb, ltb, ◌⊎◌, inl, inr}
use Rattle.std.specs.List.{range_with_len}
use Rattle.std.proofs.lemmas.Bool.Decides.{nat_tests}
use Rattle.std.proofs.lemmas.List.{get_or_append_left, get_or_push, length-append, length-map, length-take-le, take_more}
use Rattle.pg_model.proofs.LawsLists.{all-append, all_weaker}
use Rattle.pg_inbox.specs.SparseVec.{value_in}
use Rattle.pg_inbox.specs.SentRow.{AreBelow, IsLastAt, last_at, slot_in, slots_in}
use Rattle.pg_inbox_bundles.specs.declared.logged_bundle.LoggedBundle.{LoggedBundle}

module _ {X : Type 0} where
  pub last_at-push : (number : ℕ) (es : List (ℕ × X)) (e : ℕ × X)
      → last_at number (es ++ e ∷ []) ≡ cond (e.0 == number) (Some e.1) (last_at number es)
  last_at-push number [] e = refl
  last_at-push number (d ∷ es) e =
      ap (λ o. elim o [ None ↦ cond (d.0 == number) (Some d.1) None | Some x ↦ Some x ]) (last_at-push number es e) ∙ by (e.0 == number)
    where
      by : (b : Bool) → elim (cond b (Some e.1) (last_at number es)) [ None ↦ cond (d.0 == number) (Some d.1) None | Some x ↦ Some x ]
          ≡ cond b (Some e.1) (elim (last_at number es) [ None ↦ cond (d.0 == number) (Some d.1) None | Some x ↦ Some x ])
      by true = refl
      by false = refl

  pub last_past : (number : ℕ) (es : List (ℕ × X)) → AreBelow number es → last_at number es ≡ None
  last_past number [] below = refl
  last_past number (e ∷ es) below =
      ap (λ o. elim o [ None ↦ cond (e.0 == number) (Some e.1) None | Some x ↦ Some x ]) (last_past number es below.1)
      ∙ ap (λ b. cond b (Some e.1) None) (below_apart e.0 number below.0)
    where
      below_apart : (a b : ℕ) → a < b → (a == b) ≡ false
      below_apart a b h = grind (arith, nat_tests)

module _ {X : Type 0} where
  abbrev IsPlaceOf : ℕ → List (ℕ × X) → ℕ → Type 0
  IsPlaceOf number es p = IsLastAt number es (Some p)

  -- a step of a search for the last entry with a number
  pub last_here : (number : ℕ) (es : List (ℕ × X)) (i : ℕ) (e : ℕ × X) → i < length es → e ≡ get_or es i e → e.0 ≡ number
      → IsLastAt number (take (i + 1) es) (Some i)
  last_here number es i e within is at =
      let xs = take i es in
      let len : length xs ≡ i = length-take-le i es (omega (arith, within)) in
      let more : take (i + 1) es ≡ xs ++ e ∷ [] = take_more es i e within ∙ ap (λ x. xs ++ x ∷ []) (sym is) in
      let longer : length (xs ++ e ∷ []) ≡ length xs + 1 = length-append xs (e ∷ []) in
      let last : last_at number (xs ++ e ∷ []) ≡ Some e.1 =
      last_at-push number xs e ∙ ap (λ b. cond b (Some e.1) (last_at number xs)) (eq-eqb e.0 number at) in
      subst (λ l. IsPlaceOf number l i) (sym more)
      (subst (IsPlaceOf number (xs ++ e ∷ [])) len
      (omega (arith, longer), λ d. last ∙ ap (λ (x : ℕ × X). Some x.1) (sym (get_or_push xs e d (length xs) refl))))

  pub last_still : (number : ℕ) (es : List (ℕ × X)) (i : ℕ) (e : ℕ × X) (found : Option ℕ) → i < length es → e ≡ get_or es i e
      → (e.0 ≡ number → ⊥) → IsLastAt number (take i es) found → IsLastAt number (take (i + 1) es) found
  last_still number es i e found within is apart before =
      let xs = take i es in
      let more : take (i + 1) es ≡ xs ++ e ∷ [] = take_more es i e within ∙ ap (λ x. xs ++ x ∷ []) (sym is) in
      let same : last_at number (xs ++ e ∷ []) ≡ last_at number xs =
      last_at-push number xs e ∙ ap (λ b. cond b (Some e.1) (last_at number xs)) (not_same e.0 number apart) in
      subst (λ l. IsLastAt number l found) (sym more) (by xs same found before)
    where
      not_same : (a b : ℕ) → (a ≡ b → ⊥) → (a == b) ≡ false
      not_same a b h = grind (arith, nat_tests)

      by : (xs : List (ℕ × X)) → last_at number (xs ++ e ∷ []) ≡ last_at number xs → (found : Option ℕ) → IsLastAt number xs found
          → IsLastAt number (xs ++ e ∷ []) found
      by xs same None h = same ∙ h
      by xs same (Some p) h =
          let longer : length (xs ++ e ∷ []) ≡ length xs + 1 = length-append xs (e ∷ []) in
          (omega (arith, longer, h.0), λ d. same ∙ h.1 d ∙ ap (λ (x : ℕ × X). Some x.1) (sym (get_or_append_left xs (e ∷ []) d p h.0)))

module _ {X : Type 0} where
  in_range : (f : ℕ → Option X) (start n q : ℕ) → value_in q (map f (range_with_len start n)) ≡ cond (ltb q n) (f (start + q)) None
  in_range f start zero zero = refl
  in_range f start zero (suc q) = ap (λ b. cond b (f (start + suc q)) None) (sym (never (suc q)))
    where
      never : (q : ℕ) → ltb q 0 ≡ false
      never q = grind (arith, nat_tests)
  in_range f start (suc n) zero =
      let same : start ≡ start + zero = omega arith in
      ap f same ∙ ap (λ b. cond b (f (start + zero)) None) (sym (always n))
    where
      always : (n : ℕ) → ltb zero (suc n) ≡ true
      always n = grind (arith, nat_tests)
  in_range f start (suc n) (suc q) =
      let same : (start + 1) + q ≡ start + suc q = omega arith in
      in_range f (start + 1) n q
      ∙ ap (λ k. cond (ltb q n) (f k) None) same
      ∙ ap (λ b. cond b (f (start + suc q)) None) (sym (sucs q n))
    where
      sucs : (q n : ℕ) → ltb (suc q) (suc n) ≡ ltb q n
      sucs q n = grind (arith, nat_tests)

module _ {M : Type 0} where
  -- what is in a slot
  pub value_in-slots : (count : ℕ) (usual : LoggedBundle M) (others : List (ℕ × Option (LoggedBundle M))) (q : ℕ)
      → value_in q (slots_in count usual others) ≡ cond (ltb q count) (slot_in usual others q) None
  value_in-slots count usual others q =
      let same : 0 + q ≡ q = omega arith in
      in_range (slot_in usual others) 0 count q ∙ ap (λ k. cond (ltb q count) (slot_in usual others k) None) same

  pub length-slots : (count : ℕ) (usual : LoggedBundle M) (others : List (ℕ × Option (LoggedBundle M))) → length (slots_in count usual others) ≡ count
  length-slots count usual others = length-map (range_with_len 0 count) (slot_in usual others) ∙ many 0 count
    where
      many : (start n : ℕ) → length (range_with_len start n) ≡ n
      many start zero = refl
      many start (suc n) = ap suc (many (start + 1) n)

  module _ (usual : LoggedBundle M) (others : List (ℕ × Option (LoggedBundle M))) where
    slot_in-push : (k : ℕ) (o : Option (LoggedBundle M)) (q : ℕ) → slot_in usual (others ++ (k, o) ∷ []) q ≡ cond (k == q) o (slot_in usual others q)
    slot_in-push k o q =
        ap (λ (x : Option (Option (LoggedBundle M))). elim x [ None ↦ Some usual | Some slot ↦ slot ]) (last_at-push q others (k, o)) ∙ by (k == q)
      where
        by : (b : Bool) → elim (cond b (Some o) (last_at q others)) [ None ↦ Some usual | Some slot ↦ slot ] ≡ cond b o (slot_in usual others q)
        by true = refl
        by false = refl

    module _ (count : ℕ) where
      -- ---- what is read

      pub slot_past : (q : ℕ) → count ≤ q → value_in q (slots_in count usual others) ≡ None
      slot_past q past = value_in-slots count usual others q ∙ ap (λ b. cond b (slot_in usual others q) None) (not_below q count past)
        where
          not_below : (q n : ℕ) → n ≤ q → ltb q n ≡ false
          not_below q n h = grind (arith, nat_tests)

      slot_within : (q : ℕ) → q < count → value_in q (slots_in count usual others) ≡ slot_in usual others q
      slot_within q within = value_in-slots count usual others q ∙ ap (λ b. cond b (slot_in usual others q) None) (below q count within)
        where
          below : (q n : ℕ) → q < n → ltb q n ≡ true
          below q n h = grind (arith, nat_tests)

      pub slot_usual : (q : ℕ) → q < count → last_at q others ≡ None → value_in q (slots_in count usual others) ≡ Some usual
      slot_usual q within none =
          slot_within q within ∙ ap (λ (x : Option (Option (LoggedBundle M))). elim x [ None ↦ Some usual | Some slot ↦ slot ]) none

      pub slot_other : (q : ℕ) (slot : Option (LoggedBundle M)) → q < count → last_at q others ≡ Some slot → value_in q (slots_in count usual others) ≡ slot
      slot_other q slot within some =
          slot_within q within ∙ ap (λ (x : Option (Option (LoggedBundle M))). elim x [ None ↦ Some usual | Some slot ↦ slot ]) some

      -- ---- what is put

      module _ (below : AreBelow count others) where
        pub below_more : (m : ℕ) → count ≤ m → AreBelow m others
        below_more m le = all_weaker (λ e. e.0 < count) (λ e. e.0 < m) (λ e h. omega (arith, h, le)) others below

        pub below_push : (m k : ℕ) (o : Option (LoggedBundle M)) → count ≤ m → k < m → AreBelow m (others ++ (k, o) ∷ [])
        below_push m k o le within = all-append (λ e. e.0 < m) others ((k, o) ∷ []) (below_more m le) (within, tt)

        -- one more usual one
        pub put_usual : (q : ℕ)
            → value_in q (slots_in (count + 1) usual others) ≡ cond (count == q) (Some usual) (value_in q (slots_in count usual others))
        put_usual q = by (count == q) refl (ltb q count) refl
          where
            at : (n q : ℕ) → (n == q) ≡ true → q ≡ n
            at n q e = grind (arith, nat_tests)

            within : (q n : ℕ) → q < n → ltb q n ≡ true
            within q n h = grind (arith, nat_tests)

            more : (q n : ℕ) → ltb q n ≡ true → ltb q (n + 1) ≡ true
            more q n h = grind (arith, nat_tests)

            still : (q n : ℕ) → ltb q n ≡ false → (n == q) ≡ false → ltb q (n + 1) ≡ false
            still q n h k = grind (arith, nat_tests)

            by : (b : Bool) → (count == q) ≡ b → (t : Bool) → ltb q count ≡ t
                → value_in q (slots_in (count + 1) usual others) ≡ cond b (Some usual) (value_in q (slots_in count usual others))
            by true e t f =
                let here : q ≡ count = at count q e in
                value_in-slots (count + 1) usual others q
                ∙ ap (λ b. cond b (slot_in usual others q) None) (within q (count + 1) (omega (arith, here)))
                ∙ ap (λ (x : Option (Option (LoggedBundle M))). elim x [ None ↦ Some usual | Some slot ↦ slot ])
                (last_past q others (subst (λ n. AreBelow n others) (sym here) below))
            by false e true f =
                value_in-slots (count + 1) usual others q
                ∙ ap (λ b. cond b (slot_in usual others q) None) (more q count f)
                ∙ sym (value_in-slots count usual others q ∙ ap (λ b. cond b (slot_in usual others q) None) f)
            by false e false f =
                value_in-slots (count + 1) usual others q
                ∙ ap (λ b. cond b (slot_in usual others q) None) (still q count f e)
                ∙ sym (value_in-slots count usual others q ∙ ap (λ b. cond b (slot_in usual others q) None) f)

        -- one entry more, of a slot that is there or comes next
        pub put_other : (m to : ℕ) (o : Option (LoggedBundle M)) → to ≤ count → count ≤ m → to < m → (m ≤ count) ⊎ (m ≤ to + 1) → (q : ℕ)
            → value_in q (slots_in m usual (others ++ (to, o) ∷ [])) ≡ cond (to == q) o (value_in q (slots_in count usual others))
        put_other m to o le more within most q =
            value_in-slots m usual (others ++ (to, o) ∷ []) q
            ∙ ap (λ x. cond (ltb q m) x None) (slot_in-push to o q)
            ∙ by (to == q) refl (ltb q count) refl
            ∙ ap (λ x. cond (to == q) o x) (sym (value_in-slots count usual others q))
          where
            in_m : (q m to : ℕ) → (to == q) ≡ true → to < m → ltb q m ≡ true
            in_m q m to e h = grind (arith, nat_tests)

            in_more : (q m n : ℕ) → ltb q n ≡ true → n ≤ m → ltb q m ≡ true
            in_more q m n e h = grind (arith, nat_tests)

            out : (q m to n : ℕ) → ltb q n ≡ false → (to == q) ≡ false → to ≤ n → (m ≤ n) ⊎ (m ≤ to + 1) → ltb q m ≡ false
            out q m to n e f h (inl k) = grind (arith, nat_tests)
            out q m to n e f h (inr k) = grind (arith, nat_tests)

            by : (b : Bool) → (to == q) ≡ b → (t : Bool) → ltb q count ≡ t
                → cond (ltb q m) (cond b o (slot_in usual others q)) None ≡ cond b o (cond t (slot_in usual others q) None)
            by true e t f = ap (λ x. cond x o None) (in_m q m to e within)
            by false e true f = ap (λ x. cond x (slot_in usual others q) None) (in_more q m count f more)
            by false e false f = ap (λ x. cond x (slot_in usual others q) None) (out q m to count f e le most)

        -- one slot more with nothing in it
        pub put_none : (q : ℕ) → value_in q (slots_in (count + 1) usual (others ++ (count, None) ∷ [])) ≡ value_in q (slots_in count usual others)
        put_none q =
            put_other (count + 1) count None (omega arith) (omega arith) (omega arith) (inr (omega arith)) q ∙ by (count == q) refl
          where
            at : (n q : ℕ) → (n == q) ≡ true → n ≤ q
            at n q e = grind (arith, nat_tests)

            by : (b : Bool) → (count == q) ≡ b
                → cond b None (value_in q (slots_in count usual others)) ≡ value_in q (slots_in count usual others)
            by true e = sym (slot_past q (at count q e))
            by false e = refl
