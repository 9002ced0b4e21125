-- Values read one after the other.
use Rattle.std.proofs.Common.{◌≡◌, ℕ, ◌-◌, ◌+◌, ◌≤◌, ◌<◌, ◌^◌, List, [], ◌∷◌, ◌++◌, length, take, drop}
use Rattle.std.proofs.Common.{Option, Some, None, refl, sym, ap, subst, ◌∙◌, append_assoc, arith}
use Rattle.std.specs.Prelude.{IfSome}
use Rattle.std.specs.List.{flat_map}
use Rattle.std.specs.Option.{option_map}
use Rattle.std.proofs.lemmas.List.{append-nil, take_at, drop_at, take-append-drop, length-append, length-drop}
use Rattle.std.proofs.lemmas.List.Concat.{flat_map-cons}
use Rattle.pg_program.specs.Plain.{are_both, are_listed, is_natural}
use Rattle.pg_program.specs.Coding.{IsRead, IsDecoded, are_so_many, list_coding, pair_coding, natural_coding}

pub some_is : {A : Type 0} (x y : A) → Some x ≡ Some y → x ≡ y
some_is x y e = cc

none_some : {A : Type 0} (y : A) → None ≡ Some y → ⊥
none_some y e = cc

abbrev same_pair : {A : Type 0} → A × List ℕ → A × List ℕ → Type 0
same_pair x y = x ≡ y

abbrev nothing_before : {A : Type 0} → List ℕ → List A × List ℕ
nothing_before rest = ([], rest)

module _ {A : Type 0} {is_value : A → Type 0} {coding : A → List ℕ} {bytes : List ℕ} where
  -- what a length says is what the rest says
  pub read_decoded : (found : Option (A × ℕ)) → IsDecoded is_value coding bytes found
      → IsRead is_value coding bytes (option_map (λ x. (x.0, drop x.1 bytes)) found)
  read_decoded None h = record {
    front = tt;
    all = λ x rest v is. absurd (none_some (x, length (coding x)) (h.all x rest v is));
  }
  read_decoded (Some x) h = record {
    front = (h.front.0, sym (take-append-drop x.1 bytes) ∙ ap (λ l. l ++ drop x.1 bytes) h.front.2);
    all = λ y rest v is.
        let same : x ≡ (y, length (coding y)) = some_is _ _ (h.all y rest v is) in
        rw same (ap (λ (l : List ℕ). Some (y, l)) (ap (drop (length (coding y))) is ∙ drop_at (coding y) rest (length (coding y)) refl));
  }

  -- and the other way
  pub decoded_read : (found : Option (A × List ℕ)) → IsRead is_value coding bytes found
      → IsDecoded is_value coding bytes (option_map (λ x. (x.0, length bytes - length x.1)) found)
  decoded_read None h = record {
    front = tt;
    all = λ x rest v is. absurd (none_some (x, rest) (h.all x rest v is));
  }
  decoded_read (Some x) h =
      let whole : length bytes ≡ length (coding x.0) + length x.1 = ap length h.front.1 ∙ length-append (coding x.0) x.1 in
      let len : length bytes - length x.1 ≡ length (coding x.0) = omega (arith, whole) in
      record {
        front = (
          h.front.0,
          omega (arith, whole),
          ap (λ n. take n bytes) len ∙ ap (take (length (coding x.0))) h.front.1 ∙ take_at (coding x.0) x.1 (length (coding x.0)) refl,
        );
        all = λ y rest v is.
            let same : x ≡ (y, rest) = some_is _ _ (h.all y rest v is) in
            let at : length bytes - length rest ≡ length (coding y) = omega (arith, ap length is, length-append (coding y) rest) in
            rw same (ap (λ (n : ℕ). Some (y, n)) at);
      }

-- a value before another
abbrev pub beside : {A B : Type 0} → A → Option (B × List ℕ) → Option ((A × B) × List ℕ)
beside a found = option_map (λ x. ((a, x.0), x.1)) found

-- a value and then another, which may hang on the first
module _ {A B : Type 0} (is_first : A → Type 0) (first : A → List ℕ) (is_second : A → B → Type 0) (second : A → B → List ℕ) where
  abbrev pub is_pair : A × B → Type 0
  is_pair p = is_first p.0 × is_second p.0 p.1

  abbrev pub pair : A × B → List ℕ
  pair p = first p.0 ++ second p.0 p.1

  pub then_read : (bytes : List ℕ) (a : A) (rest : List ℕ) (found : Option (B × List ℕ)) → IsRead is_first first bytes (Some (a, rest))
      → IsRead (is_second a) (second a) rest found → IsRead is_pair pair bytes (beside a found)
  then_read bytes a rest found h k = record { front = fronts found k; all = λ p more v is. whole found k p more v is }
    where
      fronts : (found : Option (B × List ℕ)) → IsRead (is_second a) (second a) rest found
          → IfSome (beside a found) (λ x. is_pair x.0 × (bytes ≡ pair x.0 ++ x.1))
      fronts None k = tt
      fronts (Some x) k = let both : is_pair (a, x.0) = (h.front.0, k.front.0) in (
        both,
        h.front.1 ∙ ap (λ l. first a ++ l) k.front.1 ∙ sym (append_assoc (first a) (second a x.0) x.1),
      )

      whole : (found : Option (B × List ℕ)) → IsRead (is_second a) (second a) rest found → (p : A × B) (more : List ℕ) → is_pair p
          → bytes ≡ pair p ++ more → beside a found ≡ Some (p, more)
      whole found k p more v is =
          let same : same_pair (a, rest) (p.0, second p.0 p.1 ++ more) =
          some_is _ _ (h.all p.0 (second p.0 p.1 ++ more) v.0 (is ∙ append_assoc (first p.0) (second p.0 p.1) more)) in
          let a-is : p.0 ≡ a = sym (ap (λ (x : A × List ℕ). x.0) same) in
          let v2 : is_second a p.1 = subst (λ (x : A). is_second x p.1) a-is v.1 in
          let r : rest ≡ second a p.1 ++ more = ap (λ (x : A × List ℕ). x.1) same ∙ ap (λ (x : A). second x p.1 ++ more) a-is in
          let it : found ≡ Some (p.1, more) = k.all p.1 more v2 r in
          rw it (ap (λ (x : A). Some ((x, p.1), more)) (sym a-is))

  pub none_read : (bytes : List ℕ) → IsRead is_first first bytes None → IsRead is_pair pair bytes None
  none_read bytes h = record {
    front = tt;
    all = λ p more v is. absurd (none_some _ (h.all p.0 (second p.0 p.1 ++ more) v.0 (is ∙ append_assoc (first p.0) (second p.0 p.1) more)));
  }

-- lists, item by item
abbrev pub onto : {A : Type 0} → List A → Option (List A × List ℕ) → Option (List A × List ℕ)
onto xs found = option_map (λ x. (xs ++ x.0, x.1)) found

module _ {A : Type 0} (is_value : A → Type 0) (coding : A → List ℕ) where
  -- so many values are read
  abbrev pub AreRead : ℕ → List ℕ → Option (List A × List ℕ) → Type 0
  AreRead count bytes found = IsRead (are_so_many is_value count) (flat_map coding) bytes found

  -- whatever is found behind the items is found behind the others
  abbrev pub IsBehind : ℕ → List ℕ → List A → ℕ → List ℕ → Type 0
  IsBehind count bytes items remaining rest = (found : Option (List A × List ℕ)) → AreRead remaining rest found → AreRead count bytes (onto items found)

  pub begins : (count : ℕ) (bytes : List ℕ) → IsBehind count bytes [] count bytes
  begins count bytes None h = h
  begins count bytes (Some x) h = h

  pub is_done : (count : ℕ) (bytes : List ℕ) (items : List A) (remaining : ℕ) (rest : List ℕ) → remaining ≤ 0 → IsBehind count bytes items remaining rest
      → AreRead count bytes (Some (items, rest))
  is_done count bytes items remaining rest none h =
      let no : remaining ≡ 0 = omega arith in
      let end : AreRead remaining rest (Some ([], rest)) = record {
        front = ((sym no, tt), refl);
        all = λ xs more v is. ended xs more (v.0 ∙ no) is;
      } in
      subst (λ (l : List A). AreRead count bytes (Some (l, rest))) (append-nil items) (h (Some ([], rest)) end)
    where
      ended : (xs : List A) (more : List ℕ) → length xs ≡ 0 → rest ≡ flat_map coding xs ++ more → Some (nothing_before rest) ≡ Some (xs, more)
      ended [] more len is = ap (λ (l : List ℕ). Some ([], l)) is
      ended (x ∷ xs) more len is = absurd cc

  one_more : (remaining : ℕ) (rest : List ℕ) (item : A) (after : List ℕ) (found : Option (List A × List ℕ)) → 0 < remaining
      → IsRead is_value coding rest (Some (item, after)) → AreRead (remaining - 1) after found → AreRead remaining rest (onto (item ∷ []) found)
  one_more remaining rest item after found some h k = record { front = fronts found k; all = λ xs more v is. whole xs more v is }
    where
      fronts : (found : Option (List A × List ℕ)) → AreRead (remaining - 1) after found
          → IfSome (onto (item ∷ []) found) (λ x. are_so_many is_value remaining x.0 × (rest ≡ flat_map coding x.0 ++ x.1))
      fronts None k = tt
      fronts (Some x) k = (
        (omega (arith, k.front.0.0), (h.front.0, k.front.0.1)),
        h.front.1 ∙ ap (λ l. coding item ++ l) k.front.1 ∙ sym (append_assoc (coding item) (flat_map coding x.0) x.1)
            ∙ ap (λ l. l ++ x.1) (sym (flat_map-cons coding item x.0)),
      )

      whole : (xs : List A) (more : List ℕ) → are_so_many is_value remaining xs → rest ≡ flat_map coding xs ++ more → onto (item ∷ []) found ≡ Some (xs, more)
      whole [] more v is = absurd (omega (arith, v.0))
      whole (x ∷ xs) more v is =
          let same : same_pair (item, after) (x, flat_map coding xs ++ more) = some_is _ _ (h.all x (flat_map coding xs ++ more) v.1.0
          (is ∙ ap (λ l. l ++ more) (flat_map-cons coding x xs) ∙ append_assoc (coding x) (flat_map coding xs) more)) in
          let len : length xs ≡ remaining - 1 = omega (arith, v.0) in
          let it : found ≡ Some (xs, more) = k.all xs more (len, v.1.1) (ap (λ (y : A × List ℕ). y.1) same) in
          rw it (ap (λ (y : A). Some (y ∷ xs, more)) (ap (λ (y : A × List ℕ). y.0) same))

  pub goes_on : (count : ℕ) (bytes : List ℕ) (items : List A) (remaining : ℕ) (rest : List ℕ) (item : A) (after : List ℕ) → 0 < remaining
      → IsRead is_value coding rest (Some (item, after)) → IsBehind count bytes items remaining rest
      → IsBehind count bytes (items ++ item ∷ []) (remaining - 1) after
  goes_on count bytes items remaining rest item after some h so_far found k =
      subst (λ (f : Option (List A × List ℕ)). AreRead count bytes f) (regroup found)
      (so_far (onto (item ∷ []) found) (one_more remaining rest item after found some h k))
    where
      regroup : (found : Option (List A × List ℕ)) → onto items (onto (item ∷ []) found) ≡ onto (items ++ item ∷ []) found
      regroup None = refl
      regroup (Some x) = ap (λ (l : List A). Some (l, x.1)) (sym (append_assoc items (item ∷ []) x.0))

  pub ends : (count : ℕ) (bytes : List ℕ) (items : List A) (remaining : ℕ) (rest : List ℕ) → 0 < remaining
      → IsRead is_value coding rest None → IsBehind count bytes items remaining rest → AreRead count bytes None
  ends count bytes items remaining rest some h so_far = so_far None (record { front = tt; all = λ xs more v is. absurd (none xs more v is) })
    where
      none : (xs : List A) (more : List ℕ) → are_so_many is_value remaining xs → rest ≡ flat_map coding xs ++ more → ⊥
      none [] more v is = omega (arith, v.0)
      none (x ∷ xs) more v is = none_some _ (h.all x (flat_map coding xs ++ more) v.1.0
          (is ∙ ap (λ l. l ++ more) (flat_map-cons coding x xs) ∙ append_assoc (coding x) (flat_map coding xs) more))

-- the same bytes, seen as another value
module _ {A B : Type 0} (is_first : A → Type 0) (first : A → List ℕ) (is_second : B → Type 0) (second : B → List ℕ) (to : A → B) (from : B → A)
    (there : (x : A) → is_first x → is_second (to x) × (first x ≡ second (to x)))
    (back : (y : B) → is_second y → is_first (from y) × (second y ≡ first (from y)) × (to (from y) ≡ y)) where
  abbrev pub turned : Option (A × List ℕ) → Option (B × List ℕ)
  turned found = option_map (λ x. (to x.0, x.1)) found

  pub seen_as : (bytes : List ℕ) (found : Option (A × List ℕ)) → IsRead is_first first bytes found
      → IsRead is_second second bytes (turned found)
  seen_as bytes found h = record { front = fronts found h; all = λ y more v is. whole found h y more v is }
    where
      fronts : (found : Option (A × List ℕ)) → IsRead is_first first bytes found
          → IfSome (turned found) (λ x. is_second x.0 × (bytes ≡ second x.0 ++ x.1))
      fronts None h = tt
      fronts (Some x) h = let t = there x.0 h.front.0 in (t.0, h.front.1 ∙ ap (λ l. l ++ x.1) t.1)

      whole : (found : Option (A × List ℕ)) → IsRead is_first first bytes found → (y : B) (more : List ℕ) → is_second y
          → bytes ≡ second y ++ more → turned found ≡ Some (y, more)
      whole found h y more v is =
          let b = back y v in
          let it : found ≡ Some (from y, more) = h.all (from y) more b.0 (is ∙ ap (λ l. l ++ more) b.1) in
          rw it (ap (λ (z : B). Some (z, more)) b.2)

-- how many values there are, and then these
module _ {A : Type 0} (is_value : A → Type 0) (coding : A → List ℕ) where
  abbrev is_counted : ℕ × List A → Type 0
  is_counted = is_pair is_natural natural_coding (are_so_many is_value) (λ _. flat_map coding)

  abbrev counted : ℕ × List A → List ℕ
  counted = pair is_natural natural_coding (are_so_many is_value) (λ _. flat_map coding)

  list_read : (bytes : List ℕ) (found : Option ((ℕ × List A) × List ℕ)) → IsRead is_counted counted bytes found
      → IsRead (are_listed is_value) (list_coding coding) bytes (option_map (λ x. (x.0.1, x.1)) found)
  list_read bytes found h =
      seen_as _ _ (are_listed is_value) (list_coding coding) (λ x. x.1) (λ xs. (length xs, xs))
      (λ x v. ((subst (λ (n : ℕ). n < 2 ^ 64) (sym v.1.0) v.0, v.1.1), ap (λ (n : ℕ). natural_coding n ++ flat_map coding x.1) (sym v.1.0)))
      (λ xs v. ((v.0, (refl, v.1)), refl, refl)) bytes found h

  pub list_decoded : (bytes : List ℕ) (count : ℕ) (behind : List ℕ) (items : List A) (rest : List ℕ)
      → IsRead is_natural natural_coding bytes (Some (count, behind))
      → IsRead (are_so_many is_value count) (flat_map coding) behind (Some (items, rest))
      → IsDecoded (are_listed is_value) (list_coding coding) bytes (Some (items, length bytes - length rest))
  list_decoded bytes count behind items rest h k =
      decoded_read (Some (items, rest)) (list_read bytes (Some ((count, items), rest))
      (then_read is_natural natural_coding (are_so_many is_value) (λ n. flat_map coding) bytes count behind (Some (items, rest)) h k))

  pub no_list : (bytes : List ℕ) (count : ℕ) (behind : List ℕ) → IsRead is_natural natural_coding bytes (Some (count, behind))
      → IsRead (are_so_many is_value count) (flat_map coding) behind None → IsDecoded (are_listed is_value) (list_coding coding) bytes None
  no_list bytes count behind h k =
      decoded_read None (list_read bytes None
      (then_read is_natural natural_coding (are_so_many is_value) (λ n. flat_map coding) bytes count behind None h k))

  pub no_count : (bytes : List ℕ) → IsRead is_natural natural_coding bytes None → IsDecoded (are_listed is_value) (list_coding coding) bytes None
  no_count bytes h = decoded_read None (list_read bytes None
      (none_read is_natural natural_coding (are_so_many is_value) (λ n. flat_map coding) bytes h))

-- two values, one after the other
module _ {A B : Type 0} (is_first : A → Type 0) (first : A → List ℕ) (is_second : B → Type 0) (second : B → List ℕ) where
  -- what is found of both parts
  abbrev pub AreDecoded : List ℕ → Option ((A × B) × ℕ) → Type 0
  AreDecoded bytes found = IsDecoded (are_both is_first is_second) (pair_coding first second) bytes found

  pub pair_decoded : (bytes : List ℕ) (a : A) (n : ℕ) (b : B) (m : ℕ) → IsDecoded is_first first bytes (Some (a, n))
      → IsDecoded is_second second (drop n bytes) (Some (b, m)) → AreDecoded bytes (Some ((a, b), n + m))
  pair_decoded bytes a n b m h k =
      let whole : IsRead (are_both is_first is_second) (pair_coding first second) bytes (Some ((a, b), drop m (drop n bytes))) =
      then_read is_first first (λ _. is_second) (λ _. second) bytes a (drop n bytes) (Some (b, drop m (drop n bytes)))
      (read_decoded _ h) (read_decoded _ k) in
      let long : length (drop m (drop n bytes)) ≡ length bytes - n - m =
      length-drop m (drop n bytes) ∙ ap (λ (l : ℕ). l - m) (length-drop n bytes) in
      let fits : m ≤ length bytes - n = subst (λ (l : ℕ). m ≤ l) (length-drop n bytes) k.front.1 in
      let len : length bytes - length (drop m (drop n bytes)) ≡ n + m = omega (arith, long, h.front.1, fits) in
      subst (λ (l : ℕ). AreDecoded bytes (Some ((a, b), l))) len (decoded_read _ whole)

  pub no_second : (bytes : List ℕ) (a : A) (n : ℕ) → IsDecoded is_first first bytes (Some (a, n)) → IsDecoded is_second second (drop n bytes) None
      → AreDecoded bytes None
  no_second bytes a n h k =
      decoded_read None (then_read is_first first (λ _. is_second) (λ _. second) bytes a (drop n bytes) None
      (read_decoded _ h) (read_decoded _ k))

  pub no_first : (bytes : List ℕ) → IsDecoded is_first first bytes None → AreDecoded bytes None
  no_first bytes h = decoded_read None (none_read is_first first (λ _. is_second) (λ _. second) bytes (read_decoded _ h))

-- the same of what is found
module _ {A : Type 0} {is_value : A → Type 0} {coding : A → List ℕ} {bytes : List ℕ} where
  pub decoded_at : {found other : Option (A × ℕ)} → IsDecoded is_value coding bytes found → found ≡ other → IsDecoded is_value coding bytes other
  decoded_at h is = subst (λ (f : Option (A × ℕ)). IsDecoded is_value coding bytes f) is h

  pub read_at : {found other : Option (A × List ℕ)} → IsRead is_value coding bytes found → found ≡ other → IsRead is_value coding bytes other
  read_at h is = subst (λ (f : Option (A × List ℕ)). IsRead is_value coding bytes f) is h
