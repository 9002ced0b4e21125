-- What is read in turn.
use Rattle.std.proofs.Common.{◌≡◌, ℕ, ◌<◌, ◌^◌, List, length, ◌++◌, Option, None, Some, Result, Ok, Err, refl, sym, ap, subst}
use Rattle.std.specs.List.{flat_map}
use Rattle.std.specs.Option.{option_map}
use Rattle.pg_checkpoint.specs.Reading.{Reads}
use Rattle.pg_checkpoint.specs.declared.reading.Unread.{Unread}
use Rattle.pg_checkpoint.specs.declared.reading.Unread.TheVariants.{Damaged, Memory}
use Rattle.pg_program.proofs.InTurn.{IsBehind, ends, is_pair, none_read, pair, seen_as, then_read}
use Rattle.pg_program.specs.Coding.{IsRead, are_so_many, list_coding, natural_coding, pair_coding}
use Rattle.pg_program.specs.Plain.{are_both, are_listed, is_natural}

-- an item of a list that isn't read
module _ {A : Type 0} (is_value : A → Type 0) (coding : A → List ℕ) where
  pub no_item : (count : ℕ) (bytes : List ℕ) (items : List A) (remaining : ℕ) (rest : List ℕ) (e : Unread) (after : List ℕ) → 0 < remaining
      → Reads is_value coding rest (Err e) after → IsBehind is_value coding count bytes items remaining rest
      → Reads (are_so_many is_value count) (flat_map coding) bytes (Err e) after
  no_item count bytes items remaining rest Memory after some h so_far = tt
  no_item count bytes items remaining rest Damaged after some h so_far = ends is_value coding count bytes items remaining rest some h so_far

-- two values, one after another, of which one isn't read
module _ {A B : Type 0} (is_first : A → Type 0) (first : A → List ℕ) (is_second : B → Type 0) (second : B → List ℕ) where
  pub first_fails : (bytes : List ℕ) (e : Unread) (remaining : List ℕ) → Reads is_first first bytes (Err e) remaining
      → Reads (are_both is_first is_second) (pair_coding first second) bytes (Err e) remaining
  first_fails bytes Memory remaining h = tt
  first_fails bytes Damaged remaining h = none_read is_first first (λ _. is_second) (λ _. second) bytes h

  pub second_fails : (bytes : List ℕ) (a : A) (rest : List ℕ) (e : Unread) (remaining : List ℕ) → IsRead is_first first bytes (Some (a, rest))
      → Reads is_second second rest (Err e) remaining → Reads (are_both is_first is_second) (pair_coding first second) bytes (Err e) remaining
  second_fails bytes a rest Memory remaining h k = tt
  second_fails bytes a rest Damaged remaining h k = then_read is_first first (λ _. is_second) (λ _. second) bytes a rest None h k

  pub both_read : (bytes : List ℕ) (a : A) (rest : List ℕ) (b : B) (remaining : List ℕ) → IsRead is_first first bytes (Some (a, rest))
      → IsRead is_second second rest (Some (b, remaining)) → IsRead (are_both is_first is_second) (pair_coding first second) bytes (Some ((a, b), remaining))
  both_read bytes a rest b remaining h k = then_read is_first first (λ _. is_second) (λ _. second) bytes a rest (Some (b, remaining)) h k

-- the same bytes, seen as another value, which isn't read
pub fails_as : {A B : Type 0} (is_first : A → Type 0) (first : A → List ℕ) (is_second : B → Type 0) (second : B → List ℕ) (to : A → B) (from : B → A)
    → ((x : A) → is_first x → is_second (to x) × (first x ≡ second (to x)))
    → ((y : B) → is_second y → is_first (from y) × (second y ≡ first (from y)) × (to (from y) ≡ y))
    → (bytes : List ℕ) (e : Unread) (remaining : List ℕ) → Reads is_first first bytes (Err e) remaining → Reads is_second second bytes (Err e) remaining
fails_as is_first first is_second second to from there back bytes Memory remaining h = tt
fails_as is_first first is_second second to from there back bytes Damaged remaining h =
    seen_as is_first first is_second second to from there back bytes None h

-- how many values there are, and then these
module _ {A : Type 0} (is_value : A → Type 0) (coding : A → List ℕ) where
  abbrev are_counted : ℕ × List A → Type 0
  are_counted = is_pair is_natural natural_coding (are_so_many is_value) (λ _. flat_map coding)

  abbrev counted : ℕ × List A → List ℕ
  counted = pair is_natural natural_coding (are_so_many is_value) (λ _. flat_map coding)

  as_list : (bytes : List ℕ) (found : Option ((ℕ × List A) × List ℕ)) → IsRead are_counted counted bytes found
      → IsRead (are_listed is_value) (list_coding coding) bytes (option_map (λ x. (x.0.1, x.1)) found)
  as_list bytes found h =
      seen_as _ _ (are_listed is_value) (list_coding coding) (λ x. x.1) (λ xs. (length xs, xs))
      (λ x v. ((subst (λ (n : ℕ). n < 2 ^ 64) (sym v.1.0) v.0, v.1.1), ap (λ (n : ℕ). natural_coding n ++ flat_map coding x.1) (sym v.1.0)))
      (λ xs v. ((v.0, (refl, v.1)), refl, refl)) bytes found h

  -- they were read, or not
  pub list_read : (bytes : List ℕ) (count : ℕ) (behind : List ℕ) (r : Result (List A) Unread) (remaining : List ℕ)
      → IsRead is_natural natural_coding bytes (Some (count, behind)) → Reads (are_so_many is_value count) (flat_map coding) behind r remaining
      → Reads (are_listed is_value) (list_coding coding) bytes r remaining
  list_read bytes count behind (Ok xs) remaining h k =
      as_list bytes (Some ((count, xs), remaining))
      (then_read is_natural natural_coding (are_so_many is_value) (λ n. flat_map coding) bytes count behind (Some (xs, remaining)) h k)
  list_read bytes count behind (Err Damaged) remaining h k =
      as_list bytes None (then_read is_natural natural_coding (are_so_many is_value) (λ n. flat_map coding) bytes count behind None h k)
  list_read bytes count behind (Err Memory) remaining h k = tt

  pub no_list : (bytes : List ℕ) (e : Unread) (remaining : List ℕ) → Reads is_natural natural_coding bytes (Err e) remaining
      → Reads (are_listed is_value) (list_coding coding) bytes (Err e) remaining
  no_list bytes Memory remaining h = tt
  no_list bytes Damaged remaining h =
      as_list bytes None (none_read is_natural natural_coding (are_so_many is_value) (λ n. flat_map coding) bytes h)
