-- The bytes of values, and what it is to read a value at the front of bytes.
use Rattle.std.specs.Prelude.{◌≡◌, ℕ, ◌≤◌, [], ◌∷◌, ◌++◌, ℤ, Bool, cond, List, length, take, Option, Some, IfSome}
use Rattle.std.specs.Int.{w64, cast_unsigned, to_le_bytes}
use Rattle.std.specs.List.{AllByRecursion, flat_map}

-- a number in eight bytes, the lowest first
abbrev pub natural_coding : ℕ → List ℕ
natural_coding n = to_le_bytes w64 n

-- the same in two's complement
abbrev pub integer_coding : ℤ → List ℕ
integer_coding z = to_le_bytes w64 (cast_unsigned w64 z)

-- one byte, 0 or 1
abbrev pub truth_coding : Bool → List ℕ
truth_coding b = cond b (1 ∷ []) (0 ∷ [])

-- one byte
abbrev pub byte_coding : ℕ → List ℕ
byte_coding n = n ∷ []

-- the first part, then the second
abbrev pub pair_coding : {A B : Type 0} → (A → List ℕ) → (B → List ℕ) → A × B → List ℕ
pair_coding first second p = first p.0 ++ second p.1

-- how many there are, then each
abbrev pub list_coding : {A : Type 0} → (A → List ℕ) → List A → List ℕ
list_coding item xs = natural_coding (length xs) ++ flat_map item xs

-- so many values
abbrev pub are_so_many : {A : Type 0} → (A → Type 0) → ℕ → List A → Type 0
are_so_many is_item n xs = (length xs ≡ n) × AllByRecursion is_item xs

module _ {A : Type 0} (is_value : A → Type 0) (coding : A → List ℕ) (bytes : List ℕ) where
  -- What is found, with its length, is the value whose coding stands at the front of the bytes (front). And whatever
  -- value's coding stands there, it is found (all): so one at most does, and nothing is found only where none does.
  pub record IsDecoded (found : Option (A × ℕ)) : Type 0 where
    pub front : IfSome found (λ x. is_value x.0 × (x.1 ≤ length bytes) × (take x.1 bytes ≡ coding x.0))
    pub all : (x : A) (rest : List ℕ) → is_value x → bytes ≡ coding x ++ rest → found ≡ Some (x, length (coding x))

  -- the same, with the bytes behind it in place of its length
  pub record IsRead (found : Option (A × List ℕ)) : Type 0 where
    pub front : IfSome found (λ x. is_value x.0 × (bytes ≡ coding x.0 ++ x.1))
    pub all : (x : A) (rest : List ℕ) → is_value x → bytes ≡ coding x ++ rest → found ≡ Some (x, rest)
