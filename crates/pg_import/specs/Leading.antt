-- The number that a text begins with.
use Rattle.std.specs.Prelude.{◌≡◌, ℕ, ◌-◌, ◌<◌, true, List, ◌∷◌, ◌++◌, length}
use Rattle.std.specs.Char.{is_ascii_digit}
use Rattle.std.specs.List.{list_all}
use Rattle.pg_import.specs.Number.{read_on}

-- a text is a digit, and what comes after it
pub record BeginsWithDigit (text : List ℕ) (digit : ℕ) (rest : List ℕ) : Type 0 where
  pub byte : ℕ
  pub whole : text ≡ byte ∷ rest
  pub is_digit : is_ascii_digit byte ≡ true
  pub value : digit ≡ byte - 48
  pub is_small : digit < 10

-- a text is digits that write a number below 10^18, and what comes after them
pub record IsReadTo (text : List ℕ) (number : ℕ) (rest : List ℕ) : Type 0 where
  pub digits : List ℕ
  pub whole : text ≡ digits ++ rest
  pub are_digits : list_all is_ascii_digit digits ≡ true
  pub writes : number ≡ read_on 0 digits
  pub is_small : number < 1000000000000000000

-- with one digit or more
pub record BeginsWithNumber (text : List ℕ) (number : ℕ) (rest : List ℕ) : Type 0 where
  pub read : IsReadTo text number rest
  pub some : 0 < length read.digits
