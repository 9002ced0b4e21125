-- The numbers of a list: ASCII digits in base ten, with leading zeros or without.
use Rattle.std.specs.Prelude.{ℕ, ℤ, pos, neg_ℤ, ◌+◌, ◌-◌, ◌*◌, Bool, ◌&&◌, ◌==◌, nat_lt, if◌then◌else◌, List, [], ◌∷◌}
use Rattle.std.specs.Prelude.{length, fold, Result, Ok, Err}
use Rattle.std.specs.Char.{is_ascii_digit}
use Rattle.std.specs.List.{list_all}
use Rattle.pg_import.specs.declared.line.ImportKind.{ImportKind}
use Rattle.pg_import.specs.declared.line.ImportKind.TheVariants.{NotNumber, OutOfRange}

-- one or more ASCII digits
abbrev pub is_numeral : List ℕ → Bool
is_numeral word = nat_lt 0 (length word) && list_all is_ascii_digit word

-- the number that digits go on to from n
abbrev pub read_on : ℕ → List ℕ → ℕ
read_on n digits = fold (λ m digit. m * 10 + (digit - 48)) n digits

-- the number that a word writes, which has to be a numeral, and at most the limit
unfoldable pub number_up_to : ℕ → List ℕ → Result ℕ ImportKind
number_up_to limit word =
    if is_numeral word then (if nat_lt limit (read_on 0 word) then Err OutOfRange else Ok (read_on 0 word)) else Err
    NotNumber

-- an id: at most 2^63 - 1
unfoldable pub id_of : List ℕ → Result ℕ ImportKind
id_of word = number_up_to 9223372036854775807 word

-- a number with its sign
abbrev pub signed : (ℕ → ℤ) → Result ℕ ImportKind → Result ℤ ImportKind
signed sign (Ok n) = Ok (sign n)
signed sign (Err kind) = Err kind

-- a weight: from -2^63 to 2^63 - 1, where a minus may stand before the digits
unfoldable pub weight_of : List ℕ → Result ℤ ImportKind
weight_of [] = Err NotNumber
weight_of (b ∷ rest) =
    if b == 45 then signed (λ n. neg_ℤ (pos n)) (number_up_to 9223372036854775808 rest)
    else signed pos (number_up_to 9223372036854775807 (b ∷ rest))
