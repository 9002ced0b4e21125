-- Numbers that are read digit by digit.
use Rattle.std.proofs.Common.{◌≡◌, ℕ, ◌+◌, ◌-◌, ◌*◌, ◌<◌, ◌≤◌, true, nat_lt, List, [], ◌∷◌, length, get_or, drop, arith}
use Rattle.std.proofs.lemmas.Bool.Decides.{nat_tests}
use Rattle.std.proofs.lemmas.List.{at_drop_more}
use Rattle.pg_import.specs.Number.{read_on}

-- more digits give no less
pub read_on-le : (n : ℕ) (digits : List ℕ) → n ≤ read_on n digits
read_on-le n [] = omega arith
read_on-le n (digit ∷ digits) = omega (arith, read_on-le (n * 10 + (digit - 48)) digits)

-- digits that are above the limit so far are above it as a whole
pub above_limit : (limit n i : ℕ) (digits : List ℕ) → i < length digits → limit < n * 10 + (get_or digits i 0 - 48)
    → read_on n (drop i digits) ≡ read_on 0 digits → nat_lt limit (read_on 0 digits) ≡ true
above_limit limit n i digits inside more whole =
    let e = at_drop_more (read_on n) digits i 0 inside in
    let h = read_on-le (n * 10 + (get_or digits i 0 - 48)) (drop (i + 1) digits) in
    grind (arith, nat_tests)
