-- Worked rows of the codings, and of what is read at the front of bytes.
use Rattle.std.specs.Prelude.{◌≡◌, ℕ, zero, suc, pos, negsuc, Bool, true, false, List, [], ◌∷◌, length, take}
use Rattle.std.specs.Prelude.{Option, None, Some, refl}
use Rattle.std.specs.Prelude.{ℤ, FitsSigned}
use Rattle.std.specs.Int.{w64}
use Rattle.std.proofs.Common.{ap, arith}
use Rattle.std.proofs.lemmas.List.{length-take-le}
use Rattle.pg_program.specs.Plain.{are_both, are_listed, is_natural}
use Rattle.pg_program.specs.Coding.{IsDecoded, integer_coding, list_coding, natural_coding, pair_coding, truth_coding}

seven : natural_coding 7 ≡ 7 ∷ 0 ∷ 0 ∷ 0 ∷ 0 ∷ 0 ∷ 0 ∷ 0 ∷ []
seven = refl

lowest_first : natural_coding 258 ≡ 2 ∷ 1 ∷ 0 ∷ 0 ∷ 0 ∷ 0 ∷ 0 ∷ 0 ∷ []
lowest_first = refl

below_zero : integer_coding (negsuc 1) ≡ 254 ∷ 255 ∷ 255 ∷ 255 ∷ 255 ∷ 255 ∷ 255 ∷ 255 ∷ []
below_zero = refl

truth : truth_coding true ≡ 1 ∷ []
truth = refl

-- `(2 [10 20])`
pair_with_list : pair_coding integer_coding (list_coding integer_coding) (pos 2, pos 10 ∷ pos 20 ∷ []) ≡
    2 ∷ 0 ∷ 0 ∷ 0 ∷ 0 ∷ 0 ∷ 0 ∷ 0 ∷ 2 ∷ 0 ∷ 0 ∷ 0 ∷ 0 ∷ 0 ∷ 0 ∷ 0
    ∷ 10 ∷ 0 ∷ 0 ∷ 0 ∷ 0 ∷ 0 ∷ 0 ∷ 0 ∷ 20 ∷ 0 ∷ 0 ∷ 0 ∷ 0 ∷ 0 ∷ 0 ∷ 0 ∷ []
pair_with_list = refl

-- what is found with bytes to spare
seven_and_more : (found : Option (ℕ × ℕ))
    → IsDecoded is_natural natural_coding (7 ∷ 0 ∷ 0 ∷ 0 ∷ 0 ∷ 0 ∷ 0 ∷ 0 ∷ 5 ∷ []) found → found ≡ Some (7, 8)
seven_and_more found is = is.all 7 (5 ∷ []) (omega arith) refl

truth_and_more : (found : Option (Bool × ℕ)) → IsDecoded (λ _. Unit {0}) truth_coding (1 ∷ 5 ∷ []) found
    → found ≡ Some (true, 1)
truth_and_more found is = is.all true (5 ∷ []) tt refl

pair_and_more : (found : Option ((ℤ × List ℤ) × ℕ))
    → IsDecoded (are_both (FitsSigned w64) (are_listed (FitsSigned w64)))
    (pair_coding integer_coding (list_coding integer_coding))
    (2 ∷ 0 ∷ 0 ∷ 0 ∷ 0 ∷ 0 ∷ 0 ∷ 0 ∷ 1 ∷ 0 ∷ 0 ∷ 0 ∷ 0 ∷ 0 ∷ 0 ∷ 0
    ∷ 10 ∷ 0 ∷ 0 ∷ 0 ∷ 0 ∷ 0 ∷ 0 ∷ 0 ∷ 1 ∷ []) found → found ≡ Some ((pos 2, pos 10 ∷ []), 24)
pair_and_more found is =
    is.all (pos 2, pos 10 ∷ []) (1 ∷ []) (omega arith, (omega arith, (omega arith, tt))) refl

-- and with bytes cut off
short_seven : (found : Option (ℕ × ℕ))
    → IsDecoded is_natural natural_coding (7 ∷ 0 ∷ 0 ∷ 0 ∷ 0 ∷ 0 ∷ 0 ∷ []) found → found ≡ None
short_seven None is = refl
short_seven (Some x) is =
    let bytes : List ℕ = 7 ∷ 0 ∷ 0 ∷ 0 ∷ 0 ∷ 0 ∷ 0 ∷ [] in
    absurd (omega (arith, is.front.1, length-take-le x.1 bytes is.front.1, ap length is.front.2))

-- no byte but 0 and 1 is a truth value
two : (found : Option (Bool × ℕ)) → IsDecoded (λ _. Unit {0}) truth_coding (2 ∷ []) found → found ≡ None
two None is = refl
two (Some x) is = absurd (neither x.0 x.1 is.front.2)
  where
    neither : (truth : Bool) (n : ℕ) → take n (2 ∷ []) ≡ truth_coding truth → ⊥
    neither true zero is = cc
    neither true (suc n) is = cc
    neither false zero is = cc
    neither false (suc n) is = cc
