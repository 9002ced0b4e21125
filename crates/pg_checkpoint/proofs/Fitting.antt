-- A number in eight bytes that it needn't fit.
use Rattle.std.proofs.Common.{◌≡◌, ℕ, zero, suc, ◌+◌, ◌*◌, ◌<◌, ◌^◌, refl, arith, get_or}
use Rattle.std.specs.Int.{w64, from_le_bytes, to_le_bytes}
use Rattle.std.proofs.lemmas.Nat.{from_le_bytes-to_le_bytes_8, le_bytes_8}
use Rattle.pg_program.specs.Coding.{natural_coding}

small : (n i : ℕ) → get_or (to_le_bytes w64 n) i 0 < 256
small n zero = omega arith
small n (suc zero) = omega arith
small n (suc (suc zero)) = omega arith
small n (suc (suc (suc zero))) = omega arith
small n (suc (suc (suc (suc zero)))) = omega arith
small n (suc (suc (suc (suc (suc zero))))) = omega arith
small n (suc (suc (suc (suc (suc (suc zero)))))) = omega arith
small n (suc (suc (suc (suc (suc (suc (suc zero))))))) = omega arith
small n (suc (suc (suc (suc (suc (suc (suc (suc i)))))))) = omega arith

digits : (a b c d e f g h : ℕ) → a < 256 → b < 256 → c < 256 → d < 256 → e < 256 → f < 256 → g < 256 → h < 256
    → a + b * 256 + c * 65536 + d * 16777216 + e * 4294967296 + f * 1099511627776 + g * 281474976710656 + h * 72057594037927936 < 2 ^ 64
digits a b c d e f g h p q r s t u v w = omega (arith, p, q, r, s, t, u, v, w)

-- the number that stands there, which is this one where it fits
pub stated : ℕ → ℕ
stated n = from_le_bytes w64 (to_le_bytes w64 n)

pub stated_fits : (n : ℕ) → stated n < 2 ^ 64
unfolding stated
stated_fits n = digits _ _ _ _ _ _ _ _ (small n 0) (small n 1) (small n 2) (small n 3) (small n 4) (small n 5) (small n 6) (small n 7)

pub stated_same : (n : ℕ) → natural_coding (stated n) ≡ natural_coding n
unfolding stated
stated_same n = le_bytes_8 (to_le_bytes w64 n) _ refl (small n) refl

pub stated_is : (n : ℕ) → n < 2 ^ 64 → stated n ≡ n
unfolding stated
stated_is n fits = from_le_bytes-to_le_bytes_8 n fits
