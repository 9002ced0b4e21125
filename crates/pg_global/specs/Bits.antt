-- Bit by bit, `and` and `or` of whole numbers of 64 bits are commutative monoids.
use Rattle.std.proofs.Common.{◌≡◌, refl, ℕ, ◌<◌, ◌≤◌, ◌^◌, ℤ, pos, negsuc, ap, sym, ◌∙◌, w64, of_z, to_z, arith, rules}
use Rattle.std.proofs.Common.{max}
use Rattle.std.specs.Int.{bit_at, int_bit_and, int_bit_or}
use Rattle.std.specs.Prelude.{bit_and, bit_or, FitsSigned}
use Rattle.std.proofs.Math.Facts.{Fits-of_z, sfits_to_z}
use Rattle.std.proofs.lemmas.Int.{of_z-to_z, to_z-of_z}
use Rattle.std.proofs.lemmas.Nat.{and_assoc, and_comm, or_comm, and_le_l, and_mask, or_lt}
use Rattle.std.proofs.lemmas.Nat.Bits.{bit_at_or, same_from_bits}
use Rattle.pg_model.specs.Folds.{IsCommutativeMonoid}

greatest_of_three : (a b c : ℕ) → max (max a b) c ≡ max a (max b c)
greatest_of_three a b c = omega arith

or_assoc : (a b c : ℕ) → bit_or (bit_or a b) c ≡ bit_or a (bit_or b c)
or_assoc a b c =
    same_from_bits (bit_or (bit_or a b) c) (bit_or a (bit_or b c)) (λ i.
    bit_at_or (bit_or a b) c i
    ∙ ap (λ n. max n (bit_at c i)) (bit_at_or a b i)
    ∙ greatest_of_three (bit_at a i) (bit_at b i) (bit_at c i)
    ∙ sym (ap (λ n. max (bit_at a i) n) (bit_at_or b c i))
    ∙ sym (bit_at_or a (bit_or b c) i))

-- an operation on numbers below 2^64 that is associative, commutative and has a neutral one is so on the whole numbers
-- with these bits
module _ (f : ℕ → ℕ → ℕ) (below : (m n : ℕ) → m < 2 ^ 64 → n < 2 ^ 64 → f m n < 2 ^ 64) where
  IsCommutativeMonoid-on_bits : (initial : ℤ) → FitsSigned w64 initial → ((m n k : ℕ) → f (f m n) k ≡ f m (f n k))
      → ((m n : ℕ) → f m n ≡ f n m) → ((n : ℕ) → n < 2 ^ 64 → f (of_z w64 initial) n ≡ n)
      → IsCommutativeMonoid (FitsSigned w64) (λ a b. to_z w64 (f (of_z w64 a) (of_z w64 b))) initial
  IsCommutativeMonoid-on_bits initial begins associative commutative neutral =
      let bits_below = λ (a : ℤ) (p : FitsSigned w64 a). (Fits-of_z {w = w64} p).fits in
      let result_below = λ (a b : ℤ) (p : FitsSigned w64 a) (q : FitsSigned w64 b). below (of_z w64 a) (of_z w64 b)
      (bits_below a p) (bits_below b q) in
      record {
        begins = begins;
        stays = λ a b p q. sfits_to_z (record { fits = result_below a b p q });
        neutral = λ a p. ap (to_z w64) (neutral (of_z w64 a) (bits_below a p)) ∙ to_z-of_z w64 a p;
        commutative = λ a b p q. ap (to_z w64) (commutative (of_z w64 a) (of_z w64 b));
        associative = λ a b c p q r.
            ap (λ n. to_z w64 (f n (of_z w64 c))) (of_z-to_z w64 (f (of_z w64 a) (of_z w64 b)) (result_below a b p q))
            ∙ ap (to_z w64) (associative (of_z w64 a) (of_z w64 b) (of_z w64 c))
            ∙ sym (ap (λ n. to_z w64 (f (of_z w64 a) n))
            (of_z-to_z w64 (f (of_z w64 b) (of_z w64 c)) (result_below b c q r)));
      }

and_below : (m n : ℕ) → m < 2 ^ 64 → n < 2 ^ 64 → bit_and m n < 2 ^ 64
and_below m n p q = let h : bit_and m n ≤ m = and_le_l m n in omega arith

and_ones : (n : ℕ) → n < 2 ^ 64 → bit_and (of_z w64 (negsuc 0)) n ≡ n
and_ones n p = and_comm (of_z w64 (negsuc 0)) n ∙ and_mask n 64 ∙ omega arith

pub IsCommutativeMonoid-int_bit_and : IsCommutativeMonoid (FitsSigned w64) (int_bit_and w64) (negsuc 0)
IsCommutativeMonoid-int_bit_and =
    IsCommutativeMonoid-on_bits bit_and and_below (negsuc 0) (search rules) (λ m n k. and_assoc k m n) and_comm and_ones

or_zero : (n : ℕ) → n < 2 ^ 64 → bit_or (of_z w64 (pos 0)) n ≡ n
or_zero n p = refl

pub IsCommutativeMonoid-int_bit_or : IsCommutativeMonoid (FitsSigned w64) (int_bit_or w64) (pos 0)
IsCommutativeMonoid-int_bit_or =
    IsCommutativeMonoid-on_bits bit_or (or_lt 64) (pos 0) (search rules) or_assoc or_comm or_zero
