-- A checkpoint whose bytes have faded is whole, or is none.
use Rattle.std.proofs.Common.{◌≡◌, ℕ, ◌+◌, ◌<◌, ◌^◌, List, [], ◌++◌, length, take, drop, refl, sym, ap, ◌∙◌, append_assoc, arith}
use Rattle.std.specs.Int.{w64, from_le_bytes}
use Rattle.std.proofs.lemmas.List.{append-nil, nil_from_length, take_at, drop_at, take-append-drop, length-append}
use Rattle.std.proofs.lemmas.Nat.{from_le_bytes-to_le_bytes_8}
use Rattle.pg_program.specs.Coding.{natural_coding}
use Rattle.pg_checkpoint.specs.Bytes.{framed}

pub natural_same : (m n : ℕ) → m < 2 ^ 64 → n < 2 ^ 64 → natural_coding m ≡ natural_coding n → m ≡ n
natural_same m n p q h = sym (from_le_bytes-to_le_bytes_8 m p) ∙ ap (from_le_bytes w64) h ∙ from_le_bytes-to_le_bytes_8 n q

pub framed_length : (magic rest : List ℕ) → length magic ≡ 4 → length (framed magic rest) ≡ 12 + length rest
framed_length magic rest four =
    let inner : length (natural_coding (12 + length rest) ++ rest) ≡ 8 + length rest = length-append (natural_coding (12 + length rest)) rest in
    omega (arith, length-append magic (natural_coding (12 + length rest) ++ rest), four, inner)

-- a beginning of a checkpoint that is one is the whole of it
pub whole_or_none : (ma ra mb rb : List ℕ) (n : ℕ) → length ma ≡ 4 → length mb ≡ 4 → 12 + length ra < 2 ^ 64 → 12 + length rb < 2 ^ 64
    → framed ma ra ≡ take n (framed mb rb) → framed ma ra ≡ framed mb rb
whole_or_none ma ra mb rb n four_a four_b small_a small_b is =
    let a = framed ma ra in
    let b = framed mb rb in
    let cut = drop n b in
    let both : b ≡ a ++ cut = sym (take-append-drop n b) ∙ ap (λ (l : List ℕ). l ++ cut) (sym is) in
    let remaining : drop 4 b ≡ natural_coding (12 + length rb) ++ rb = drop_at mb (natural_coding (12 + length rb) ++ rb) 4 four_b in
    let regrouped : a ++ cut ≡ ma ++ (natural_coding (12 + length ra) ++ (ra ++ cut)) =
    append_assoc ma (natural_coding (12 + length ra) ++ ra) cut ∙ ap (λ (l : List ℕ). ma ++ l) (append_assoc (natural_coding (12 + length ra)) ra cut) in
    let right : drop 4 b ≡ natural_coding (12 + length ra) ++ (ra ++ cut) =
    ap (drop 4) (both ∙ regrouped) ∙ drop_at ma (natural_coding (12 + length ra) ++ (ra ++ cut)) 4 four_a in
    let words : natural_coding (12 + length rb) ≡ natural_coding (12 + length ra) =
    sym (take_at (natural_coding (12 + length rb)) rb 8 refl) ∙ ap (take 8) (sym remaining ∙ right) ∙ take_at (natural_coding (12 + length ra)) (ra ++ cut) 8 refl in
    let same : 12 + length rb ≡ 12 + length ra = natural_same (12 + length rb) (12 + length ra) small_b small_a words in
    let lengths : length b ≡ length a + length cut = ap length both ∙ length-append a cut in
    let nothing : cut ≡ [] = nil_from_length cut (omega (arith, lengths, same, framed_length ma ra four_a, framed_length mb rb four_b)) in
    sym (both ∙ ap (λ (l : List ℕ). a ++ l) nothing ∙ append-nil a)
