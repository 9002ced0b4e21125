-- A header in the place that was kept for it.
use Rattle.std.proofs.Common.{◌≡◌, ℕ, ◌+◌, List, [], ◌++◌, length, drop, take, ◌≤◌, ap, ◌∙◌, arith}
use Rattle.std.proofs.lemmas.List.{append-nil, drop_at, length-append, length-drop, nil_from_length, take_all}
use Rattle.pg_checkpoint.specs.Bytes.{framed, half_coding, second_magic}
use Rattle.pg_program.specs.Coding.{natural_coding}

abbrev pub header_of : ℕ → ℕ → ℕ → ℕ → ℕ → List ℕ
header_of len run partition count edges =
    second_magic ++ (natural_coding len ++ (natural_coding run ++ (half_coding partition ++ (half_coding count ++ natural_coding edges))))

abbrev rest_of : ℕ → ℕ → ℕ → ℕ → List ℕ → List ℕ
rest_of run partition count edges body =
    natural_coding run ++ (half_coding partition ++ (half_coding count ++ (natural_coding edges ++ body)))

pub written : (len run partition count edges : ℕ) (room body header before after : List ℕ) → length room ≡ 36 → before ≡ room ++ body
    → len ≡ length before → header ≡ header_of len run partition count edges → after ≡ header ++ drop (length header) before
    → after ≡ framed second_magic (rest_of run partition count edges body)
written len run partition count edges room body header before after kept is counted shown put =
    let remaining : drop 36 before ≡ body = ap (drop 36) is ∙ drop_at room body 36 kept in
    let long : len ≡ 12 + length (rest_of run partition count edges body) =
    let all : length before ≡ 36 + length body = ap length is ∙ length-append room body ∙ ap (λ n. n + length body) kept in
    let rest : length (rest_of run partition count edges body) ≡ 24 + length body = omega arith in
    omega (arith, counted, all, rest) in
    put ∙ ap (λ h. h ++ drop (length h) before) shown ∙ ap (λ l. header_of len run partition count edges ++ l) remaining
    ∙ ap (λ n. second_magic ++ (natural_coding n ++ rest_of run partition count edges body)) long

-- the same of other numbers that are equal
pub same_framed : (run p q m n d e : ℕ) (a b : List ℕ) → p ≡ q → m ≡ n → d ≡ e → a ≡ b
    → framed second_magic (rest_of run p m d a) ≡ framed second_magic (rest_of run q n e b)
same_framed run p q m n d e a b h i j k =
    ap (λ x. framed second_magic (rest_of run x m d a)) h ∙ ap (λ x. framed second_magic (rest_of run q x d a)) i
    ∙ ap (λ x. framed second_magic (rest_of run q n x a)) j ∙ ap (λ x. framed second_magic (rest_of run q n e x)) k

-- a slice that was written to, back in its list
pub back : (n : ℕ) (new old : List ℕ) → length new ≡ n → length old ≡ n → take n (new ++ drop (length new) old) ≡ new
back n new old long same =
    let none : drop (length new) old ≡ [] = nil_from_length (drop (length new) old) (omega (arith, length-drop (length new) old, long, same)) in
    ap (λ l. take n (new ++ l)) none ∙ ap (take n) (append-nil new) ∙ take_all n new (omega (arith, long))

-- as long as before
pub kept_length : (front old : List ℕ) → length front ≤ length old → length (front ++ drop (length front) old) ≡ length old
kept_length front old fits = omega (arith, fits, length-append front (drop (length front) old), length-drop (length front) old)
