-- Lines of plain numbers with single blanks between them.
use Rattle.std.proofs.Common.{◌≡◌, ℕ, ℤ, pos, ◌==◌, ◌+◌, ◌*◌, ◌<◌, ◌≤◌, true, false, nat_lt, List, [], ◌∷◌, ◌++◌, length, Ok, Some}
use Rattle.std.proofs.Common.{refl, ap, sym, ◌∙◌, append_assoc, arith}
use Rattle.std.specs.Char.{is_ascii_digit}
use Rattle.std.specs.List.{list_all, All}
use Rattle.std.proofs.lemmas.Bool.Decides.{nat_tests}
use Rattle.std.proofs.lemmas.Bool.{and_parts}
use Rattle.std.proofs.lemmas.List.{append-nil}
use Rattle.std.proofs.lemmas.List.Elements.{All-cons, All-nil}
use Rattle.std.proofs.lemmas.List.Folds.{list_all-append}
use Rattle.std.proofs.lemmas.List.Sums.{fold-append}
use Rattle.pg_import.specs.Import.{begins_with, edge_of, reading_of}
use Rattle.std.proofs.lemmas.List.Splits.{slice_split_at, slice_split_none}
use Rattle.pg_import.specs.declared.line.Line.{Line}
use Rattle.pg_import.specs.Leading.{BeginsWithDigit, BeginsWithNumber, IsReadTo}
use Rattle.pg_import.specs.Number.{id_of, number_up_to, read_on, weight_of}
use Rattle.pg_import.specs.Text.{IsAfterBlank, is_blank, words_of}
use Rattle.pg_import.proofs.TextWords.{is_word}

-- nothing is read yet
pub IsReadTo-none : (text : List ℕ) → IsReadTo text 0 text
IsReadTo-none text = record { digits = []; whole = refl; are_digits = refl; writes = refl; is_small = omega arith }

-- one digit more
pub IsReadTo-more : (text rest after : List ℕ) (number digit next : ℕ) → IsReadTo text number rest → BeginsWithDigit rest digit after
    → number < 100000000000000000 → next ≡ number * 10 + digit → IsReadTo text next after
IsReadTo-more text rest after number digit next read more small is = record {
  digits = read.digits ++ more.byte ∷ [];
  whole = read.whole ∙ rw (more.whole, append_assoc) refl;
  are_digits = rw (list_all-append, read.are_digits, more.is_digit) refl;
  writes = is ∙ rw (more.value, read.writes) (sym (fold-append _ 0 read.digits (more.byte ∷ [])));
  is_small = omega (arith, more.is_small);
}

-- a digit is no blank
digit_not_blank : (b : ℕ) → is_ascii_digit b ≡ true → is_blank b ≡ false
digit_not_blank b digit = grind (arith, nat_tests)

none_blank : (digits : List ℕ) → list_all is_ascii_digit digits ≡ true → All (λ x. is_blank x ≡ false) digits
none_blank [] all = All-nil (λ x. is_blank x ≡ false)
none_blank (d ∷ digits) all =
    let parts = and_parts (is_ascii_digit d) (list_all is_ascii_digit digits) all in
    All-cons (λ x. is_blank x ≡ false) d digits (digit_not_blank d parts.0) (none_blank digits parts.1)

-- the words of digits alone
words_of-digits : (digits : List ℕ) → list_all is_ascii_digit digits ≡ true → 0 < length digits → words_of digits ≡ digits ∷ []
words_of-digits digits all some =
    let word : is_word digits ≡ true = grind (arith, nat_tests) in
    rw (slice_split_none is_blank digits (none_blank digits all), word) refl

-- the words of digits before a blank
words_of-digits_blank : (digits rest : List ℕ) (b : ℕ) → list_all is_ascii_digit digits ≡ true → 0 < length digits → is_blank b ≡ true
    → words_of (digits ++ b ∷ rest) ≡ digits ∷ words_of rest
words_of-digits_blank digits rest b all some blank =
    let word : is_word digits ≡ true = grind (arith, nat_tests) in
    rw (slice_split_at is_blank digits b rest (none_blank digits all) blank, word) refl

-- the words of a number and of what comes after it
words_of-number : (text ahead rest : List ℕ) (number : ℕ) (first : BeginsWithNumber text number ahead) → IsAfterBlank ahead rest
    → words_of text ≡ first.read.digits ∷ words_of rest
words_of-number text ahead rest number first after =
    rw (first.read.whole, after.whole) (words_of-digits_blank first.read.digits rest after.byte first.read.are_digits first.some after.blank)

words_of-last : (text rest : List ℕ) (number : ℕ) (first : BeginsWithNumber text number rest) → rest ≡ []
    → words_of text ≡ first.read.digits ∷ []
words_of-last text rest number first none =
    rw (first.read.whole, none, append-nil) (words_of-digits first.read.digits first.read.are_digits first.some)

no_bytes : (rest : List ℕ) → (length rest == 0) ≡ true → rest ≡ []
no_bytes [] none = refl
no_bytes (b ∷ rest) none = absurd (grind (arith, nat_tests))

-- the number that digits write
number_up_to-digits : (limit number : ℕ) (digits : List ℕ) → list_all is_ascii_digit digits ≡ true → 0 < length digits
    → number ≡ read_on 0 digits → number ≤ limit → number_up_to limit digits ≡ Ok number
unfolding number_up_to
number_up_to-digits limit number digits all some writes within =
    let more : nat_lt 0 (length digits) ≡ true = grind (arith, nat_tests) in
    let fits : nat_lt limit number ≡ false = grind (arith, nat_tests) in
    rw (more, all, ← writes, fits) refl

id_of-digits : (number : ℕ) (digits : List ℕ) → list_all is_ascii_digit digits ≡ true → 0 < length digits → number ≡ read_on 0 digits
    → number < 1000000000000000000 → id_of digits ≡ Ok number
unfolding id_of
id_of-digits number digits all some writes small = number_up_to-digits 9223372036854775807 number digits all some writes (omega arith)

weight_of-digits : (number : ℕ) (digits : List ℕ) → list_all is_ascii_digit digits ≡ true → 0 < length digits → number ≡ read_on 0 digits
    → number < 1000000000000000000 → weight_of digits ≡ Ok (pos number)
unfolding weight_of
weight_of-digits number [] all some writes small = absurd (omega (arith, some))
weight_of-digits number (d ∷ digits) all some writes small =
    let parts = and_parts (is_ascii_digit d) (list_all is_ascii_digit digits) all in
    let plain : (d == 45) ≡ false = grind (arith, nat_tests) in
    rw (plain, number_up_to-digits 9223372036854775807 number (d ∷ digits) all some writes (omega arith)) refl

-- digits are no comment
begins_with-digits : (digits : List ℕ) → list_all is_ascii_digit digits ≡ true → begins_with (λ b. b == 35) digits ≡ false
begins_with-digits [] all = refl
begins_with-digits (d ∷ digits) all =
    let parts = and_parts (is_ascii_digit d) (list_all is_ascii_digit digits) all in
    grind (arith, nat_tests)

reading_of-edge : (word : List ℕ) (words : List (List ℕ)) (line : Line) → begins_with (λ b. b == 35) word ≡ false → edge_of (word ∷ words) ≡ Ok line
    → reading_of (word ∷ words) ≡ Ok (Some line)
unfolding reading_of
reading_of-edge word words line plain edge = rw (plain, edge) refl

edge_of-two : (first second : List ℕ) (source target : ℕ) → id_of first ≡ Ok source → id_of second ≡ Ok target
    → edge_of (first ∷ second ∷ []) ≡ Ok (record { source = source; target = target; weight = pos 1 })
unfolding edge_of
edge_of-two first second source target s t = rw (s, t) refl

edge_of-three : (first second third : List ℕ) (source target : ℕ) (weight : ℤ) → id_of first ≡ Ok source → id_of second ≡ Ok target
    → weight_of third ≡ Ok weight
    → edge_of (first ∷ second ∷ third ∷ []) ≡ Ok (record { source = source; target = target; weight = weight })
unfolding edge_of
edge_of-three first second third source target weight s t w = rw (s, t, w) refl

id_of-number : (text rest : List ℕ) (number : ℕ) (first : BeginsWithNumber text number rest) → id_of first.read.digits ≡ Ok number
id_of-number text rest number first =
    id_of-digits number first.read.digits first.read.are_digits first.some first.read.writes first.read.is_small

-- an edge of two numbers
pub edge-two : (text ahead rest end : List ℕ) (source target : ℕ) → BeginsWithNumber text source ahead → IsAfterBlank ahead rest
    → BeginsWithNumber rest target end → (length end == 0) ≡ true
    → reading_of (words_of text) ≡ Ok (Some (record { source = source; target = target; weight = pos 1 }))
edge-two text ahead rest end source target first after second none =
    ap reading_of
    (words_of-number text ahead rest source first after ∙ ap (λ ws. first.read.digits ∷ ws) (words_of-last rest end target second (no_bytes end none)))
    ∙ reading_of-edge first.read.digits (second.read.digits ∷ []) _ (begins_with-digits first.read.digits first.read.are_digits)
    (edge_of-two first.read.digits second.read.digits source target (id_of-number text ahead source first) (id_of-number rest end target second))

-- and of three
pub edge-three : (text ahead rest later last end : List ℕ) (source target weight : ℕ) → BeginsWithNumber text source ahead
    → IsAfterBlank ahead rest → BeginsWithNumber rest target later → IsAfterBlank later last → BeginsWithNumber last weight end → (length end == 0) ≡ true
    → reading_of (words_of text) ≡ Ok (Some (record { source = source; target = target; weight = pos weight }))
edge-three text ahead rest later last end source target weight first after second beyond third none =
    ap reading_of (words_of-number text ahead rest source first after
    ∙ ap (λ ws. first.read.digits ∷ ws) (words_of-number rest later last target second beyond
    ∙ ap (λ ws. second.read.digits ∷ ws) (words_of-last last end weight third (no_bytes end none))))
    ∙ reading_of-edge first.read.digits (second.read.digits ∷ third.read.digits ∷ []) _
    (begins_with-digits first.read.digits first.read.are_digits)
    (edge_of-three first.read.digits second.read.digits third.read.digits source target (pos weight)
    (id_of-number text ahead source first) (id_of-number rest later target second)
    (weight_of-digits weight third.read.digits third.read.are_digits third.some third.read.writes third.read.is_small))
