-- A first line of plain numbers, with its end.
use Rattle.std.proofs.Common.{◌≡◌, ℕ, pos, ◌-◌, ◌<◌, ◌==◌, ◌||◌, Bool, true, false, zero, suc, nat_eq, List, [], ◌∷◌, ◌++◌, length, drop}
use Rattle.std.proofs.Common.{Ok, Some, not, ⊎_elim, ap, refl, sym, ◌∙◌, append_assoc, arith}
use Rattle.std.specs.Char.{is_ascii_digit}
use Rattle.std.specs.List.{list_all}
use lib.Pointwise.{pointwise}
use Rattle.std.proofs.lemmas.Bool.Decides.{nat_tests}
use Rattle.std.proofs.lemmas.Bool.{and_parts}
use Rattle.std.proofs.Math.Seq.{drop-append_seam, take-append_seam}
use Rattle.std.proofs.lemmas.List.{append-nil, length-append}
use Rattle.std.proofs.lemmas.List.Folds.{list_all-append}
use Rattle.pg_import.specs.Import.{ReadsLine, reading_of}
use Rattle.pg_import.specs.Leading.{BeginsWithNumber}
use Rattle.pg_import.specs.Text.{IsAfterBlank, IsAfterLine, is_blank, line_of, raw_lines, strip_last, words_of}
use Rattle.pg_import.specs.declared.line.Line.{Line}
use Rattle.pg_import.proofs.Plain.{edge-two, edge-three}

-- a digit or a blank
abbrev is_plain : ℕ → Bool
is_plain b = is_ascii_digit b || is_blank b

-- no line feed
abbrev is_other : ℕ → Bool
is_other b = not (b == 10)

other_than_feed : (b : ℕ) → is_other b ≡ true → (b == 10) ≡ false
other_than_feed b other = grind (arith, nat_tests)

plain_is_other : (b : ℕ) → is_plain b ≡ true → is_other b ≡ true
plain_is_other b plain = grind (arith, nat_tests)

plain_are_other : (line : List ℕ) → list_all is_plain line ≡ true → list_all is_other line ≡ true
plain_are_other [] all = refl
plain_are_other (b ∷ line) all =
    let parts = and_parts (is_plain b) (list_all is_plain line) all in
    rw (plain_is_other b parts.0, plain_are_other line parts.1) refl

feed_differs : (b : ℕ) → is_plain b ≡ true → nat_eq 10 b ≡ false
feed_differs b plain = grind (arith, nat_tests)

return_differs : (b : ℕ) → is_plain b ≡ true → nat_eq 13 b ≡ false
return_differs b plain = grind (arith, nat_tests)

digit_is_plain : (b : ℕ) → is_ascii_digit b ≡ true → is_plain b ≡ true
digit_is_plain b digit = rw digit refl

blank_is_plain : (b : ℕ) → is_blank b ≡ true → is_plain b ≡ true
blank_is_plain b blank = grind (arith, nat_tests)

digits_are_plain : (digits : List ℕ) → list_all is_ascii_digit digits ≡ true → list_all is_plain digits ≡ true
digits_are_plain [] all = refl
digits_are_plain (b ∷ digits) all =
    let parts = and_parts (is_ascii_digit b) (list_all is_ascii_digit digits) all in
    rw (digit_is_plain b parts.0, digits_are_plain digits parts.1) refl

-- digits, a blank and what is plain are plain
number_is_plain : (digits rest : List ℕ) (b : ℕ) → list_all is_ascii_digit digits ≡ true → is_blank b ≡ true → list_all is_plain rest ≡ true
    → list_all is_plain (digits ++ b ∷ rest) ≡ true
number_is_plain digits rest b all blank plain =
    rw (list_all-append, digits_are_plain digits all, blank_is_plain b blank, plain) refl

-- what comes before a line feed is the first line of a text
raw_lines-ended : (line rest : List ℕ) → list_all is_other line ≡ true → raw_lines (line ++ 10 ∷ rest) ≡ (line ++ 10 ∷ []) ∷ raw_lines rest
raw_lines-ended [] rest all = refl
raw_lines-ended (b ∷ line) rest all =
    let parts = and_parts (is_other b) (list_all is_other line) all in
    rw (other_than_feed b parts.0, raw_lines-ended line rest parts.1) refl

-- and at the end of a text its only one
raw_lines-last : (b : ℕ) (line : List ℕ) → list_all is_other (b ∷ line) ≡ true → raw_lines (b ∷ line) ≡ (b ∷ line) ∷ []
raw_lines-last b [] all =
    let parts = and_parts (is_other b) true all in
    rw (other_than_feed b parts.0) refl
raw_lines-last b (c ∷ line) all =
    let parts = and_parts (is_other b) (list_all is_other (c ∷ line)) all in
    rw (other_than_feed b parts.0, raw_lines-last c line parts.1) refl

-- it ends in no byte that no plain one is
last_differs : (b n : ℕ) (line : List ℕ) → ((c : ℕ) → is_plain c ≡ true → nat_eq b c ≡ false) → list_all is_plain line ≡ true
    → pointwise nat_eq (b ∷ []) (drop n line) ≡ false
last_differs b zero [] differs all = refl
last_differs b (suc n) [] differs all = refl
last_differs b zero (c ∷ line) differs all =
    let parts = and_parts (is_plain c) (list_all is_plain line) all in
    rw (differs c parts.0) refl
last_differs b (suc n) (c ∷ line) differs all =
    let parts = and_parts (is_plain c) (list_all is_plain line) all in
    last_differs b n line differs parts.1

nothing_stripped : (b : ℕ) (line : List ℕ) → ((c : ℕ) → is_plain c ≡ true → nat_eq b c ≡ false) → list_all is_plain line ≡ true
    → strip_last b line ≡ line
nothing_stripped b line differs all = rw (last_differs b (length line - 1) line differs all) refl

line_of-plain : (line : List ℕ) → list_all is_plain line ≡ true → line_of line ≡ line
line_of-plain line all = rw (nothing_stripped 10 line feed_differs all) (nothing_stripped 13 line return_differs all)

last_stripped : (b : ℕ) (line : List ℕ) → nat_eq b b ≡ true → strip_last b (line ++ b ∷ []) ≡ line
last_stripped b line same =
    let size : length (line ++ b ∷ []) - 1 ≡ length line = omega (arith, length-append line (b ∷ [])) in
    rw (size, drop-append_seam line (b ∷ []), take-append_seam line (b ∷ []), same) refl

line_of-ended : (line : List ℕ) → list_all is_plain line ≡ true → line_of (line ++ 10 ∷ []) ≡ line
line_of-ended line all = rw (last_stripped 10 line refl) (nothing_stripped 13 line return_differs all)

line_of-returned : (line : List ℕ) → line_of ((line ++ 13 ∷ []) ++ 10 ∷ []) ≡ line
line_of-returned line = rw (last_stripped 10 (line ++ 13 ∷ []) refl) (last_stripped 13 line refl)

-- a plain line is the first of a text, and reads as it does by itself
module _ (text line after rest : List ℕ) (edge : Line) (whole : text ≡ line ++ after) (all : list_all is_plain line ≡ true)
    (some : 0 < length line) (says : reading_of (words_of line) ≡ Ok (Some edge)) where
  at_end : after ≡ [] → rest ≡ [] → (b : ℕ) (others : List ℕ) → line ≡ b ∷ others → ReadsLine text (Ok (Some edge)) rest
  at_end none unread b others is =
      let same : text ≡ b ∷ others = whole ∙ rw none (append-nil line) ∙ is in
      record {
        raw = b ∷ others;
        lines = rw (same, unread) (raw_lines-last b others (plain_are_other (b ∷ others) (rw is at all)));
        reads = rw (line_of-plain (b ∷ others) (rw is at all)) (sym (rw is at says));
        shorter = rw (same, unread) (omega arith);
      }

  at_feed : after ≡ 10 ∷ rest → ReadsLine text (Ok (Some edge)) rest
  at_feed is = record {
    raw = line ++ 10 ∷ [];
    lines = rw (whole, is) (raw_lines-ended line rest (plain_are_other line all));
    reads = rw (line_of-ended line all) (sym says);
    shorter = rw (whole, is) (omega (arith, length-append line (10 ∷ rest)));
  }

  at_return : after ≡ 13 ∷ 10 ∷ rest → ReadsLine text (Ok (Some edge)) rest
  at_return is =
      let cut : text ≡ (line ++ 13 ∷ []) ++ 10 ∷ rest = whole ∙ rw is (sym (append_assoc line (13 ∷ []) (10 ∷ rest))) in
      let others : list_all is_other (line ++ 13 ∷ []) ≡ true = rw (list_all-append, plain_are_other line all) refl in
      record {
        raw = (line ++ 13 ∷ []) ++ 10 ∷ [];
        lines = rw cut (raw_lines-ended (line ++ 13 ∷ []) rest others);
        reads = rw (line_of-returned line) (sym says);
        shorter = rw (whole, is) (omega (arith, length-append line (13 ∷ 10 ∷ rest)));
      }

  some_line : (xs : List ℕ) → line ≡ xs → after ≡ [] → rest ≡ [] → ReadsLine text (Ok (Some edge)) rest
  some_line [] is none unread = absurd (omega (arith, some, ap length is))
  some_line (b ∷ others) is none unread = at_end none unread b others is

  reads : IsAfterLine after rest → ReadsLine text (Ok (Some edge)) rest
  reads end = ⊎_elim (λ none. some_line line refl none.0 none.1) (λ more. ⊎_elim at_feed at_return more) end

-- a number whose text goes on otherwise
module _ (text ahead others : List ℕ) (number : ℕ) (first : BeginsWithNumber text number ahead) where
  elsewhere : BeginsWithNumber (first.read.digits ++ others) number others
  elsewhere = record {
    read = record {
      digits = first.read.digits;
      whole = refl;
      are_digits = first.read.are_digits;
      writes = first.read.writes;
      is_small = first.read.is_small;
    };
    some = first.some;
  }

after_blank : (ahead rest others : List ℕ) (after : IsAfterBlank ahead rest) → IsAfterBlank (after.byte ∷ others) others
after_blank ahead rest others after = record { byte = after.byte; whole = refl; blank = after.blank }

longer : (digits rest : List ℕ) (b : ℕ) → 0 < length (digits ++ b ∷ rest)
longer digits rest b = omega (arith, length-append digits (b ∷ rest))

-- a first line of two numbers
pub reads-two : (text ahead last after rest : List ℕ) (source target : ℕ) → BeginsWithNumber text source ahead → IsAfterBlank ahead last
    → BeginsWithNumber last target after → IsAfterLine after rest
    → ReadsLine text (Ok (Some (record { source = source; target = target; weight = pos 1 }))) rest
reads-two text ahead last after rest source target first blank second end =
    let digits = second.read.digits in
    let line = first.read.digits ++ blank.byte ∷ digits in
    let whole : text ≡ line ++ after =
    first.read.whole ∙ rw (blank.whole, second.read.whole) (sym (append_assoc first.read.digits (blank.byte ∷ digits) after)) in
    let plain = number_is_plain first.read.digits digits blank.byte first.read.are_digits blank.blank (digits_are_plain digits second.read.are_digits) in
    reads text line after rest _ whole plain (longer first.read.digits digits blank.byte)
    (edge-two line (blank.byte ∷ digits) digits [] source target
    (elsewhere text ahead (blank.byte ∷ digits) source first) (after_blank ahead last digits blank)
    (rw (append-nil digits) at (elsewhere last after [] target second)) refl) end

-- and one of three
pub reads-three : (text ahead middle beyond last after rest : List ℕ) (source target weight : ℕ) → BeginsWithNumber text source ahead
    → IsAfterBlank ahead middle → BeginsWithNumber middle target beyond → IsAfterBlank beyond last → BeginsWithNumber last weight after
    → IsAfterLine after rest → ReadsLine text (Ok (Some (record { source = source; target = target; weight = pos weight }))) rest
reads-three text ahead middle beyond last after rest source target weight first blank second gap third end =
    let digits = third.read.digits in
    let behind = second.read.digits ++ gap.byte ∷ digits in
    let line = first.read.digits ++ blank.byte ∷ behind in
    let middle_is : middle ≡ behind ++ after =
    second.read.whole ∙ rw (gap.whole, third.read.whole) (sym (append_assoc second.read.digits (gap.byte ∷ digits) after)) in
    let whole : text ≡ line ++ after =
    first.read.whole ∙ rw (blank.whole, middle_is) (sym (append_assoc first.read.digits (blank.byte ∷ behind) after)) in
    let plain = number_is_plain first.read.digits behind blank.byte first.read.are_digits blank.blank
    (number_is_plain second.read.digits digits gap.byte second.read.are_digits gap.blank (digits_are_plain digits third.read.are_digits)) in
    reads text line after rest _ whole plain (longer first.read.digits behind blank.byte)
    (edge-three line (blank.byte ∷ behind) behind (gap.byte ∷ digits) digits [] source target weight
    (elsewhere text ahead (blank.byte ∷ behind) source first) (after_blank ahead middle behind blank)
    (elsewhere middle beyond (gap.byte ∷ digits) target second) (after_blank beyond last digits gap)
    (rw (append-nil digits) at (elsewhere last after [] weight third)) refl) end
