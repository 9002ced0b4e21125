-- The lines of a text.
use Rattle.std.proofs.Common.{◌≡◌, ℕ, ◌+◌, ◌<◌, ◌≤◌, ◌==◌, Bool, cond, ltb, List, [], ◌∷◌, length, take, drop, Option, Some, None, refl, ap, sym, ◌∙◌, arith, inl, inr}
use Rattle.std.specs.Io.BufRead.{drop_through, take_through}
use Rattle.std.specs.List.{onto_first, position_or_len}
use Rattle.std.proofs.lemmas.Bool.{cases_Bool}
use Rattle.std.proofs.lemmas.Bool.Decides.{nat_tests}
use Rattle.std.proofs.lemmas.List.{drop_all, take_all}
use Rattle.pg_import.specs.Text.{raw_lines}
use Rattle.pg_import.proofs.TextWords.{drop-next, take-next}

-- whether a byte ends a line
abbrev pub is_line_feed : ℕ → Bool
is_line_feed b = b == 10

-- a text that isn't empty begins with its first line
pub raw_lines-through : (text : List ℕ) → 0 < length text → raw_lines text ≡ take_through 10 text ∷ raw_lines (drop_through 10 text)
raw_lines-through [] more = absurd (omega arith)
raw_lines-through (b ∷ []) more = elim (cases_Bool (is_line_feed b)) [ inl ends ↦ rw ends refl | inr other ↦ rw other refl ]
raw_lines-through (b ∷ c ∷ rest) more = elim (cases_Bool (is_line_feed b)) [
  | inl ends ↦ rw ends refl
  | inr other ↦ rw other (ap (onto_first b) (raw_lines-through (c ∷ rest) (omega arith)))
]

-- the first line ends with the first line feed, or with the text
take_through-place : (text : List ℕ) → take_through 10 text ≡ take (1 + position_or_len is_line_feed text) text
take_through-place [] = refl
take_through-place (b ∷ rest) = elim (cases_Bool (is_line_feed b)) [
  | inl ends ↦ rw ends refl
  | inr other ↦ rw (other, take-next (1 + position_or_len is_line_feed rest) b rest) (ap (λ line. b ∷ line) (take_through-place rest))
]

drop_through-place : (text : List ℕ) → drop_through 10 text ≡ drop (1 + position_or_len is_line_feed text) text
drop_through-place [] = refl
drop_through-place (b ∷ rest) = elim (cases_Bool (is_line_feed b)) [
  | inl ends ↦ rw ends refl
  | inr other ↦ rw (other, drop-next (1 + position_or_len is_line_feed rest) b rest) (drop_through-place rest)
]

length-onto_first : (b : ℕ) (lines : List (List ℕ)) → length (onto_first b lines) ≤ length lines + 1
length-onto_first b [] = omega arith
length-onto_first b (line ∷ lines) = omega arith

-- a text has no more lines than bytes
pub length-raw_lines : (text : List ℕ) → length (raw_lines text) ≤ length text
length-raw_lines [] = omega arith
length-raw_lines (b ∷ rest) = elim (cases_Bool (is_line_feed b)) [
  | inl ends ↦ rw ends (omega (arith, length-raw_lines rest))
  | inr other ↦ rw other (omega (arith, length-raw_lines rest, length-onto_first b (raw_lines rest)))
]

-- a text that isn't empty has a line
pub raw_lines-some : (text : List ℕ) → 0 < length text → 0 < length (raw_lines text)
raw_lines-some text more = rw (raw_lines-through text more) (omega arith)

-- and less comes after it
pub through-shorter : (text : List ℕ) → 0 < length text → length (drop_through 10 text) < length text
through-shorter [] more = absurd (omega arith)
through-shorter (b ∷ []) more = elim (cases_Bool (is_line_feed b)) [ inl ends ↦ rw ends (omega arith) | inr other ↦ rw other (omega arith) ]
through-shorter (b ∷ c ∷ rest) more = elim (cases_Bool (is_line_feed b)) [
  | inl ends ↦ rw ends (omega arith)
  | inr other ↦ rw other (omega (arith, through-shorter (c ∷ rest) (omega arith)))
]

-- where the first line feed of a text was found, or that there is none
module _ (text : List ℕ) (found : Option ℕ)
    (is : found ≡ cond (ltb (position_or_len is_line_feed text) (length text)) (Some (position_or_len is_line_feed text)) None) where
  pub feed_place : (place : ℕ) → found ≡ Some place → place ≡ position_or_len is_line_feed text
  feed_place place here = elim (cases_Bool (ltb (position_or_len is_line_feed text) (length text))) [
    | inl within ↦ grind (arith, rw within at is)
    | inr past ↦ absurd (cc (rw past at is))
  ]

  pub no_feed_within : found ≡ None → length text ≤ position_or_len is_line_feed text
  no_feed_within none = elim (cases_Bool (ltb (position_or_len is_line_feed text) (length text))) [
    | inl within ↦ absurd (cc (rw within at is))
    | inr past ↦ grind (arith, nat_tests)
  ]

-- so the line ends behind it
pub line_through : (text : List ℕ) (place : ℕ) → place ≡ position_or_len is_line_feed text → take (place + 1) text ≡ take_through 10 text
line_through text place is = let e : place + 1 ≡ 1 + position_or_len is_line_feed text = omega arith in rw e (sym (take_through-place text))

pub rest_through : (text : List ℕ) (place : ℕ) → place ≡ position_or_len is_line_feed text → drop (place + 1) text ≡ drop_through 10 text
rest_through text place is = let e : place + 1 ≡ 1 + position_or_len is_line_feed text = omega arith in rw e (sym (drop_through-place text))

-- or is all of the text
pub all_through : (text : List ℕ) → length text ≤ position_or_len is_line_feed text → take (length text) text ≡ take_through 10 text
all_through text past =
    take_all (length text) text (omega arith) ∙ sym (take_all (1 + position_or_len is_line_feed text) text (omega arith)) ∙ sym (take_through-place text)

pub none_through : (text : List ℕ) → length text ≤ position_or_len is_line_feed text → drop (length text) text ≡ drop_through 10 text
none_through text past =
    drop_all (length text) text (omega arith) ∙ sym (drop_all (1 + position_or_len is_line_feed text) text (omega arith)) ∙ sym (drop_through-place text)
