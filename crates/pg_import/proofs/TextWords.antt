-- The words of a line, one after another.
use Rattle.std.proofs.Common.{◌≡◌, ℕ, suc, ◌+◌, ◌<◌, Bool, true, nat_lt, List, [], ◌∷◌, length, take, drop, filter, refl, sym, ◌∙◌, arith, inl, inr}
use Rattle.std.specs.List.{position_or_len, slice_split}
use Rattle.std.proofs.lemmas.Bool.{cases_Bool}
use Rattle.std.proofs.lemmas.Bool.Decides.{nat_tests}
use Rattle.pg_import.specs.Text.{is_blank, skip_blanks, words_of}

-- a part that is a word
abbrev pub is_word : List ℕ → Bool
is_word part = nat_lt 0 (length part)

-- how long the word is that a text begins with
abbrev pub word_end : List ℕ → ℕ
word_end text = position_or_len is_blank text

pub take-next : (n b : ℕ) (rest : List ℕ) → take (1 + n) (b ∷ rest) ≡ b ∷ take n rest
take-next n b rest = let e : 1 + n ≡ suc n = omega arith in rw e refl

pub drop-next : (n b : ℕ) (rest : List ℕ) → drop (1 + n) (b ∷ rest) ≡ drop n rest
drop-next n b rest = let e : 1 + n ≡ suc n = omega arith in rw e refl

-- blanks in front are in no word
pub words_of-skip : (text : List ℕ) → words_of (skip_blanks text) ≡ words_of text
words_of-skip [] = refl
words_of-skip (b ∷ rest) = elim (cases_Bool (is_blank b)) [
  | inl blank ↦ rw blank (words_of-skip rest)
  | inr other ↦ rw other (rw other refl)
]

-- the parts after the first one have the words after it
pub record FirstPart (text : List ℕ) : Type 0 where
  pub others : List (List ℕ)
  pub cut : slice_split is_blank text ≡ take (word_end text) text ∷ others
  pub words : filter is_word others ≡ words_of (drop (word_end text) text)

pub first_part : (text : List ℕ) → FirstPart text
first_part [] = record { others = []; cut = refl; words = refl }
first_part (b ∷ rest) = elim (cases_Bool (is_blank b)) [
  | inl blank ↦ record { others = slice_split is_blank rest; cut = rw blank refl; words = rw blank (rw blank refl) }
  | inr other ↦ record {
    others = (first_part rest).others;
    cut = rw (other, (first_part rest).cut, take-next (word_end rest) b rest) refl;
    words = rw (other, drop-next (word_end rest) b rest) (first_part rest).words;
  }
]

-- the first word, where a text begins with one
pub words_of-word : (text : List ℕ) → 0 < length (take (word_end text) text)
    → words_of text ≡ take (word_end text) text ∷ words_of (drop (word_end text) text)
words_of-word text more =
    let first = first_part text in
    let e : is_word (take (word_end text) text) ≡ true = grind (arith, nat_tests) in
    rw (first.cut, e, first.words) refl

-- no word, where nothing is left but blanks
pub words_of-none : (text : List ℕ) → length (take (word_end (skip_blanks text)) (skip_blanks text)) ≡ 0 → words_of text ≡ []
words_of-none [] none = refl
words_of-none (b ∷ rest) none = elim (cases_Bool (is_blank b)) [
  | inl blank ↦ rw blank (words_of-none rest (rw blank at none))
  | inr other ↦ absurd (omega (arith, rw (other, other, take-next (word_end rest) b rest) at none))
]

-- the first word and what comes after it, as they are cut from what comes after the blanks
pub words_of-cut : (text ahead word rest : List ℕ) (n : ℕ) → ahead ≡ skip_blanks text → n ≡ word_end ahead → word ≡ take n ahead
    → rest ≡ drop n ahead → 0 < length word → words_of text ≡ word ∷ words_of rest
words_of-cut text ahead word rest n at place front back more =
    let some : 0 < length (take (word_end ahead) ahead) = rw (← place, ← front) more in
    let first = words_of-word ahead some in
    sym (words_of-skip text) ∙ rw (← at, front, back, place) first

pub words_of-empty : (text ahead word : List ℕ) (n : ℕ) → ahead ≡ skip_blanks text → n ≡ word_end ahead → word ≡ take n ahead → length word ≡ 0
    → words_of text ≡ []
words_of-empty text ahead word n at place front none =
    words_of-none text (rw (← at, ← place, ← front) none)
