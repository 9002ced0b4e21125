-- The words of a line of ASCII are ASCII.
use Rattle.std.proofs.Common.{◌≡◌, ℕ, ◌<◌, true, nat_lt, List, [], ◌∷◌, length, inl, inr, arith}
use Rattle.std.specs.Char.{is_ascii}
use Rattle.std.specs.List.{All, list_all, onto_first, slice_split}
use Rattle.std.specs.Str.{IsAscii}
use Rattle.std.proofs.lemmas.Bool.{cases_Bool}
use Rattle.std.proofs.lemmas.Bool.Decides.{nat_tests}
use Rattle.std.proofs.lemmas.List.Elements.{All-cons, All-filter, All-head, All-nil, All-tail}
use Rattle.std.proofs.lemmas.Str.Ascii.{IsAscii-cons, IsAscii-nil}
use Rattle.pg_import.specs.Text.{is_blank, words_of}

-- a list begins with a byte that is ASCII, and the others are
record Front (b : ℕ) (rest : List ℕ) : Type 0 where
  pub first : b < 128
  pub others : list_all is_ascii rest ≡ true

front : (b : ℕ) (rest : List ℕ) → list_all is_ascii (b ∷ rest) ≡ true → Front b rest
front b rest all = elim (cases_Bool (is_ascii b)) [
  | inl ascii ↦ record { first = grind (arith, nat_tests, ascii); others = rw ascii at all }
  | inr other ↦ absurd cc
]

onto_first-ascii : (b : ℕ) (parts : List (List ℕ)) → b < 128 → All IsAscii parts → All IsAscii (onto_first b parts)
onto_first-ascii b [] ascii all = All-cons IsAscii (b ∷ []) [] (IsAscii-cons b [] ascii IsAscii-nil) (All-nil IsAscii)
onto_first-ascii b (part ∷ parts) ascii all =
    All-cons IsAscii (b ∷ part) parts (IsAscii-cons b part ascii (All-head IsAscii part parts all)) (All-tail IsAscii part parts all)

parts-ascii : (line : List ℕ) → list_all is_ascii line ≡ true → All IsAscii (slice_split is_blank line)
parts-ascii [] all = All-cons IsAscii [] [] IsAscii-nil (All-nil IsAscii)
parts-ascii (b ∷ rest) all =
    let parts = parts-ascii rest (front b rest all).others in
    elim (cases_Bool (is_blank b)) [
      | inl blank ↦ rw blank (All-cons IsAscii [] (slice_split is_blank rest) IsAscii-nil parts)
      | inr other ↦ rw other (onto_first-ascii b (slice_split is_blank rest) (front b rest all).first parts)
    ]

pub words-ascii : (line : List ℕ) → list_all is_ascii line ≡ true → All IsAscii (words_of line)
words-ascii line all =
    All-filter (λ word. nat_lt 0 (length word)) IsAscii (slice_split is_blank line) (parts-ascii line all)
