-- Lines and words of a text.
use Rattle.std.specs.Prelude.{◌≡◌, ◌⊎◌, true, ℕ, ◌-◌, Bool, ◌||◌, ◌==◌, nat_eq, nat_lt, if◌then◌else◌, List, [], ◌∷◌}
use Rattle.std.specs.Prelude.{length, take, filter}
use Rattle.std.specs.List.{ends_with, onto_first, slice_split}

-- a blank or a tab
abbrev pub is_blank : ℕ → Bool
is_blank b = (b == 32) || (b == 9)

-- a text is a blank or a tab, and what comes after it
pub record IsAfterBlank (text rest : List ℕ) : Type 0 where
  pub byte : ℕ
  pub whole : text ≡ byte ∷ rest
  pub blank : is_blank byte ≡ true

-- a text is at its end, or is a line feed, before which there may be a carriage return, and what comes after it
abbrev pub IsAfterLine : List ℕ → List ℕ → Type 0
IsAfterLine text rest = ((text ≡ []) × (rest ≡ [])) ⊎ ((text ≡ 10 ∷ rest) ⊎ (text ≡ 13 ∷ 10 ∷ rest))

-- a text without the blanks and tabs that it begins with
abbrev pub skip_blanks : List ℕ → List ℕ
skip_blanks [] = []
skip_blanks (b ∷ rest) = if is_blank b then skip_blanks rest else b ∷ rest

-- the lines of a text, each with its line feed, which the last one may lack
abbrev pub raw_lines : List ℕ → List (List ℕ)
raw_lines [] = []
raw_lines (b ∷ rest) = if b == 10 then (b ∷ []) ∷ raw_lines rest else onto_first b (raw_lines rest)

-- a text without this byte at its end
abbrev pub strip_last : ℕ → List ℕ → List ℕ
strip_last b text = if ends_with nat_eq text (b ∷ []) then take (length text - 1) text else text

-- a line without its line feed, and without a carriage return before that or at the end of the text
abbrev pub line_of : List ℕ → List ℕ
line_of raw = strip_last 13 (strip_last 10 raw)

-- the words of a line, which blanks and tabs stand between
abbrev pub words_of : List ℕ → List (List ℕ)
words_of line = filter (λ word. nat_lt 0 (length word)) (slice_split is_blank line)
