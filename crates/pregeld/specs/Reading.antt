-- What a session's reader has not read yet.
use Rattle.std.specs.Prelude.{◌≡◌, ℕ, Bool, true, false, ◌<◌, ◌≤◌, List, [], ◌∷◌, ◌++◌}
use Rattle.std.specs.Prelude.{length, take, drop, Option, None, Some, option_map}
use Rattle.std.specs.List.{concat}
use Rattle.std.specs.Io.{IsEmptyOrEndsWith}
use Rattle.std.specs.Io.BufRead.{drop_through}
use Rattle.pg_import.specs.Text.{raw_lines}
use Rattle.pregeld.specs.declared.block.Block.{Block}
use Rattle.pregeld.specs.declared.block.Block.TheVariants.{Whole, CutShort, NoMemory}

-- the lines of the bytes that are unread, where those are known
abbrev pub lines_left : Option (List ℕ) → Option (List (List ℕ))
lines_left known = option_map raw_lines known

-- where the lines of a reader are known, this holds of them
abbrev pub IfLines : Option (List ℕ) → (List (List ℕ) → Type 0) → Type 0
IfLines known P = (lines : List (List ℕ)) → lines_left known ≡ Some lines → P lines

-- a text is so many lines, each with its line feed
abbrev pub AreWholeLines : ℕ → List ℕ → Type 0
AreWholeLines n text = (length (raw_lines text) ≡ n) × IsEmptyOrEndsWith text 10

-- so many lines were taken: onto a text, or set aside for want of memory, or there were fewer
abbrev pub TakesLines :
    ℕ → Block → List (List ℕ) → List ℕ → List ℕ → Option (List (List ℕ)) → Type 0
TakesLines n Whole lines old new unread =
    (n ≤ length lines) × (new ≡ old ++ concat (take n lines)) × (unread ≡ Some (drop n lines))
TakesLines n NoMemory lines old new unread = (n ≤ length lines) × (unread ≡ Some (drop n lines))
TakesLines n CutShort lines old new unread = (length lines < n) × (unread ≡ Some [])

-- so many lines were set aside, or there were fewer
abbrev pub SkipsLines : ℕ → Block → List (List ℕ) → Option (List (List ℕ)) → Type 0
SkipsLines n Whole lines unread = ⊥
SkipsLines n NoMemory lines unread = (n ≤ length lines) × (unread ≡ Some (drop n lines))
SkipsLines n CutShort lines unread = (length lines < n) × (unread ≡ Some [])

-- the rest of the line that a text begins with was set aside, or the text is at its end
abbrev pub SkipsLine : Bool → List ℕ → Option (List ℕ) → Type 0
SkipsLine true text unread = (0 < length text) × (unread ≡ Some (drop_through 10 text))
SkipsLine false text unread = (text ≡ []) × (unread ≡ Some [])

-- the next line of a reader, or none where it has no more lines
abbrev pub NextLine : Option (List ℕ) → List (List ℕ) → Option (List (List ℕ)) → Type 0
NextLine None lines unread = lines ≡ []
NextLine (Some line) lines unread =
    (rest : List (List ℕ)) × (lines ≡ line ∷ rest) × (unread ≡ Some rest)
