-- What a list of edges means: its edges in order, or its first faulty line.
use Rattle.std.specs.Prelude.{◌≡◌, ◌⊎◌, ℕ, pos, ◌+◌, ◌<◌, length, Bool, false, ◌==◌, if◌then◌else◌, List, [], ◌∷◌, ◌++◌}
use Rattle.std.specs.Prelude.{map, Option, None, Some, Result, Ok, Err}
use Rattle.pg_import.specs.Number.{id_of, weight_of}
use Rattle.pg_import.specs.Text.{line_of, raw_lines, words_of}
use Rattle.pg_import.specs.declared.line.Line.{Line}
use Rattle.pg_import.specs.declared.line.ImportFault.{ImportFault}
use Rattle.pg_import.specs.declared.line.ImportKind.{ImportKind}
use Rattle.pg_import.specs.declared.line.ImportKind.TheVariants.{Memory, FieldCount}

infixl 10 ◌>>=◌
abbrev pub ◌>>=◌ : {A B E : Type 0} → Result A E → (A → Result B E) → Result B E
Ok x >>= f = f x
Err e >>= f = Err e

-- the edge that fields write: a source, a target and, where it is there, a weight, which is 1 by default
unfoldable pub edge_of : List (List ℕ) → Result Line ImportKind
edge_of [] = Err FieldCount
edge_of (source ∷ []) = Err FieldCount
edge_of (source ∷ target ∷ []) = do
  s ← id_of source
  t ← id_of target
  Ok (record { source = s; target = t; weight = pos 1 })
edge_of (source ∷ target ∷ weight ∷ []) = do
  s ← id_of source
  t ← id_of target
  w ← weight_of weight
  Ok (record { source = s; target = t; weight = w })
edge_of (source ∷ target ∷ weight ∷ more ∷ others) = Err FieldCount

-- what a line says: nothing, an edge or a fault
abbrev pub Reading : Type 0
Reading = Result (Option Line) ImportKind

-- whether a text begins with a byte that passes
abbrev pub begins_with : (ℕ → Bool) → List ℕ → Bool
begins_with test [] = false
begins_with test (b ∷ rest) = test b

-- a line of no words says nothing, nor does one that begins with `#`
unfoldable pub reading_of : List (List ℕ) → Reading
reading_of [] = Ok None
reading_of (word ∷ words) = if begins_with (λ b. b == 35) word then Ok None else
    (edge_of (word ∷ words) >>= λ line. Ok (Some line))

-- the first line of a text says so, and this comes after it
pub record ReadsLine (text : List ℕ) (reading : Reading) (rest : List ℕ) : Type 0 where
  pub raw : List ℕ
  pub lines : raw_lines text ≡ raw ∷ raw_lines rest
  pub reads : reading ≡ reading_of (words_of (line_of raw))
  pub shorter : length rest < length text

-- these edges, and then those of a meaning
abbrev pub followed_by : List Line → Result (List Line) ImportFault → Result (List Line) ImportFault
followed_by lines (Ok more) = Ok (lines ++ more)
followed_by lines (Err fault) = Err fault

-- what a reading makes of those after it
abbrev pub at_line : ℕ → Reading → Result (List Line) ImportFault → Result (List Line) ImportFault
at_line number (Ok None) others = others
at_line number (Ok (Some line)) others = followed_by (line ∷ []) others
at_line number (Err kind) others = Err (record { line = number; kind = kind })

-- the edges of readings that are numbered from `number`, or the first fault
unfoldable pub edges_from : ℕ → List Reading → Result (List Line) ImportFault
edges_from number [] = Ok []
edges_from number (reading ∷ readings) = at_line number reading (edges_from (number + 1) readings)

-- a text in list form: a line for each edge
unfoldable pub list_of : List ℕ → Result (List Line) ImportFault
list_of text = edges_from 1 (map (λ raw. reading_of (words_of (line_of raw))) (raw_lines text))

-- want of memory, of which a text says nothing
abbrev pub no_memory : ImportFault
no_memory = record { line = 0; kind = Memory }

-- the answer is the meaning of the text, or want of memory
abbrev pub Gives : {A : Type 0} → (A → List Line) → Result A ImportFault → Result (List Line) ImportFault → Type 0
Gives view (Ok x) meaning = meaning ≡ Ok (view x)
Gives view (Err fault) meaning = (fault ≡ no_memory) ⊎ (meaning ≡ Err fault)
