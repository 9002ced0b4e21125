-- The edits that words ask for.
use Rattle.std.specs.Prelude.{ℕ, ℤ, pos, List, [], ◌∷◌, Result, Ok, Err}
use Rattle.pg_graph.specs.Handed.{Edit, AddVertex, RemoveVertex, SetInput, AddEdge, SetEdge, RemoveEdge}
use Rattle.pg_import.specs.Number.{id_of, weight_of}
use Rattle.pg_import.specs.declared.line.ImportKind.{ImportKind}
use Rattle.pregeld_commands.specs.declared.command.LineFault.{LineFault}
use Rattle.pregeld_commands.specs.declared.command.LineFault.TheVariants.{WordCount, BadWord}

-- a number that a word writes: a word that writes none in its range is a fault of its line
abbrev pub in_place : {N : Type 0} → Result N ImportKind → Result N LineFault
in_place (Ok number) = Ok number
in_place (Err kind) = Err BadWord

-- what comes of a number, where there is no fault
abbrev pub given : {N T : Type 0}
    → Result N LineFault → (N → Result T LineFault) → Result T LineFault
given (Ok number) next = next number
given (Err fault) next = Err fault

-- an id, and an id with an input or a weight
abbrev pub by_id : (ℕ → Edit) → List ℕ → Result Edit LineFault
by_id edit id = given (in_place (id_of id)) (λ v. Ok (edit v))

abbrev pub by_input : (ℕ → ℤ → Edit) → List ℕ → List ℕ → Result Edit LineFault
by_input edit id input =
    given (in_place (id_of id)) (λ v. given (in_place (weight_of input)) (λ n. Ok (edit v n)))

-- the two ends of an edge, and both with a weight
abbrev pub by_ends : (ℕ → ℕ → Edit) → List ℕ → List ℕ → Result Edit LineFault
by_ends edit source target =
    given (in_place (id_of source)) (λ s. given (in_place (id_of target)) (λ t. Ok (edit s t)))

abbrev pub by_weight : (ℕ → ℕ → ℤ → Edit) → List ℕ → List ℕ → List ℕ → Result Edit LineFault
by_weight edit source target weight =
    given (in_place (id_of source)) (λ s.
    given (in_place (id_of target)) (λ t.
    given (in_place (weight_of weight)) (λ w. Ok (edit s t w))))

-- the words after `vertex`: an id and perhaps an input, by default 0
unfoldable pub vertex_of : List (List ℕ) → Result Edit LineFault
vertex_of (id ∷ []) = by_id (λ v. AddVertex v (pos 0)) id
vertex_of (id ∷ input ∷ []) = by_input AddVertex id input
vertex_of [] = Err WordCount
vertex_of (id ∷ input ∷ more ∷ words) = Err WordCount

-- the words after `input`: an id and an input
unfoldable pub input_of : List (List ℕ) → Result Edit LineFault
input_of (id ∷ input ∷ []) = by_input SetInput id input
input_of [] = Err WordCount
input_of (id ∷ []) = Err WordCount
input_of (id ∷ input ∷ more ∷ words) = Err WordCount

-- the word after `unvertex`: an id
unfoldable pub unvertex_of : List (List ℕ) → Result Edit LineFault
unvertex_of (id ∷ []) = by_id RemoveVertex id
unvertex_of [] = Err WordCount
unvertex_of (id ∷ more ∷ words) = Err WordCount

-- the words after `edge`: source, target and perhaps a weight, by default 1
unfoldable pub edge_of : List (List ℕ) → Result Edit LineFault
edge_of (source ∷ target ∷ []) = by_ends (λ s t. AddEdge s t (pos 1)) source target
edge_of (source ∷ target ∷ weight ∷ []) = by_weight AddEdge source target weight
edge_of [] = Err WordCount
edge_of (source ∷ []) = Err WordCount
edge_of (source ∷ target ∷ weight ∷ more ∷ words) = Err WordCount

-- the words after `reweigh`: source, target and weight
unfoldable pub reweigh_of : List (List ℕ) → Result Edit LineFault
reweigh_of (source ∷ target ∷ weight ∷ []) = by_weight SetEdge source target weight
reweigh_of [] = Err WordCount
reweigh_of (source ∷ []) = Err WordCount
reweigh_of (source ∷ target ∷ []) = Err WordCount
reweigh_of (source ∷ target ∷ weight ∷ more ∷ words) = Err WordCount

-- the words after `unedge`: source and target
unfoldable pub unedge_of : List (List ℕ) → Result Edit LineFault
unedge_of (source ∷ target ∷ []) = by_ends RemoveEdge source target
unedge_of [] = Err WordCount
unedge_of (source ∷ []) = Err WordCount
unedge_of (source ∷ target ∷ more ∷ words) = Err WordCount
