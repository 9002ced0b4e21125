-- Parts of a list of edges, and the rows that have them.
use Rattle.std.proofs.Common.{◌≡◌, ℕ, ◌+◌, ◌<◌, ◌≤◌, List, [], ◌∷◌, ◌++◌, length, get_or, map, take, drop, Some}
use Rattle.std.proofs.Common.{refl, sym, ap, ◌∙◌, subst, arith}
use Rattle.std.proofs.lemmas.List.{take-append-le, drop-append-le, drop_all, length-append, length-drop, map-append}
use Rattle.std.proofs.Math.Seq.{drop-append_seam, take-length}
use Rattle.pg_graph_rows.specs.ChangedRows.{changes_of}
use Rattle.pg_graph_rows.specs.EdgeList.{EdgeList, IsRising}
use Rattle.pg_graph_rows.specs.Edges.{IsPart, part_of}
use Rattle.pg_graph_rows.specs.Packing.{AreParts, row_of, rows_of}
use Rattle.pg_graph_rows.specs.declared.packing.Waiting.{Waiting}
use Rattle.pg_map.proofs.Moved.{first_of_rest, moved_one, moved_all}

-- a part stays where edges come behind
part_stays : (first degree : ℕ) (edges more : EdgeList) → first + degree ≤ length edges
    → part_of first degree (edges ++ more) ≡ part_of first degree edges
part_stays first degree edges more within =
    let remaining : degree ≤ length (drop first edges) = omega (arith, length-drop first edges) in
    ap (take degree) (drop-append-le first edges more (omega arith)) ∙ take-append-le degree (drop first edges) more remaining

is_part_stays : (first degree : ℕ) (edges more : EdgeList) → IsPart first degree edges → IsPart first degree (edges ++ more)
is_part_stays first degree edges more part = record {
  within = omega (arith, part.within, length-append edges more);
  rise = subst IsRising (sym (part_stays first degree edges more part.within)) part.rise;
}

-- what comes behind is a part
part_behind : (edges more : EdgeList) → part_of (length edges) (length more) (edges ++ more) ≡ more
part_behind edges more = ap (take (length more)) (drop-append_seam edges more) ∙ take-length more

is_part_behind : (edges more : EdgeList) → IsRising more → IsPart (length edges) (length more) (edges ++ more)
is_part_behind edges more rising = record {
  within = omega (arith, length-append edges more);
  rise = subst IsRising (sym (part_behind edges more)) rising;
}

pub parts_stay : (waiting : List Waiting) (edges more : EdgeList) → AreParts waiting edges → AreParts waiting (edges ++ more)
parts_stay [] edges more parts = tt
parts_stay (w ∷ ws) edges more parts = (is_part_stays w.first w.degree edges more parts.0, parts_stay ws edges more parts.1)

rows_stay : (waiting : List Waiting) (edges more : EdgeList) → AreParts waiting edges → rows_of waiting (edges ++ more) ≡ rows_of waiting edges
rows_stay [] edges more parts = refl
rows_stay (w ∷ ws) edges more parts =
    let part = part_stays w.first w.degree edges more parts.0.within in
    let others = rows_stay ws edges more parts.1 in
    λ i. (w.id, record { input = w.input; edges = part i }) ∷ others i

changes_stay : (waiting : List Waiting) (edges more : EdgeList) → AreParts waiting edges → changes_of waiting (edges ++ more) ≡ changes_of waiting edges
changes_stay [] edges more parts = refl
changes_stay (w ∷ ws) edges more parts =
    let part = part_stays w.first w.degree edges more parts.0.within in
    let others = changes_stay ws edges more parts.1 in
    λ i. (w.id, Some (record { input = w.input; edges = part i })) ∷ others i

-- one more waits, whose edges come behind
module _ (waiting : List Waiting) (edges more : EdgeList) (w : Waiting) (parts : AreParts waiting edges) (first : w.first ≡ length edges)
    (degree : w.degree ≡ length more) where
  pub parts_push : IsRising more → AreParts (waiting ++ w ∷ []) (edges ++ more)
  parts_push rising = behind waiting (parts_stay waiting edges more parts)
    where
      here : IsPart w.first w.degree (edges ++ more)
      here = subst (λ n. IsPart n w.degree (edges ++ more)) (sym first)
          (subst (λ n. IsPart (length edges) n (edges ++ more)) (sym degree) (is_part_behind edges more rising))

      behind : (ws : List Waiting) → AreParts ws (edges ++ more) → AreParts (ws ++ w ∷ []) (edges ++ more)
      behind [] all = (here, tt)
      behind (v ∷ vs) all = (all.0, behind vs all.1)

  pub rows_push : rows_of (waiting ++ w ∷ []) (edges ++ more) ≡ rows_of waiting edges ++ (w.id, record { input = w.input; edges = more }) ∷ []
  rows_push =
      map-append (row_of (edges ++ more)) waiting (w ∷ [])
      ∙ ap (λ rows. rows ++ row_of (edges ++ more) w ∷ []) (rows_stay waiting edges more parts)
      ∙ ap (λ l. rows_of waiting edges ++ (w.id, record { input = w.input; edges = l }) ∷ [])
      (ap (λ n. part_of n w.degree (edges ++ more)) first ∙ ap (λ n. part_of (length edges) n (edges ++ more)) degree ∙ part_behind edges more)

  pub changes_push : changes_of (waiting ++ w ∷ []) (edges ++ more) ≡ changes_of waiting edges ++ (w.id, Some (record { input = w.input; edges = more })) ∷ []
  changes_push =
      map-append (λ v. ((row_of (edges ++ more) v).0, Some (row_of (edges ++ more) v).1)) waiting (w ∷ [])
      ∙ ap (λ rows. rows ++ ((row_of (edges ++ more) w).0, Some (row_of (edges ++ more) w).1) ∷ []) (changes_stay waiting edges more parts)
      ∙ ap (λ l. changes_of waiting edges ++ (w.id, Some (record { input = w.input; edges = l })) ∷ [])
      (ap (λ n. part_of n w.degree (edges ++ more)) first ∙ ap (λ n. part_of (length edges) n (edges ++ more)) degree ∙ part_behind edges more)

-- a row is made of the first that waits, and at last none is left
module _ (waiting : List Waiting) (i : ℕ) {w : Waiting} (within : i < length waiting) (is : w ≡ get_or waiting i w) where
  pub first_part : (edges : EdgeList) → AreParts (drop i waiting) edges → IsPart w.first w.degree edges
  first_part edges parts = (subst (λ l. AreParts l edges) (first_of_rest waiting i within is) parts).0

  pub parts_left : (edges : EdgeList) → AreParts (drop i waiting) edges → AreParts (drop (i + 1) waiting) edges
  parts_left edges parts = (subst (λ l. AreParts l edges) (first_of_rest waiting i within is) parts).1

  pub made_one : {X : Type 0} (f : Waiting → X) (before : List X) {after whole : List X} → before ++ map f (drop i waiting) ≡ whole
      → after ≡ before ++ f w ∷ [] → after ++ map f (drop (i + 1) waiting) ≡ whole
  made_one f before = moved_one before (map f (drop (i + 1) waiting)) (ap (map f) (first_of_rest waiting i within is))

pub made_all : {X : Type 0} (f : Waiting → X) (waiting : List Waiting) (i : ℕ) (made : List X) {whole : List X} → length waiting ≤ i
    → made ++ map f (drop i waiting) ≡ whole → made ≡ whole
made_all f waiting i made over = moved_all made (ap (map f) (drop_all i waiting over))
