-- What is in a graph once a line, or a part of one, was added.
use Rattle.std.proofs.Common.{◌≡◌, ℕ, ◌&&◌, Bool, true, false, cond, List, [], ◌∷◌, pos, Option, None, Some, Ordering, Less, Equal, Greater, ◌⊎◌}
use Rattle.std.proofs.Common.{refl, ap, sym, ◌∙◌, inl, inr}
use Rattle.std.specs.BTreeMap.{insert_entry, is_at}
use Rattle.std.specs.Map.{lookup}
use Rattle.std.specs.Option.{is_some, option_and_then}
use Rattle.std.specs.Ordering.{is_eq, nat_cmp, ordering_reverse}
use Rattle.std.proofs.lemmas.Bool.{cases_Bool}
use Rattle.std.proofs.lemmas.Cmp.{nat_cmp_total}
use Rattle.std.proofs.lemmas.Map.Lookups.{exact_unsigned}
use Rattle.pg_graph.specs.Handed.{weight_at, with_edge, Row}
use Rattle.pg_graph.specs.Rows.{Rows, row_at, with_row}
use Rattle.pg_import.specs.Batch.{has_edge, has_vertex, with_ends, with_line_edge, with_vertex}
use Rattle.pg_import.specs.declared.line.Line.{Line}

-- ---- a look-up in a list of entries where one was put, in order or not
pub cases_Ordering : (o : Ordering) → (o ≡ Less) ⊎ (o ≡ Equal) ⊎ (o ≡ Greater)
cases_Ordering Less = inl refl
cases_Ordering Equal = inr (inl refl)
cases_Ordering Greater = inr (inr refl)

self_reverse : (o : Ordering) → o ≡ ordering_reverse o → o ≡ Equal
self_reverse Less e = cc e
self_reverse Equal e = refl
self_reverse Greater e = cc e

is_eq-reverse : (o : Ordering) → is_eq (ordering_reverse o) ≡ is_eq o
is_eq-reverse Less = refl
is_eq-reverse Equal = refl
is_eq-reverse Greater = refl

pub cmp-refl : (k : ℕ) → nat_cmp k k ≡ Equal
cmp-refl k = self_reverse (nat_cmp k k) (nat_cmp_total.antisymm k k)

-- a key is at a query as the query is at the key
pub is_at-sym : (k q : ℕ) → is_at (nat_cmp k) q ≡ is_at (nat_cmp q) k
is_at-sym k q = ap is_eq (nat_cmp_total.antisymm k q) ∙ is_eq-reverse (nat_cmp q k)

-- equal keys are at the same queries
is_at-same : (k e q : ℕ) → nat_cmp k e ≡ Equal → is_at (nat_cmp q) e ≡ is_at (nat_cmp q) k
is_at-same k e q same = is_at-sym q e ∙ sym (ap is_eq (nat_cmp_total.congr k e q same)) ∙ is_at-sym k q

lookup-insert_same : {X : Type 0} (entries : List (ℕ × X)) (k : ℕ) (v : X) → lookup (is_at (nat_cmp k)) (insert_entry nat_cmp entries k v) ≡ Some v
lookup-insert_same [] k v = rw (cmp-refl k) refl
lookup-insert_same (e ∷ entries) k v = elim (cases_Ordering (nat_cmp k e.0)) [
  | inl less ↦ rw (less, cmp-refl k) refl
  | inr more ↦ elim more [
    | inl equal ↦ rw (equal, equal) refl
    | inr greater ↦ rw (greater, greater) (lookup-insert_same entries k v)
  ]
]

lookup-insert_other : {X : Type 0} (entries : List (ℕ × X)) (k q : ℕ) (v : X) → is_at (nat_cmp q) k ≡ false
    → lookup (is_at (nat_cmp q)) (insert_entry nat_cmp entries k v) ≡ lookup (is_at (nat_cmp q)) entries
lookup-insert_other [] k q v apart = rw apart refl
lookup-insert_other (e ∷ entries) k q v apart = elim (cases_Ordering (nat_cmp k e.0)) [
  | inl less ↦ rw (less, apart) refl
  | inr more ↦ elim more [
    | inl equal ↦ let gone : is_at (nat_cmp q) e.0 ≡ false = is_at-same k e.0 q equal ∙ apart in rw (equal, gone) refl
    | inr greater ↦ rw (greater, lookup-insert_other entries k q v apart) refl
  ]
]

Equal-from_is_eq : (o : Ordering) → is_eq o ≡ true → o ≡ Equal
Equal-from_is_eq Less e = cc e
Equal-from_is_eq Equal e = refl
Equal-from_is_eq Greater e = cc e

-- a number is at a query that is the same number alone
pub same_from_is_at : (k q : ℕ) → is_at (nat_cmp k) q ≡ true → k ≡ q
same_from_is_at k q there = exact_unsigned k q (Equal-from_is_eq (nat_cmp k q) there)

-- what a look-up gives where an entry was put
pub lookup-insert_entry : {X : Type 0} (entries : List (ℕ × X)) (k q : ℕ) (v : X)
    → lookup (is_at (nat_cmp q)) (insert_entry nat_cmp entries k v) ≡ cond (is_at (nat_cmp k) q) (Some v) (lookup (is_at (nat_cmp q)) entries)
lookup-insert_entry entries k q v = elim (cases_Bool (is_at (nat_cmp k) q)) [
  | inl there ↦ rw (there, ← same_from_is_at k q there) (lookup-insert_same entries k v)
  | inr apart ↦ rw apart (lookup-insert_other entries k q v (is_at-sym q k ∙ apart))
]

-- ---- vertices
is_some-cond : {X : Type 0} (b : Bool) (x : X) (o : Option X) → is_some (cond b (Some x) o) ≡ cond b true (is_some o)
is_some-cond true x o = refl
is_some-cond false x o = refl

cond-same : (b : Bool) → cond b true b ≡ b
cond-same true = refl
cond-same false = refl

has_vertex-with_row : (rows : Rows) (id q : ℕ) (row : Row) → has_vertex q (with_row id row rows) ≡ cond (is_at (nat_cmp id) q) true (has_vertex q rows)
has_vertex-with_row rows id q row = ap is_some (lookup-insert_entry rows id q row) ∙ is_some-cond (is_at (nat_cmp id) q) row (row_at q rows)

-- nothing is new at a vertex that is there
known_vertex : (rows : Rows) (id q : ℕ) → has_vertex id rows ≡ true → has_vertex q rows ≡ cond (is_at (nat_cmp id) q) true (has_vertex q rows)
known_vertex rows id q there = elim (cases_Bool (is_at (nat_cmp id) q)) [
  | inl same ↦ rw (same, ← same_from_is_at id q same, there) refl
  | inr apart ↦ rw apart refl
]

pub with_vertex-there : (rows : Rows) (id : ℕ) → has_vertex id rows ≡ true → with_vertex id rows ≡ rows
unfolding with_vertex
with_vertex-there rows id there = rw there refl

pub with_vertex-new : (rows : Rows) (id : ℕ) → has_vertex id rows ≡ false → with_vertex id rows ≡ with_row id (record { input = pos 0; edges = [] }) rows
unfolding with_vertex
with_vertex-new rows id new = rw new refl

pub has_vertex-with_vertex : (rows : Rows) (id q : ℕ) → has_vertex q (with_vertex id rows) ≡ cond (is_at (nat_cmp id) q) true (has_vertex q rows)
has_vertex-with_vertex rows id q = elim (cases_Bool (has_vertex id rows)) [
  | inl there ↦ rw (with_vertex-there rows id there) (known_vertex rows id q there)
  | inr new ↦ rw (with_vertex-new rows id new) (has_vertex-with_row rows id q _)
]

pub cond-true : (b : Bool) → cond b true true ≡ true
cond-true true = refl
cond-true false = refl

-- the source of a line is there once both ends are
pub has_vertex-with_ends : (line : Line) (rows : Rows) → has_vertex line.source (with_ends line rows) ≡ true
has_vertex-with_ends line rows =
    let source : has_vertex line.source (with_vertex line.source rows) ≡ true =
    has_vertex-with_vertex rows line.source line.source ∙ rw (cmp-refl line.source) refl in
    has_vertex-with_vertex (with_vertex line.source rows) line.target line.source ∙ rw source (cond-true (is_at (nat_cmp line.target) line.source))

-- ---- edges
edge_of_row : ℕ → Option Row → Bool
edge_of_row target row = is_some (option_and_then (λ r. weight_at target r.edges) row)

edge_of_row-cond : (target : ℕ) (b : Bool) (row : Row) (o : Option Row)
    → edge_of_row target (cond b (Some row) o) ≡ cond b (is_some (weight_at target row.edges)) (edge_of_row target o)
unfolding edge_of_row
edge_of_row-cond target true row o = refl
edge_of_row-cond target false row o = refl

edge_of_row-none : (target : ℕ) (o : Option Row) → is_some o ≡ false → edge_of_row target o ≡ false
unfolding edge_of_row
edge_of_row-none target None none = refl
edge_of_row-none target (Some row) none = cc none

has_edge-row : (source target : ℕ) (rows : Rows) → has_edge source target rows ≡ edge_of_row target (row_at source rows)
unfolding edge_of_row
has_edge-row source target rows = refl

has_edge-with_row : (rows : Rows) (id s t : ℕ) (row : Row)
    → has_edge s t (with_row id row rows) ≡ cond (is_at (nat_cmp id) s) (is_some (weight_at t row.edges)) (has_edge s t rows)
has_edge-with_row rows id s t row =
    has_edge-row s t (with_row id row rows) ∙ ap (edge_of_row t) (lookup-insert_entry rows id s row)
    ∙ edge_of_row-cond t (is_at (nat_cmp id) s) row (row_at s rows)
    ∙ ap (λ b. cond (is_at (nat_cmp id) s) (is_some (weight_at t row.edges)) b) (sym (has_edge-row s t rows))

-- a vertex that was added has no edge
pub has_edge-with_vertex : (rows : Rows) (id s t : ℕ) → has_edge s t (with_vertex id rows) ≡ has_edge s t rows
has_edge-with_vertex rows id s t = elim (cases_Bool (has_vertex id rows)) [
  | inl there ↦ rw (with_vertex-there rows id there) refl
  | inr new ↦ rw (with_vertex-new rows id new) (has_edge-with_row rows id s t _ ∙ elim (cases_Bool (is_at (nat_cmp id) s)) [
    | inl same ↦
        let none : has_edge s t rows ≡ false = has_edge-row s t rows ∙ edge_of_row-none t (row_at s rows) (rw (same_from_is_at id s same) at new) in
        rw (same, none) refl
    | inr apart ↦ rw apart refl
  ])
]

-- the row of a vertex that is there
pub row_there : (o : Option Row) → is_some o ≡ true → (row : Row) × (o ≡ Some row)
row_there None there = cc there
row_there (Some row) there = (row, refl)

pub with_line_edge-at : (line : Line) (rows : Rows) (row : Row) → row_at line.source rows ≡ Some row
    → with_line_edge line rows ≡ with_row line.source (record row { edges = with_edge line.target line.weight row.edges }) rows
unfolding with_line_edge
with_line_edge-at line rows row at = rw (at, with_line_edge) refl

-- a line's edge adds no vertex
pub has_vertex-with_line_edge : (line : Line) (rows : Rows) (q : ℕ) → has_vertex line.source rows ≡ true
    → has_vertex q (with_line_edge line rows) ≡ has_vertex q rows
has_vertex-with_line_edge line rows q there =
    let (row, at) = row_there (row_at line.source rows) there in
    rw (with_line_edge-at line rows row at) (has_vertex-with_row rows line.source q _ ∙ sym (known_vertex rows line.source q there))

edge_added : (line : Line) (rows : Rows) (row : Row) (s t : ℕ) → row_at line.source rows ≡ Some row
    → has_edge s t (with_line_edge line rows) ≡ cond (is_at (nat_cmp line.source) s && is_at (nat_cmp line.target) t) true (has_edge s t rows)
edge_added line rows row s t at =
    let put : is_some (weight_at t (with_edge line.target line.weight row.edges)) ≡ cond (is_at (nat_cmp line.target) t) true
    (is_some (weight_at t row.edges)) =
    ap is_some (lookup-insert_entry row.edges line.target t line.weight) ∙ is_some-cond (is_at (nat_cmp line.target) t) line.weight (weight_at t row.edges) in
    rw (with_line_edge-at line rows row at) (has_edge-with_row rows line.source s t _ ∙ elim (cases_Bool (is_at (nat_cmp line.source) s)) [
      | inl same ↦
          let had : has_edge s t rows ≡ is_some (weight_at t row.edges) = rw (← same_from_is_at line.source s same, at) refl in
          rw (same, put, had) refl
      | inr apart ↦ rw apart refl
    ])

-- a line's edge adds that edge alone
pub has_edge-with_line_edge : (line : Line) (rows : Rows) (s t : ℕ) → has_vertex line.source rows ≡ true
    → has_edge s t (with_line_edge line rows) ≡ cond (is_at (nat_cmp line.source) s && is_at (nat_cmp line.target) t) true (has_edge s t rows)
has_edge-with_line_edge line rows s t there =
    let (row, at) = row_there (row_at line.source rows) there in edge_added line rows row s t at
