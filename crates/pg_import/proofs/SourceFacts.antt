-- The edges that were noted of sources.
use Rattle.std.proofs.Common.{◌≡◌, ℕ, ℤ, zero, suc, inl, inr, true, false, is_some, nat_eq, arith, List, [], ◌∷◌, ◌++◌, Option, None, Some, IfSome, refl, subst, slice_get, ap, ◌∙◌}
use Rattle.std.specs.BTreeMap.{is_at}
use Rattle.std.specs.List.{AllByRecursion}
use Rattle.std.specs.Option.{option_and_then}
use Rattle.std.specs.Ordering.{nat_cmp}
use Rattle.std.proofs.lemmas.Bool.{cases_Bool}
use Rattle.std.proofs.lemmas.Bool.Decides.{nat_tests}
use Rattle.std.proofs.lemmas.Option.{same_Some}
use Rattle.pg_graph.specs.Handed.{EdgeList, weight_at, Row}
use Rattle.pg_graph.specs.Rows.{Rows}
use Rattle.pg_import.specs.Sources.{AreNoted, LeadAsFrom, edges_of}

-- ---- edges that were noted
-- at a place they are those of the vertex there
pub AreNoted-at : (rows : Rows) (ids : List ℕ) (noted : List EdgeList) (i : ℕ) {id : ℕ} {edges : EdgeList} → AreNoted rows ids noted
    → slice_get ids i ≡ Some id → slice_get noted i ≡ Some edges → LeadAsFrom rows id edges
AreNoted-at rows [] noted i all at here = cc at
AreNoted-at rows (x ∷ xs) [] i all at here = cc here
AreNoted-at rows (x ∷ xs) (y ∷ ys) zero {id} {edges} all at here =
    subst (λ v. LeadAsFrom rows v edges) (same_Some _ _ at) (subst (LeadAsFrom rows x) (same_Some _ _ here) all.0)
AreNoted-at rows (x ∷ xs) (y ∷ ys) (suc i) all at here = AreNoted-at rows xs ys i all.1 at here

-- also where edges were found, if they were
pub lead_if_noted : (rows : Rows) (ids : List ℕ) (noted : List EdgeList) (place id : ℕ) {X : Type 0} (now : X → EdgeList) (found : Option X)
    → AreNoted rows ids noted → IfSome found (λ x. slice_get ids place ≡ Some id) → IfSome found (λ x. slice_get noted place ≡ Some (now x))
    → IfSome found (λ x. LeadAsFrom rows id (now x))
lead_if_noted rows ids noted place id now None all at here = tt
lead_if_noted rows ids noted place id now (Some x) all at here = AreNoted-at rows ids noted place all at here

-- with one vertex more
pub AreNoted-push : (rows : Rows) (ids : List ℕ) (noted : List EdgeList) (id : ℕ) (edges : EdgeList) → AreNoted rows ids noted
    → LeadAsFrom rows id edges → AreNoted rows (ids ++ id ∷ []) (noted ++ edges ∷ [])
AreNoted-push rows [] [] id edges all more = (more, tt)
AreNoted-push rows [] (y ∷ ys) id edges all more = absurd all
AreNoted-push rows (x ∷ xs) [] id edges all more = absurd all
AreNoted-push rows (x ∷ xs) (y ∷ ys) id edges all more = (all.0, AreNoted-push rows xs ys id edges all.1 more)

-- the edges of a row lead where the row does
pub targets_of_row : (row : Option Row) (target : ℕ)
    → is_some (weight_at target (edges_of row)) ≡ is_some (option_and_then (λ r. weight_at target r.edges) row)
targets_of_row None target = refl
targets_of_row (Some row) target = refl

-- ---- the edge to a target among edges
is_at-tested : (k q : ℕ) → nat_eq k q ≡ true → is_at (nat_cmp k) q ≡ true
is_at-tested k q same = grind (arith, nat_tests)

is_at-refused : (k q : ℕ) → nat_eq k q ≡ false → is_at (nat_cmp k) q ≡ false
is_at-refused k q other = grind (arith, nat_tests)

-- none of these leads to a target
abbrev pub LeadElsewhere : ℕ → EdgeList → Type 0
LeadElsewhere target edges = AllByRecursion (λ e. nat_eq target e.0 ≡ false) edges

pub LeadElsewhere-push : (target : ℕ) (edges : EdgeList) (e : ℕ × ℤ) → LeadElsewhere target edges → nat_eq target e.0 ≡ false
    → LeadElsewhere target (edges ++ e ∷ [])
LeadElsewhere-push target [] e all other = (other, tt)
LeadElsewhere-push target (x ∷ xs) e all other = (all.0, LeadElsewhere-push target xs e all.1 other)

pub weight_at-elsewhere : (target : ℕ) (edges : EdgeList) → LeadElsewhere target edges → is_some (weight_at target edges) ≡ false
weight_at-elsewhere target [] all = refl
weight_at-elsewhere target (e ∷ es) all = rw (is_at-refused target e.0 all.0) (weight_at-elsewhere target es all.1)

pub weight_at-there : (target : ℕ) (edges : EdgeList) (i : ℕ) {e : ℕ × ℤ} → slice_get edges i ≡ Some e → nat_eq target e.0 ≡ true
    → is_some (weight_at target edges) ≡ true
weight_at-there target [] i at there = cc at
weight_at-there target (x ∷ xs) zero at there =
    rw (is_at-tested target x.0 (ap (λ (y : ℕ × ℤ). nat_eq target y.0) (same_Some _ _ at) ∙ there)) refl
weight_at-there target (x ∷ xs) (suc i) at there = elim (cases_Bool (is_at (nat_cmp target) x.0)) [
  | inl here ↦ rw here refl
  | inr other ↦ rw other (weight_at-there target xs i at there)
]
