-- What stands as a run over partitions opens.
use Rattle.std.proofs.Common.{◌≡◌, ℕ, zero, suc, ◌+◌, ◌<◌, ◌≤◌, List, [], ◌∷◌, ◌++◌, length, map, take, get_or, Option}
use Rattle.std.proofs.Common.{None, Some, refl, ap, sym, ◌∙◌, subst, arith, add-one, inl, inr, eq-or-lt_of_le}
use Rattle.std.specs.List.{slice_get}
use Rattle.std.specs.Option.{option_map}
use Rattle.std.proofs.lemmas.List.{get_or_append_left, get_or_push}
use Rattle.std.proofs.lemmas.List.Sums.{sum_by-cons}
use Rattle.pg_core.specs.Beginning.{IsFirst}
use Rattle.pg_part.specs.PartRun as part_runs
use Rattle.pg_graph.specs.Rows.{Rows, edge_count}
use Rattle.pg_graph.specs.declared.missing.Missing.{Missing}
use Rattle.pg_graph.specs.Handed.{Row}
use Rattle.pg_model.specs.Job.{Program}
use Rattle.pg_model.specs.Run.{beginning}
use Rattle.pg_model.specs.Superstep.{edges_of}
use Rattle.pg_part.specs.Part.{PartState}
use Rattle.pg_part.specs.Handed.{PartRows}

module _ {E X Y : Type 0} (part : E → X) (made : X → Y) where
  next_taken : (es : List E) (i : ℕ) (x : X) → option_map part (slice_get es i) ≡ Some x
      → map (λ e. made (part e)) (take (suc i) es) ≡ map (λ e. made (part e)) (take i es) ++ made x ∷ []
  next_taken [] i x h = let k : None ≡ Some x = h in cc
  next_taken (e ∷ es) zero x h = ap (λ y. made y ∷ []) (let k : Some (part e) ≡ Some x = h in cc)
  next_taken (e ∷ es) (suc i) x h = ap (λ l. made (part e) ∷ l) (next_taken es i x h)

  -- what is made of the entries of a list, with that of one entry more
  pub made_more : (es : List E) (i : ℕ) (x : X) (y : Y) (before after : List Y) → option_map part (slice_get es i) ≡ Some x
      → before ≡ map (λ e. made (part e)) (take i es) → after ≡ before ++ y ∷ [] → y ≡ made x
      → after ≡ map (λ e. made (part e)) (take (i + 1) es)
  made_more es i x y before after at so_far pushed is =
      pushed ∙ ap (λ l. l ++ y ∷ []) so_far ∙ ap (λ y. map (λ e. made (part e)) (take i es) ++ y ∷ []) is
      ∙ sym (next_taken es i x at) ∙ ap (λ (n : ℕ). map (λ e. made (part e)) (take n es)) (sym (add-one i))

-- one more of which something is so
pub one_more : {X : Type 0} (Is : ℕ → Option X → Type 0) (before after : List (Option X)) (x : X) (k : ℕ) → length before ≡ k
    → ((p : ℕ) → p < k → Is p (get_or before p None)) → after ≡ before ++ Some x ∷ [] → Is k (Some x)
    → (p : ℕ) → p < k + 1 → Is p (get_or after p None)
one_more {X} Is before after x k many so_far pushed here p within =
    let none : Option X = None in
    subst (λ (l : List (Option X)). Is p (get_or l p None)) (sym pushed)
    (elim (eq-or-lt_of_le (let le : p ≤ k = omega arith in le)) [
      | inl same ↦ subst (λ (k : ℕ). Is k (get_or (before ++ Some x ∷ []) k None)) (sym same)
          (subst (Is k) (sym (get_or_push before (Some x) none k many)) here)
      | inr less ↦ (
          let inside : p < length before = omega (arith, many) in
          subst (Is p) (sym (get_or_append_left before (Some x ∷ []) none p inside)) (so_far p less)
          )
    ])

-- a part that has begun is at superstep 0
pub first_of : {V M : Type 0} (rows : PartRows) (missing : Missing) (n p : ℕ) (part : PartState V M) → part_runs.HasBegun rows missing part.part_run
    → rows.partitions ≡ n → rows.partition ≡ p → IsFirst n p part
first_of rows missing n p part begun many is = record {
  partition_is = begun.partition_is ∙ is;
  partitions_are = begun.partitions_are ∙ many;
  place_is = begun.place_is;
}

-- the element between those before it and those after it
pub slice_get-between : {X : Type 0} (xs ys : List X) (x : X) → slice_get (xs ++ x ∷ ys) (length xs) ≡ Some x
slice_get-between [] ys x = refl
slice_get-between (y ∷ xs) ys x = slice_get-between xs ys x

-- a graph has as many edges as its vertices have as a run begins
pub beginning-edges : {V M : Type 0} (program : Program V M) (rows : Rows) → edges_of (map (beginning program) rows) ≡ edge_count rows
beginning-edges program [] = refl
beginning-edges program (row ∷ rows) =
    sum_by-cons (λ x. length x.state.edges) (beginning program row) (map (beginning program) rows)
    ∙ (ap (λ n. length row.1.edges + n) (beginning-edges program rows) ∙ sym (sum_by-cons (λ (e : ℕ × Row). length e.1.edges) row rows))
