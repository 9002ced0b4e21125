use Rattle.std.proofs.Common.{◌≡◌, ℕ, zero, suc, ◌<◌, ◌/◌, ◌%◌, ◌^◌, ◌==◌, true, false, List, Option, None, Some, ℤ, negsuc, ◌∷◌, [], slice_get, refl}
use Rattle.std.proofs.Common.{sym, ap, ◌∙◌, arith}
use Rattle.std.proofs.Math.Nat.{div-eq_of_lt}
use Rattle.std.proofs.Math.Pow.{pow-lt}
use Rattle.pg_model.specs.Job.{has_place}
use Rattle.pg_program.specs.Context.{ShowsDeclared}
use Rattle.tests_runs.proofs.program.context.Goals as goal

-- the set of places 1 has the first place alone
only_first : (place : ℕ) → has_place 1 place ≡ true → place ≡ 0
only_first zero h = refl
only_first (suc k) h =
    let more : 1 < 2 ^ suc k = pow-lt {i = 0} {j = suc k} (omega arith) in
    let none : 1 / 2 ^ suc k ≡ 0 = div-eq_of_lt more in
    let wrong : false ≡ true = sym (ap (λ (n : ℕ). n % 2 == 1) none) ∙ h in
    cc

-- a view of two places, of which the first is shown
shows : (superstep : ℕ) (aggregates : List (Option ℤ)) → aggregates ≡ Some (negsuc 3) ∷ None ∷ []
    → ShowsDeclared (record { reads = 1; writes = 1; total_vertices = true; total_edges = true })
    (record { superstep = superstep; aggregates = aggregates; total_vertices = Some 6; total_edges = Some 8 })
shows superstep aggregates listed = record {
  aggregates = λ place declared.
      let first = only_first place declared in
      let shown : slice_get aggregates place ≡ Some (Some (negsuc 3)) = rw (first, listed) in
      record { value = negsuc 3; at = shown };
  total_vertices = refl;
  total_edges = refl;
}

pub returns-clause-shown : goal.returns-clause-shown
returns-clause-shown c = rw c.new-3.ensures (shows _ _ (c.from_vec.ensures ∙ c.in_ok-vec.ensures.items))
