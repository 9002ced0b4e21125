-- A program sees what it has declared.
use Rattle.std.proofs.Common.{◌≡◌, ℕ, zero, suc, ℤ, ◌+◌, ◌*◌, ◌/◌, ◌%◌, ◌^◌, ◌<◌, ◌≤◌, ◌&&◌, Bool, true, false, cond, List, [], ◌∷◌, length}
use Rattle.std.proofs.Common.{None, Some, ⊎_elim, refl, sym, ap, ◌∙◌, arith}
use Rattle.std.specs.Prelude.{◌==◌, is_some}
use Rattle.std.specs.List.{slice_get}
use Rattle.std.proofs.Math.Nat.{lt-div-mul-add, div-eq_of_lt, pow-le-pow_right, zero-mul}
use Rattle.std.proofs.lemmas.Bool.{cases_lt, eqb-true}
use Rattle.std.proofs.lemmas.Nat.{pow_pos}
use Rattle.pg_model.specs.Job.{has_place}
use Rattle.pg_model.specs.Superstep.{shown, view_of}
use Rattle.pg_model.specs.declared.view.Declared.{Declared}
use Rattle.pg_model.specs.declared.view.Visible.{Visible}
use Rattle.pg_program.specs.Context.{ShowsDeclared}
use Rattle.pg_global.specs.Master.{has_places}

-- a place below the length has a value
element : {X : Type 0} (xs : List X) (i : ℕ) → i < length xs → (x : X) × (slice_get xs i ≡ Some x)
element [] i within = absurd (omega arith)
element (x ∷ xs) zero within = (x, refl)
element (x ∷ xs) (suc i) within = element xs i (omega arith)

and_left : (a b : Bool) → (a && b) ≡ true → a ≡ true
and_left true b h = refl
and_left false b h = h

slice_get-shown : (places p : ℕ) (values : List ℤ) (i : ℕ) (v : ℤ) → slice_get values i ≡ Some v
    → slice_get (shown places p values) i ≡ Some (cond (has_place places (p + i)) (Some v) None)
slice_get-shown places p [] i v h = let k : None ≡ Some v = h in cc
slice_get-shown places p (x ∷ values) zero v h =
    let same : x ≡ v = (let k : Some x ≡ Some v = h in cc) in
    let here : p ≡ p + 0 = omega arith in
    ap (λ (z : ℤ). Some (cond (has_place places p) (Some z) None)) same ∙ ap (λ (n : ℕ). Some (cond (has_place places n) (Some v) None)) here
slice_get-shown places p (x ∷ values) (suc i) v h =
    let there : (p + 1) + i ≡ p + suc i = omega arith in
    slice_get-shown places (p + 1) values i v h ∙ ap (λ (n : ℕ). Some (cond (has_place places n) (Some v) None)) there

none_past : (places n place : ℕ) → places / 2 ^ n ≡ 0 → n ≤ place → has_place places place ≡ false
none_past places n place none more =
    let below : places < places / 2 ^ n * 2 ^ n + 2 ^ n = lt-div-mul-add (pow_pos n) in
    let zero_times : places / 2 ^ n * 2 ^ n ≡ 0 = ap (λ (q : ℕ). q * 2 ^ n) none ∙ zero-mul (2 ^ n) in
    let higher : 2 ^ n ≤ 2 ^ place = pow-le-pow_right (omega arith) more in
    let gone : places / 2 ^ place ≡ 0 = div-eq_of_lt (omega (arith, below, zero_times, higher)) in
    ap (λ (q : ℕ). q % 2 == 1) gone

some_cond : {X : Type 0} (b : Bool) (x : X) → is_some (cond b (Some x) None) ≡ b
some_cond true x = refl
some_cond false x = refl

pub shows_declared : (declared : Declared) (s n : ℕ) (v : Visible) → has_places declared n ≡ true → length v.values ≡ n
    → ShowsDeclared declared (view_of declared s v)
unfolding view_of
shows_declared declared s n v registered places =
    let none : declared.reads / 2 ^ n ≡ 0 =
    eqb-true (declared.reads / 2 ^ n) 0 (and_left (declared.reads / 2 ^ n == 0) (declared.writes / 2 ^ n == 0) registered) in
    record {
      aggregates = λ place declares.
          ⊎_elim
          (λ (l : place < n).
          let f = element v.values place (omega arith) in
          record {
            value = f.0;
            at =
                slice_get-shown declared.reads 0 v.values place f.0 f.1
                ∙ ap (λ (k : ℕ). Some (cond (has_place declared.reads k) (Some f.0) None)) (let e : 0 + place ≡ place = omega arith in e)
                ∙ ap (λ b. Some (cond b (Some f.0) None)) declares;
          })
          (λ (l : n ≤ place). let k : false ≡ true = sym (none_past declared.reads n place none l) ∙ declares in cc)
          (cases_lt place n);
      total_vertices = some_cond declared.total_vertices v.total_vertices;
      total_edges = some_cond declared.total_edges v.total_edges;
    }
