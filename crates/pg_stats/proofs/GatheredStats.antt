-- What partitions gathered, gathered again: what all contributions come to.
use Rattle.std.proofs.Common.{◌≡◌, ℕ, zero, suc, ◌+◌, ◌<◌, ℤ, Bool, cond, List, [], ◌∷◌, ◌++◌, map, All, FitsSigned, w64, Some, filter, refl, ap, ap₂}
use Rattle.std.proofs.Common.{◌∙◌, subst, arith, fold, flat_map, IsPermutation}
use Rattle.std.specs.List.{AllByRecursion, enumerate_from, slice_get}
use Rattle.std.specs.Prelude.{◌==◌}
use Rattle.std.proofs.lemmas.Bool.{cond_both, eq-eqb, ne_eqb}
use Rattle.std.proofs.lemmas.List.Concat.{flat_map_single}
use Rattle.std.proofs.lemmas.List.Elements.{All-head, All-tail}
use Rattle.std.proofs.lemmas.Option.{none-some}
use Rattle.pg_global.specs.Monoids.{operation_of-lawful}
use Rattle.pg_global.specs.Registry.{Registered, aggregating_of}
use Rattle.pg_global.specs.declared.registry.Registration.{Registration}
use Rattle.pg_model.specs.Job.{Aggregating}
use Rattle.pg_model.specs.Superstep.{at_place, gathered_at, gathered_from}
use Rattle.pg_stats.specs.GlobalStats.{aggregators_of}
use Rattle.pg_stats.specs.Stats.{gathered_afresh}
use Rattle.pg_global.proofs.Contributed.{at_place-append}
use Rattle.pg_stats.proofs.Cutting.{fold_in_parts, is_value_of, is_value_of-fits, operation_of-takes_any}

-- ---- one aggregator

-- what an aggregator gathers, it may gather part by part from its initial value
abbrev pub GathersParts : Aggregating → Type 0
GathersParts a =
    (value : ℤ) → FitsSigned w64 value → (whole : List ℤ) (part : ℕ → List ℤ) (ps : List ℕ) → IsPermutation whole (flat_map part ps)
    → gathered_at a value (map (λ p. fold a.aggregate a.initial (part p)) ps) ≡ gathered_at a value whole

aggregating_of-gathers_parts : (r : Registration) → GathersParts (aggregating_of r)
aggregating_of-gathers_parts r value fits whole part ps moved =
    let t = operation_of-takes_any r.kind in
    let a : Aggregating = aggregating_of r in
    fold_in_parts t (cond a.persistent value a.initial) whole part ps
    (cond_both a.persistent value a.initial (is_value_of r.kind) (λ _. is_value_of-fits r.kind value fits) (λ _. t.lawful.begins)) moved

pub all_gather_parts : (registered : Registered) → AllByRecursion GathersParts (aggregators_of registered)
all_gather_parts [] = tt
all_gather_parts (e ∷ registered) = (aggregating_of-gathers_parts e.1, all_gather_parts registered)

-- ---- the values of one partition, as contributions

-- values from a place on contribute nothing before it
at_place-before : (place k : ℕ) (values : List ℤ) → k < place → at_place k (enumerate_from place values) ≡ []
at_place-before place k [] h = refl
at_place-before place k (v ∷ values) h =
    let rest : List (ℕ × ℤ) = enumerate_from (place + 1) values in
    ap (λ (b : Bool). map (λ (c : ℕ × ℤ). c.1) (cond b ((place, v) ∷ filter (λ (c : ℕ × ℤ). c.0 == k) rest) (filter (λ (c : ℕ × ℤ). c.0 == k) rest)))
    (ne_eqb place k (λ e. omega (arith, e, h)))
    ∙ at_place-before (place + 1) k values (omega (arith, h))

-- what is gathered of contributions at a place is contributed there
at_place-afresh : (place j k : ℕ) (aggregators : List Aggregating) (a : Aggregating) (cs : List (ℕ × ℤ)) → place + j ≡ k → slice_get aggregators j ≡ Some a
    → at_place k (enumerate_from place (gathered_afresh place aggregators cs)) ≡ fold a.aggregate a.initial (at_place k cs) ∷ []
at_place-afresh place j k [] a cs e at = absurd (none-some a at)
at_place-afresh place zero k (b ∷ rest) a cs e at =
    let same : place ≡ k = omega (arith, e) in
    let is : b ≡ a = (let h : Some b ≡ Some a = at in cc) in
    let later : List (ℕ × ℤ) = enumerate_from (place + 1) (gathered_afresh (place + 1) rest cs) in
    let none : at_place k later ≡ [] = at_place-before (place + 1) k (gathered_afresh (place + 1) rest cs) (omega (arith, same)) in
    let here : ℤ = fold b.aggregate b.initial (at_place place cs) in
    ap (λ (t : Bool). map (λ (c : ℕ × ℤ). c.1) (cond t ((place, here) ∷ filter (λ (c : ℕ × ℤ). c.0 == k) later) (filter (λ (c : ℕ × ℤ). c.0 == k) later)))
    (eq-eqb place k same)
    ∙ (ap (λ l. here ∷ l) none
    ∙ (ap (λ (p : ℕ). fold b.aggregate b.initial (at_place p cs) ∷ []) same ∙ ap (λ (x : Aggregating). fold x.aggregate x.initial (at_place k cs) ∷ []) is))
at_place-afresh place (suc j) k (b ∷ rest) a cs e at =
    let later : List (ℕ × ℤ) = enumerate_from (place + 1) (gathered_afresh (place + 1) rest cs) in
    let here : ℤ = fold b.aggregate b.initial (at_place place cs) in
    ap (λ (t : Bool). map (λ (c : ℕ × ℤ). c.1) (cond t ((place, here) ∷ filter (λ (c : ℕ × ℤ). c.0 == k) later) (filter (λ (c : ℕ × ℤ). c.0 == k) later)))
    (ne_eqb place k (λ same. omega (arith, e, same)))
    ∙ at_place-afresh (place + 1) j k rest a cs (omega (arith, e)) at

-- ---- all places

at_place-flat_map : (k : ℕ) (h : ℕ → List (ℕ × ℤ)) (ps : List ℕ) → at_place k (flat_map h ps) ≡ flat_map (λ p. at_place k (h p)) ps
at_place-flat_map k h [] = refl
at_place-flat_map k h (p ∷ ps) = at_place-append k (h p) (flat_map h ps) ∙ ap (λ l. at_place k (h p) ++ l) (at_place-flat_map k h ps)

-- two lists of contributions come to the same where they do at each place that there is
gathered_from-same : (place : ℕ) (aggregators : List Aggregating) (values : List ℤ) (cs ds : List (ℕ × ℤ)) → AllByRecursion GathersParts aggregators
    → All (FitsSigned w64) values
    → ((j : ℕ) (a : Aggregating) → GathersParts a → slice_get aggregators j ≡ Some a → (value : ℤ) → FitsSigned w64 value
    → gathered_at a value (at_place (place + j) cs) ≡ gathered_at a value (at_place (place + j) ds))
    → gathered_from place aggregators values cs ≡ gathered_from place aggregators values ds
unfolding gathered_from
gathered_from-same place [] values cs ds gather fit same = refl
gathered_from-same place (a ∷ rest) [] cs ds gather fit same = refl
gathered_from-same place (a ∷ rest) (value ∷ values) cs ds gather fit same =
    let zero_more : place + 0 ≡ place = omega arith in
    ap₂ ◌∷◌
    (subst (λ (p : ℕ). gathered_at a value (at_place p cs) ≡ gathered_at a value (at_place p ds)) zero_more
    (same 0 a gather.0 refl value (All-head (FitsSigned w64) value values fit)))
    (gathered_from-same (place + 1) rest values cs ds gather.1 (All-tail (FitsSigned w64) value values fit)
    (λ j b parts at v fits. subst (λ (p : ℕ). gathered_at b v (at_place p cs) ≡ gathered_at b v (at_place p ds)) (shifted j) (same (suc j) b parts at v fits)))
  where
    shifted : (j : ℕ) → place + suc j ≡ place + 1 + j
    shifted j = omega arith

-- what parts gathered of their contributions comes to what all contributions do
pub gathered_in_parts : (aggregators : List Aggregating) (values : List ℤ) (whole : List (ℕ × ℤ)) (part : ℕ → List (ℕ × ℤ)) (ps : List ℕ)
    → AllByRecursion GathersParts aggregators → All (FitsSigned w64) values
    → ((k : ℕ) → IsPermutation (at_place k whole) (flat_map (λ p. at_place k (part p)) ps))
    → gathered_from 0 aggregators values (flat_map (λ p. enumerate_from 0 (gathered_afresh 0 aggregators (part p))) ps)
    ≡ gathered_from 0 aggregators values whole
gathered_in_parts aggregators values whole part ps gather fit moved =
    gathered_from-same 0 aggregators values _ whole gather fit (λ j a parts at value fits.
    ap (gathered_at a value)
    (at_place-flat_map (0 + j) (λ p. enumerate_from 0 (gathered_afresh 0 aggregators (part p))) ps
    ∙ (ap (λ (f : ℕ → List ℤ). flat_map f ps) (λ i p. at_place-afresh 0 j (0 + j) aggregators a (part p) refl at i)
    ∙ flat_map_single (λ p. fold a.aggregate a.initial (at_place (0 + j) (part p))) ps))
    ∙ parts value fits (at_place (0 + j) whole) (λ p. at_place (0 + j) (part p)) ps (moved (0 + j)))

-- ---- of nothing

-- of no contributions each gathers its initial value
pub gathered_afresh-none : (place : ℕ) (aggregators : List Aggregating) → gathered_afresh place aggregators [] ≡ map (λ a. a.initial) aggregators
gathered_afresh-none place [] = refl
gathered_afresh-none place (a ∷ rest) = ap (λ l. a.initial ∷ l) (gathered_afresh-none (place + 1) rest)

-- from the initial values on too
pub gathered_from-none : (place : ℕ) (aggregators : List Aggregating)
    → gathered_from place aggregators (map (λ a. a.initial) aggregators) [] ≡ map (λ a. a.initial) aggregators
unfolding gathered_from
gathered_from-none place [] = refl
gathered_from-none place (a ∷ rest) =
    ap₂ ◌∷◌ (cond_both a.persistent a.initial a.initial (λ (x : ℤ). x ≡ a.initial) (λ _. refl) (λ _. refl))
    (gathered_from-none (place + 1) rest)

-- which are numbers of 64 bits
pub initial_values_fit : (registered : Registered) → All (FitsSigned w64) (map (λ a. a.initial) (aggregators_of registered))
initial_values_fit [] k d h = absurd (omega (arith, h))
initial_values_fit (e ∷ registered) zero d h = (operation_of-lawful e.1.kind).begins
initial_values_fit (e ∷ registered) (suc k) d h = initial_values_fit registered k d (omega (arith, h))
