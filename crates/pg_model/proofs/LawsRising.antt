-- Lists of rising ids: what is picked, made or counted of them is told by the ids that matter.
use Rattle.std.proofs.Common.{◌≡◌, ℕ, Bool, true, false, cond, ◌&&◌, ◌==◌, List, [], length, refl, ap, sym, ◌∙◌, true≢false, filter, flat_map, count_by}
use Rattle.std.specs.List.Sorted.{IsStrictlySortedBy}
use Rattle.std.specs.Ordering.{nat_cmp}
use Rattle.std.proofs.lemmas.Bool.{eqb-true}
use Rattle.std.proofs.lemmas.List.Kept.{IsStrictlySortedBy-filter}
use Rattle.std.proofs.lemmas.List.Sums.{length-filter}
use Rattle.std.proofs.lemmas.Map.Views.{any-filter_same}
use Rattle.pg_model.specs.Superstep.{has_id}
use Rattle.pg_model.proofs.LawsLists.{filter-filter, flat_map-filter}
use Rattle.pg_model.proofs.LawsMade.{same_rising}

-- an id is left by a filter where it was there and passes
pub has_id-filter : (test : ℕ → Bool) (is : List ℕ) (id : ℕ) → has_id (filter test is) id ≡ (test id && has_id is id)
has_id-filter test is id = any-filter_same (λ k. k == id) test (test id) (λ k e. ap test (eqb-true k id e)) is

module _ (xs ys : List ℕ) (rise : IsStrictlySortedBy nat_cmp xs) (rise' : IsStrictlySortedBy nat_cmp ys) where
  -- filters leave the same where each id that passes is in both lists or in none
  pub filter-rising : (test : ℕ → Bool)
      → ((id : ℕ) → test id ≡ true → has_id xs id ≡ has_id ys id)
      → filter test xs ≡ filter test ys
  filter-rising test same =
      same_rising (filter test xs) (filter test ys)
      (IsStrictlySortedBy-filter nat_cmp test xs rise) (IsStrictlySortedBy-filter nat_cmp test ys rise')
      (λ id. has_id-filter test xs id ∙ (by id (test id) refl ∙ sym (has_id-filter test ys id)))
    where
      by : (id : ℕ) (b : Bool) → test id ≡ b → (b && has_id xs id) ≡ (b && has_id ys id)
      by id true e = same id e
      by id false e = refl

  -- the same is made of both where nothing is made of the ids that aren't in both
  pub flat_map-rising : {X : Type 0} (f : ℕ → List X) → ((id : ℕ) → has_id xs id ≡ false → f id ≡ [])
      → ((id : ℕ) → has_id ys id ≡ false → f id ≡ []) → flat_map f xs ≡ flat_map f ys
  flat_map-rising f none none' =
      sym (flat_map-filter f both (λ id. nothing id (has_id xs id) refl (has_id ys id) refl) xs)
      ∙ (ap (flat_map f) (filter-rising both (λ id. together (has_id xs id) (has_id ys id)))
      ∙ flat_map-filter f both (λ id. nothing id (has_id xs id) refl (has_id ys id) refl) ys)
    where
      both : ℕ → Bool
      both id = has_id xs id && has_id ys id

      nothing : (id : ℕ) (a : Bool) → has_id xs id ≡ a → (b : Bool) → has_id ys id ≡ b → (a && b) ≡ false → f id ≡ []
      nothing id true e true e' t = absurd (true≢false t)
      nothing id true e false e' t = none' id e'
      nothing id false e b e' t = none id e

      together : (a b : Bool) → (a && b) ≡ true → a ≡ b
      together true true t = refl
      together true false t = sym t
      together false b t = absurd (true≢false (sym t))

  -- and the same is counted of those picked where no others pass
  pub count-rising : (picks test : ℕ → Bool) → ((id : ℕ) → picks id ≡ true → has_id xs id ≡ false → test id ≡ false)
      → ((id : ℕ) → picks id ≡ true → has_id ys id ≡ false → test id ≡ false)
      → count_by test (filter picks xs) ≡ count_by test (filter picks ys)
  count-rising picks test none none' = counted xs ∙ (ap length (filter-rising both same) ∙ sym (counted ys))
    where
      both : ℕ → Bool
      both id = cond (picks id) (test id) false

      counted : (zs : List ℕ) → count_by test (filter picks zs) ≡ length (filter both zs)
      counted zs = sym (length-filter test (filter picks zs)) ∙ ap length (filter-filter test picks both (λ id. refl) zs)

      there : (zs : List ℕ) (id : ℕ) → (picks id ≡ true → has_id zs id ≡ false → test id ≡ false) → (a b c : Bool)
          → picks id ≡ a → test id ≡ b → has_id zs id ≡ c → cond a b false ≡ true → c ≡ true
      there zs id n a b true e e' e'' t = refl
      there zs id n true true false e e' e'' t = absurd (true≢false (sym e' ∙ n e e''))
      there zs id n true false false e e' e'' t = t
      there zs id n false b false e e' e'' t = t

      same : (id : ℕ) → both id ≡ true → has_id xs id ≡ has_id ys id
      same id t =
          there xs id (none id) (picks id) (test id) (has_id xs id) refl refl refl t
          ∙ sym (there ys id (none' id) (picks id) (test id) (has_id ys id) refl refl refl t)
