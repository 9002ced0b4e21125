-- What is among ids that are put together of others.
use Rattle.std.proofs.Common.{◌≡◌, ℕ, ◌+◌, ◌<◌, ◌==◌, ◌||◌, ◌&&◌, Bool, true, false, List, [], ◌∷◌, ◌++◌}
use Rattle.std.proofs.Common.{length, take, get_or, refl, sym, ap, ap₂, ◌∙◌, true≢false, inl, inr, ◌⊎◌}
use Rattle.std.proofs.lemmas.Bool.{cases_Bool}
use Rattle.std.proofs.lemmas.List.{take_more}
use Rattle.pg_model.specs.Superstep.{has_id}
use Rattle.pg_inbox_bundles.proofs.Differing.{has_id-append}

pub or_false : (b : Bool) → (b || false) ≡ b
or_false true = refl
or_false false = refl

pub and_false : (b : Bool) → (b && false) ≡ false
and_false true = refl
and_false false = refl

-- two that both hold
pub both : (a b : Bool) → (a && b) ≡ true → (a ≡ true) × (b ≡ true)
both true b h = (refl, h)
both false b h = absurd (true≢false (sym h))

pub neither : (a b : Bool) → (a || b) ≡ false → (a ≡ false) × (b ≡ false)
neither true b h = absurd (true≢false h)
neither false b h = (refl, h)

pub not_second : (a b : Bool) → (a && b) ≡ false → a ≡ true → b ≡ false
not_second true b h e = h
not_second false b h e = absurd (true≢false (sym e))

-- what isn't among two lists put together is in neither
pub in_neither : (xs ys zs : List ℕ) → zs ≡ xs ++ ys → (id : ℕ) → has_id zs id ≡ false → (has_id xs id ≡ false) × (has_id ys id ≡ false)
in_neither xs ys zs are id h = neither (has_id xs id) (has_id ys id) (sym (has_id-append xs ys id) ∙ (sym (ap (λ l. has_id l id) are) ∙ h))

-- and what is in neither isn't among both
pub outside : (xs ys : List ℕ) (id : ℕ) → has_id xs id ≡ false → has_id ys id ≡ false → has_id (xs ++ ys) id ≡ false
outside xs ys id e f = has_id-append xs ys id ∙ ap₂ ◌||◌ e f

-- what is among two lists put together is in one of them
pub in_either : (xs ys : List ℕ) (id : ℕ) → has_id (xs ++ ys) id ≡ true → (has_id xs id ≡ true) ⊎ (has_id ys id ≡ true)
in_either xs ys id h =
    elim (cases_Bool (has_id xs id)) [
      | inl here ↦ inl here
      | inr apart ↦ inr (sym (has_id-append xs ys id ∙ ap (λ (b : Bool). b || has_id ys id) apart) ∙ h)
    ]

-- what passes a test of two lists put together
pub or_and_more : (o a b p : Bool) → ((o || (a && p)) || (b && p)) ≡ (o || ((a || b) && p))
or_and_more true a b p = refl
or_and_more false true true true = refl
or_and_more false true true false = refl
or_and_more false true false true = refl
or_and_more false true false false = refl
or_and_more false false b p = refl

-- and what passes one of two tests
pub or_and_other : (o a p r : Bool) → ((o || (a && p)) || (a && r)) ≡ (o || (a && (p || r)))
or_and_other true a p r = refl
or_and_other false true p r = refl
or_and_other false false p r = refl

-- what is among the first of a list and one more
pub has_id-more : (ids : List ℕ) (i id q : ℕ) → i < length ids → id ≡ get_or ids i id
    → has_id (take (i + 1) ids) q ≡ (has_id (take i ids) q || (id == q))
has_id-more ids i id q within here =
    ap (λ l. has_id l q) (take_more ids i id within ∙ ap (λ x. take i ids ++ x ∷ []) (sym here))
    ∙ has_id-append (take i ids) (id ∷ []) q ∙ ap (λ b. has_id (take i ids) q || b) (or_false (id == q))
