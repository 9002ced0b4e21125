-- Two of which both are there, or one is missing; and two facts of one result.
use Rattle.std.proofs.Common.{◌≡◌, Option, None, Some, ap, refl, sym, inl, inr, ◌⊎◌}
use Rattle.std.specs.Option.{option_zip}
use Rattle.std.specs.Prelude.{Result, Ok, Err, IfOk}
use Rattle.std.proofs.lemmas.Option.{none-some, same_Some}

module _ {A B : Type 0} where
  pub both_there : (a : Option A) (b : Option B) (x : A) (y : B) → option_zip a b ≡ Some (x, y) → (a ≡ Some x) × (b ≡ Some y)
  both_there None b x y e = absurd (none-some (x, y) e)
  both_there (Some u) None x y e = absurd (none-some (x, y) e)
  both_there (Some u) (Some v) x y e = let same = same_Some (u, v) (x, y) e in (ap (λ (q : A × B). Some q.0) same, ap (λ (q : A × B). Some q.1) same)

  pub one_missing : (a : Option A) (b : Option B) → option_zip a b ≡ None → (a ≡ None) ⊎ (b ≡ None)
  one_missing None b e = inl refl
  one_missing (Some u) None e = inr refl
  one_missing (Some u) (Some v) e = absurd (none-some (u, v) (sym e))

pub if_ok_both : {T E : Type 0} (r : Result T E) (P Q R : T → Type 0) → ((x : T) → P x → Q x → R x) → IfOk r P → IfOk r Q → IfOk r R
if_ok_both (Ok x) P Q R f p q = f x p q
if_ok_both (Err e) P Q R f p q = tt
