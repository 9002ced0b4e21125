-- Parts of a list of messages.
use Rattle.std.proofs.Common.{◌≡◌, ℕ, ◌+◌, ◌≤◌, List, [], ◌∷◌, ◌++◌, length, take, drop, refl, ap, ap₂, ◌∙◌, arith, length-append, length-drop}
use Rattle.std.proofs.Math.Seq.{drop-append_seam}
use Rattle.std.proofs.lemmas.List.{drop-append-le, take-append-le}
use Rattle.pg_model.proofs.LawsLists.{all_weaker}
use Rattle.pg_inbox.specs.Parts.{AreWithin, inboxes_in}
use Rattle.pg_inbox.specs.declared.delivered.Delivered.{Delivered}

module _ {M : Type 0} (xs ys : List M) where
  -- parts of a list are the same parts of a longer one
  pub longer : (parts : List Delivered) → AreWithin xs parts → inboxes_in (xs ++ ys) parts ≡ inboxes_in xs parts
  longer [] within = refl
  longer (p ∷ parts) within = ap₂ ◌∷◌ (ap (λ l. (p.id, l)) here) (longer parts within.1)
    where
      here : take p.count (drop p.first (xs ++ ys)) ≡ take p.count (drop p.first xs)
      here =
          ap (take p.count) (drop-append-le p.first xs ys (omega (arith, within.0)))
          ∙ take-append-le p.count (drop p.first xs) ys (omega (arith, within.0, length-drop p.first xs))

  pub within_longer : (parts : List Delivered) → AreWithin xs parts → AreWithin (xs ++ ys) parts
  within_longer parts within =
      all_weaker (λ p. p.first + p.count ≤ length xs) (λ p. p.first + p.count ≤ length (xs ++ ys))
      (λ p w. omega (arith, w, length-append xs ys)) parts within

  -- one part more, of all that was added
  pub added : (parts : List Delivered) (id : ℕ) {all : List M} {first : ℕ} → AreWithin xs parts → all ≡ xs ++ ys → first ≡ length xs
      → inboxes_in all parts ++ (id, drop first all) ∷ [] ≡ inboxes_in xs parts ++ (id, ys) ∷ []
  added parts id within is at =
      ap₂ (λ l k. inboxes_in l parts ++ (id, drop k l) ∷ []) is at
      ∙ ap₂ (λ l d. l ++ (id, d) ∷ []) (longer parts within) (drop-append_seam xs ys)
