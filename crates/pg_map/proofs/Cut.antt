-- A list cut in two, and all of one.
use Rattle.std.proofs.Common.{◌≡◌, ℕ, ◌+◌, ◌≤◌, List, [], ◌∷◌, ◌++◌, length, take, drop, length-drop, ap, ◌∙◌, arith}
use Rattle.std.specs.List.{AllByRecursion}
use Rattle.std.proofs.lemmas.List.{take-append-drop}

module _ {X : Type 0} where
  pub cut_whole : (xs front later : List X) (n : ℕ) → front ≡ take n xs → later ≡ drop n xs → front ++ later ≡ xs
  cut_whole xs front later n first others =
      ap (λ l. l ++ later) first ∙ ap (λ l. take n xs ++ l) others ∙ take-append-drop n xs

  pub cut_leaves : (xs later : List X) (n : ℕ) → n ≤ length xs → later ≡ drop n xs → length later + n ≡ length xs
  cut_leaves xs later n within others = omega (arith, ap length others, length-drop n xs)

  pub all_front : (P : X → Type 0) (a b : List X) → AllByRecursion P (a ++ b) → AllByRecursion P a
  all_front P [] b all = tt
  all_front P (x ∷ a) b all = (all.0, all_front P a b all.1)

  pub all_later : (P : X → Type 0) (a b : List X) → AllByRecursion P (a ++ b) → AllByRecursion P b
  all_later P [] b all = all
  all_later P (x ∷ a) b all = all_later P a b all.1

  pub all_push : (P : X → Type 0) (a : List X) (x : X) → AllByRecursion P a → P x → AllByRecursion P (a ++ x ∷ [])
  all_push P [] x all here = (here, tt)
  all_push P (y ∷ a) x all here = (all.0, all_push P a x all.1 here)
