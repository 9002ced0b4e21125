-- Bundles with messages replaced.
use Rattle.std.proofs.Common.{◌≡◌, ℕ, List, Option, subst₂}
use Rattle.pg_inbox.specs.Handed.{LoggedBundle, Outbox}
use Rattle.pg_model.specs.Job.{Combining}
use Rattle.pg_part_routing.specs.Sending.{IsRebuilt}

module _ {M : Type 0} (combining : Option (Combining M)) where
  -- of the same messages and bundles
  pub same_rebuilt : {w w' : List (ℕ × ℕ)} {a a' : Outbox M} {b b' l l' : Option (LoggedBundle M)} → w ≡ w' → a ≡ a' → b ≡ b' → l ≡ l'
      → IsRebuilt combining w a b l → IsRebuilt combining w' a' b' l'
  same_rebuilt {w} {w'} {a} {a'} {b} {b'} {l} {l'} ws ss bs ls h =
      subst₂ (λ (b : Option (LoggedBundle M)) (l : Option (LoggedBundle M)). IsRebuilt combining w' a' b l) bs ls
      (subst₂ (λ (w : List (ℕ × ℕ)) (a : Outbox M). IsRebuilt combining w a b l) ws ss h)
