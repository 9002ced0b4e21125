-- Where the bundles of two runs come to the same.
use Rattle.std.specs.Prelude.{◌≡◌, ℕ, List, [], ◌∷◌, map, Option}
use Rattle.pg_model.specs.Job.{Combining}
use Rattle.pg_model.specs.Superstep.{delivered}
use Rattle.pg_inbox_bundles.specs.Bundles.{MessageLists, bundle_of}
use Rattle.pg_inbox_bundles.specs.Changed.{AreSameAt}
use Rattle.pg_inbox_bundles.specs.Outbox.{AreAllOf, Outbox, without_senders}

module _ {M : Type 0} where
  -- bundles that are the same at a target, one by one
  abbrev pub AllSameAt : ℕ → List (MessageLists M) → List (MessageLists M) → Type 0
  AllSameAt id [] [] = Unit {0}
  AllSameAt id [] (b ∷ new) = ⊥
  AllSameAt id (a ∷ old) [] = ⊥
  AllSameAt id (a ∷ old) (b ∷ new) = AreSameAt a b id × AllSameAt id old new

  -- of whatever sends these are the bundles: where they are the same at a target, the same is delivered to it
  abbrev pub DeliverAlike : Option (Combining M) → ℕ → List (MessageLists M) → List (MessageLists M) → Type 0
  DeliverAlike combining id old new =
      (lists lists' : List (Outbox M)) (all all' : Outbox M) → old ≡ map (bundle_of combining) lists
      → new ≡ map (bundle_of combining) lists'
      → AreAllOf lists all → AreAllOf lists' all' → AllSameAt id old new
      → delivered combining id (without_senders all) ≡ delivered combining id (without_senders all')
