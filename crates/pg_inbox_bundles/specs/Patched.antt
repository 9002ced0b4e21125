-- What becomes of a bundle where messages are retracted and others are added.
use Rattle.std.specs.Prelude.{◌≡◌, ℕ, ◌==◌, ◌&&◌, not, Bool, List, [], ◌∷◌, Option, None, Some}
use Rattle.std.specs.List.{filter, list_any}
use Rattle.pg_model.specs.Job.{Combining}
use Rattle.pg_inbox_bundles.specs.Bundles.{MessageLists, bundle_of}
use Rattle.pg_inbox_bundles.specs.Changed.{AreChanged}
use Rattle.pg_inbox_bundles.specs.Outbox.{AreAllOf, RiseBySender, Outbox}
use Rattle.pg_inbox_bundles.specs.declared.logged_bundle.LoggedBundle.{LoggedBundle}

-- what this sender sent to this target is retracted
abbrev pub is_retracted : List (ℕ × ℕ) → ℕ → ℕ → Bool
is_retracted retracted sender target = list_any (λ w. (w.0 == sender) && (w.1 == target)) retracted

module _ {M : Type 0} where
  -- the sends that aren't retracted
  abbrev pub staying : List (ℕ × ℕ) → Outbox M → Outbox M
  staying retracted sent = filter (λ s. not (is_retracted retracted s.0 s.1)) sent

  -- of each sender what stays, and then what is added
  abbrev pub AreReplaced : List (ℕ × ℕ) → Outbox M → Outbox M → Outbox M → Type 0
  AreReplaced retracted added before after = AreAllOf (staying retracted before ∷ added ∷ []) after

  -- of whatever sends by rising sender the old bundle is, the new one is that of what becomes of them
  abbrev pub IsPatched : Option (Combining M) → List (ℕ × ℕ) → Outbox M → MessageLists M → MessageLists M → Type 0
  IsPatched combining retracted added old new =
      (before after : Outbox M) → RiseBySender before → AreReplaced retracted added before after
      → old ≡ bundle_of combining before → new ≡ bundle_of combining after

  -- a bundle that tells where it differs from an old one
  abbrev pub TellsChanges : MessageLists M → LoggedBundle M → Type 0
  TellsChanges old logged = elim logged.changed [ None ↦ ⊥ | Some ids ↦ AreChanged old logged.bundle ids ]
