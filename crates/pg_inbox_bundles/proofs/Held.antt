-- What bundles hold as they are made.
use Rattle.std.proofs.Common.{ℕ, List, [], ◌∷◌, Option, None, Some}
use Rattle.std.specs.BTreeMap.{insert_entry, is_at}
use Rattle.std.specs.List.{AllByRecursion}
use Rattle.std.specs.Map.{remove_entry, values_of}
use Rattle.std.specs.Option.{IfSome}
use Rattle.std.specs.Ordering.{nat_cmp}
use Rattle.std.proofs.lemmas.List.Elements.{All-from_recursion}
use Rattle.std.proofs.lemmas.Map.Views.{All-map-remove_entry, All-values-insert_entry, IfSome-lookup_from_All}
use Rattle.pg_map.specs.Entries.{value_at, with_changes}
use Rattle.pg_inbox_messages.specs.Contents.{Holds}
use Rattle.pg_inbox_messages.specs.declared.message_list.Contents.{Contents}
use Rattle.pg_inbox_bundles.specs.Bundles.{MessageLists}
use Rattle.pg_inbox_bundles.specs.Holding.{HoldAll, HoldsAt}
use Rattle.pg_model.proofs.LawsLists.{all_to_map}

module _ {M : Type 0} (is_value : M → Type 0) where
  -- of each target
  pub hold-all : (message_lists : MessageLists M) → AllByRecursion (λ e. Holds is_value e.1) message_lists → HoldAll is_value message_lists
  hold-all message_lists hold = All-from_recursion (Holds is_value) (values_of message_lists) (all_to_map (λ e. e.1) (Holds is_value) message_lists hold)

  -- after changes that hold
  pub hold-changes : (changes : List (ℕ × Option (Contents M))) (old : MessageLists M) → AllByRecursion (λ c. HoldsAt is_value c.1) changes
      → HoldAll is_value old → HoldAll is_value (with_changes changes old)
  hold-changes [] old h before = before
  hold-changes ((id, None) ∷ changes) old h before =
      hold-changes changes (remove_entry (is_at (nat_cmp id)) old) h.1 (All-map-remove_entry (is_at (nat_cmp id)) (λ e. e.1) (Holds is_value) old before)
  hold-changes ((id, Some contents) ∷ changes) old h before =
      hold-changes changes (insert_entry nat_cmp old id contents) h.1 (All-values-insert_entry nat_cmp id contents (Holds is_value) old before h.0)

  pub holds_at : (id : ℕ) (b : MessageLists M) → HoldAll is_value b → HoldsAt is_value (value_at id b)
  holds_at id b h = by (value_at id b) (IfSome-lookup_from_All (Holds is_value) (is_at (nat_cmp id)) b h)
    where
      by : (o : Option (Contents M)) → IfSome o (Holds is_value) → HoldsAt is_value o
      by None h = tt
      by (Some c) h = h
