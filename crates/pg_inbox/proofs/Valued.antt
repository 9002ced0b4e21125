-- What a vertex receives of messages that are values.
use Rattle.std.proofs.Common.{ℕ, Bool, true, false, List, [], ◌∷◌, cond, map, nat_lt, Option, None, Some}
use Rattle.std.specs.List.{AllByRecursion, flat_map}
use Rattle.std.specs.Option.{option_to_list}
use Rattle.pg_map.specs.Entries.{value_at}
use Rattle.pg_model.proofs.LawsLists.{all-append, all_to_map}
use Rattle.pg_inbox_messages.specs.Contents.{Holds, messages}
use Rattle.pg_inbox_messages.specs.declared.message_list.Contents.{Contents}
use Rattle.pg_inbox_bundles.specs.Bundles.{MessageLists}
use Rattle.pg_inbox_bundles.specs.Holding.{HoldsAt}
use Rattle.pg_inbox.specs.Inboxes.{contents_to}
use Rattle.pg_inbox_bundles.specs.Ordered.{in_order, put}

module _ {X : Type 0} (P : ℕ × X → Type 0) where
  all_put : (x : ℕ × X) (ys : List (ℕ × X)) → P x → AllByRecursion P ys → AllByRecursion P (put x ys)
  all_put x [] here h = (here, tt)
  all_put x (y ∷ ys) here h = by (nat_lt y.0 x.0) (all_put x ys here h.1)
    where
      by : (b : Bool) → AllByRecursion P (put x ys) → AllByRecursion P (cond b (y ∷ put x ys) (x ∷ y ∷ ys))
      by true later = (h.0, later)
      by false later = (here, h)

  all_in_order : (xs : List (ℕ × X)) → AllByRecursion P xs → AllByRecursion P (in_order xs)
  all_in_order [] h = tt
  all_in_order (x ∷ xs) h = all_put x (in_order xs) h.0 (all_in_order xs h.1)

module _ {M : Type 0} (is_value : M → Type 0) where
  pub values_in_order : (envelopes : List (ℕ × M)) → AllByRecursion (λ l. is_value l.1) envelopes
      → AllByRecursion is_value (messages (in_order envelopes))
  values_in_order envelopes h =
      all_to_map (λ l. l.1) is_value (in_order envelopes) (all_in_order (λ l. is_value l.1) envelopes h)

  pub values_of_all : (contents : List (Contents M)) → AllByRecursion (Holds is_value) contents
      → AllByRecursion (λ l. is_value l.1) (flat_map (λ c. c.envelopes) contents)
  values_of_all [] h = tt
  values_of_all (c ∷ contents) h =
      all-append (λ l. is_value l.1) c.envelopes (flat_map (λ c. c.envelopes) contents) h.0.1 (values_of_all contents h.1)

  -- what bundles have for a target
  pub hold_at : (id : ℕ) (bundles : List (MessageLists M)) → AllByRecursion (λ b. HoldsAt is_value (value_at id b)) bundles
      → AllByRecursion (Holds is_value) (contents_to id bundles)
  hold_at id [] h = tt
  hold_at id (b ∷ bundles) h =
      all-append (Holds is_value) (option_to_list (value_at id b)) (contents_to id bundles) (here (value_at id b) h.0) (hold_at id bundles h.1)
    where
      here : (o : Option (Contents M)) → HoldsAt is_value o → AllByRecursion (Holds is_value) (option_to_list o)
      here None h = tt
      here (Some c) h = (h, tt)
