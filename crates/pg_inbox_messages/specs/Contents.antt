-- The messages to one target, and what they come to.
use Rattle.std.specs.Prelude.{◌≡◌, ℕ, false, List, map, Option, Some}
use Rattle.std.specs.List.{AllByRecursion, fold}
use Rattle.std.specs.Option.{option_map}
use Rattle.pg_model.specs.Job.{Combining}
use Rattle.pg_model.specs.Superstep.{is_empty}
use Rattle.pg_inbox_messages.specs.declared.message_list.Contents.{Contents}

module _ {M : Type 0} where
  abbrev pub messages : List (ℕ × M) → List M
  messages envelopes = map (λ l. l.1) envelopes

  -- the fold of messages from the initial message, where they are combined
  abbrev pub folded : Option (Combining M) → List M → Option M
  folded combining ms = option_map (λ c. fold c.combine c.initial ms) combining

  -- these messages, and what they come to
  abbrev pub contents_of : Option (Combining M) → List (ℕ × M) → Contents M
  contents_of combining envelopes = record { envelopes = envelopes; folded = folded combining (messages envelopes) }

  -- those of each target, of messages by target
  abbrev pub message_lists_of : Option (Combining M) → List (ℕ × List (ℕ × M)) → List (ℕ × Contents M)
  message_lists_of combining groups = map (λ g. (g.0, contents_of combining g.1)) groups

  -- there is a message, and each is a value of its type
  abbrev pub IsEnvelopes : (M → Type 0) → List (ℕ × M) → Type 0
  IsEnvelopes is_value envelopes = (is_empty envelopes ≡ false) × AllByRecursion (λ l. is_value l.1) envelopes

  abbrev pub Holds : (M → Type 0) → Contents M → Type 0
  Holds is_value contents = IsEnvelopes is_value contents.envelopes

-- values as changes to them
abbrev pub as_changes : {X : Type 0} → List (ℕ × X) → List (ℕ × Option X)
as_changes entries = map (λ e. (e.0, Some e.1)) entries
