-- Worked rows, by computation.
use Rattle.std.specs.Prelude.{◌≡◌, ℤ, pos, [], ◌∷◌, None, Some, refl}
use Rattle.pg_model.specs.Aggregators.{least_message}
use Rattle.pg_model.specs.Superstep.{delivered}
use Rattle.pg_inbox_bundles.specs.Bundles.{bundle_of, entries, entries_to}
use Rattle.pg_inbox_bundles.specs.Outbox.{Outbox, without_senders}

abbrev three : Outbox ℤ
three = (1, 4, pos 3) ∷ (3, 4, pos 2) ∷ (3, 5, pos 7) ∷ []

abbrev four : Outbox ℤ
four = (1, 4, pos 3) ∷ (2, 4, pos 9) ∷ (3, 4, pos 2) ∷ (3, 5, pos 7) ∷ []

-- combined by the least, each target has one entry, which stands for all messages to it
combined_entries : entries (bundle_of (Some least_message) three)
    ≡ record { target = 4; from = None; message = pos 2; count = 2 }
    ∷ record { target = 5; from = None; message = pos 7; count = 1 } ∷ []
combined_entries = refl

-- without a combiner each message has its own, by target, sender and order
entry_of_each_message : entries (bundle_of None three)
    ≡ record { target = 4; from = Some 1; message = pos 3; count = 1 }
    ∷ record { target = 4; from = Some 3; message = pos 2; count = 1 }
    ∷ record { target = 5; from = Some 3; message = pos 7; count = 1 } ∷ []
entry_of_each_message = refl

combined_inbox : delivered (Some least_message) 4 (without_senders four) ≡ pos 2 ∷ []
combined_inbox = refl

inbox_in_order : delivered None 4 (without_senders four) ≡ pos 3 ∷ pos 9 ∷ pos 2 ∷ []
inbox_in_order = refl

-- the same fold of fewer messages is another entry
count_changes : entries_to 4 (bundle_of (Some least_message) ((3, 4, pos 2) ∷ []))
    ≡ record { target = 4; from = None; message = pos 2; count = 1 } ∷ []
count_changes = refl
