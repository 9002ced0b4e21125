-- What a bundle holds.
use Rattle.std.specs.Prelude.{Option, None, Some}
use Rattle.std.specs.List.{All}
use Rattle.std.specs.Map.{values_of}
use Rattle.pg_inbox_messages.specs.Contents.{Holds}
use Rattle.pg_inbox_messages.specs.declared.message_list.Contents.{Contents}
use Rattle.pg_inbox_bundles.specs.Bundles.{MessageLists}

-- contents hold, if there are any
abbrev pub HoldsAt : {M : Type 0} → (M → Type 0) → Option (Contents M) → Type 0
HoldsAt is_value None = Unit {0}
HoldsAt is_value (Some contents) = Holds is_value contents

-- the contents of each target hold
abbrev pub HoldAll : {M : Type 0} → (M → Type 0) → MessageLists M → Type 0
HoldAll is_value message_lists = All (Holds is_value) (values_of message_lists)
