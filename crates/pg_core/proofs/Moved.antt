-- What becomes of a core whose state, events, parts or logs change.
use Rattle.std.proofs.Common.{◌≡◌, List, Option}
use Rattle.pg_core.specs.Progress.{Progress}
use Rattle.pg_core_machine.specs.Machine.{State}
use Rattle.pg_core_machine.specs.declared.event.Event.{Event}
use Rattle.pg_inbox.specs.LoggedBundle.{Slots}
use Rattle.pg_part.specs.Part.{PartState}

-- what a core is seen as, with this state, these events and parts in place of others, is that with what they equal
pub moved : {P C A V M : Type 0} {core seen : Progress P C A V M} {state state' : State} {history history' : List Event}
    {parts parts' : List (Option (PartState V M))} {logs : Slots M} → core ≡ seen
    → state ≡ state' → history ≡ history' → parts ≡ parts'
    → record core { state = state; history = history; parts = parts; logs = logs }
    ≡ record core { state = state'; history = history'; parts = parts'; logs = logs }
moved {core = core} {logs = logs} is states histories are i =
    record core { state = states i; history = histories i; parts = are i; logs = logs }
