-- Aggregators by name, in the order of registration.
use Rattle.std.specs.Prelude.{ℕ, ◌==◌, Bool, cond, not, ◌&&◌, ◌||◌, List, [], ◌∷◌, ◌++◌, length, nat_le, Option, None}
use Rattle.std.specs.Prelude.{Some, is_some, map}
use Rattle.std.specs.Char.{is_ascii_alphanumeric}
use Rattle.std.specs.List.{list_all, position_from}
use Rattle.std.specs.Str.{bytes_eq}
use Rattle.pg_global.specs.AnyAggregator.{operation_of, initial_of}
use Rattle.pg_global.specs.declared.registry.RegisterFault.{RegisterFault}
use Rattle.pg_global.specs.declared.registry.RegisterFault.TheVariants.{BadName, NameTaken, TooMany}
use Rattle.pg_global.specs.declared.registry.Registration.{Registration}
use Rattle.pg_model.specs.Job.{Aggregating}

-- names, as bytes, with what is registered under them
abbrev pub Registered : Type 0
Registered = List (List ℕ × Registration)

-- an ASCII letter or digit, `_` or `-`
abbrev pub is_name_byte : ℕ → Bool
is_name_byte b = is_ascii_alphanumeric b || ((b == 95) || (b == 45))

-- 1 to 64 of them
abbrev pub is_name : List ℕ → Bool
is_name name = (nat_le 1 (length name) && nat_le (length name) 64) && list_all is_name_byte name

-- the place of a name
abbrev pub place_of : List ℕ → Registered → Option ℕ
place_of name registered = position_from (bytes_eq name) 0 (map (λ e. e.0) registered)

-- why a name is refused, in the order of testing
unfoldable pub refusal_of : Registered → List ℕ → Option RegisterFault
refusal_of registered name =
    cond (not (is_name name)) (Some BadName)
    (cond (is_some (place_of name registered)) (Some NameTaken)
    (cond (nat_le 16 (length registered)) (Some TooMany) None))

-- the first name of a list that is refused after those before it, and why
unfoldable pub first_refusal : Registered → Registered → Option RegisterFault
first_refusal registered [] = None
first_refusal registered (e ∷ es) =
    elim (refusal_of registered e.0) [ None ↦ first_refusal (registered ++ e ∷ []) es | Some fault ↦ Some fault ]

-- an aggregator of a job
abbrev pub aggregating_of : Registration → Aggregating
aggregating_of r = record { aggregate = operation_of r.kind; initial = initial_of r.kind; persistent = r.persistent }
