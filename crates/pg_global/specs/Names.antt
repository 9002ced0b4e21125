-- What a registry's entries are to a contract.
use Rattle.std.specs.Prelude.{List, map}
use Rattle.std.specs.String.{string_bytes}
use Rattle.std.specs.Prelude.{String}
use Rattle.std.specs.Global.{Global}
use Rattle.pg_global.specs.Registry.{Registered}
use Rattle.pg_global.specs.declared.registry.Registration.{Registration}

abbrev pub registered_of : List (String Global × Registration) → Registered
registered_of entries = map (λ e. (string_bytes e.0, e.1)) entries
