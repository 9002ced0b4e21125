-- The numbers of the refusals of a list.
use Rattle.std.specs.Prelude.{ℕ}
use Rattle.pg_import.specs.declared.line.ImportKind.{ImportKind}
use Rattle.pg_import.specs.declared.line.ImportKind.TheVariants.{Memory, NotNumber, OutOfRange, FieldCount}

abbrev pub number_of : ImportKind → ℕ
number_of Memory = 1
number_of NotNumber = 2
number_of OutOfRange = 3
number_of FieldCount = 4
