-- Aggregators and combiners over whole numbers of 64 bits.
use Rattle.std.specs.Prelude.{Bool, ℤ, pos, negsuc}
use Rattle.std.specs.Int.{w64, int_min, int_max, int_wrapping_add}
use Rattle.pg_model.specs.Job.{Aggregating, Combining}

-- the greatest number, and the least
abbrev pub greatest_number : ℤ
greatest_number = pos 9223372036854775807

abbrev pub least_number : ℤ
least_number = negsuc 9223372036854775807

-- the sum in two's complement
abbrev pub long_sum : Bool → Aggregating
long_sum persistent = record { aggregate = int_wrapping_add w64; initial = pos 0; persistent = persistent }

-- the greater
abbrev pub long_max : Bool → Aggregating
long_max persistent = record { aggregate = int_max; initial = least_number; persistent = persistent }

-- the lesser of the messages
abbrev pub least_message : Combining ℤ
least_message = record { combine = int_min; initial = greatest_number }
