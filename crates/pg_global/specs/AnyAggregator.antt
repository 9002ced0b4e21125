-- The aggregators over whole numbers of 64 bits.
use Rattle.std.specs.Prelude.{ℤ, pos, negsuc}
use Rattle.std.specs.Int.{w64, int_min, int_max, int_wrapping_add, int_bit_and, int_bit_or}
use Rattle.pg_model.specs.Aggregators.{greatest_number, least_number}
use Rattle.pg_global.specs.declared.aggregator.AnyAggregator.{AnyAggregator}
use Rattle.pg_global.specs.declared.aggregator.AnyAggregator.TheVariants.{LongSum, LongMin, LongMax, BitAnd, BitOr}

abbrev pub operation_of : AnyAggregator → ℤ → ℤ → ℤ
operation_of LongSum = int_wrapping_add w64
operation_of LongMin = int_min
operation_of LongMax = int_max
operation_of BitAnd = int_bit_and w64
operation_of BitOr = int_bit_or w64

-- for the bitwise and, the number whose bits are all 1
abbrev pub initial_of : AnyAggregator → ℤ
initial_of LongSum = pos 0
initial_of LongMin = greatest_number
initial_of LongMax = least_number
initial_of BitAnd = negsuc 0
initial_of BitOr = pos 0
