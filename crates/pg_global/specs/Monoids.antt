-- Each aggregator and each combiner at hand obeys the laws.
use Rattle.std.specs.Prelude.{FitsSigned}
use Rattle.std.specs.Int.{w64}
use Rattle.pg_model.specs.Folds.{IsCommutativeMonoid}
use Rattle.pg_model.proofs.LawsFolds.{IsCommutativeMonoid-int_max, IsCommutativeMonoid-int_min}
use Rattle.pg_model.proofs.LawsFolds.{IsCommutativeMonoid-int_wrapping_add}
use Rattle.pg_global.specs.Bits.{IsCommutativeMonoid-int_bit_and, IsCommutativeMonoid-int_bit_or}
use Rattle.pg_global.specs.AnyAggregator.{operation_of, initial_of}
use Rattle.pg_global.specs.Combiner.{IsLawful, combining_of}
use Rattle.pg_global.specs.declared.aggregator.AnyAggregator.{AnyAggregator}
use Rattle.pg_global.specs.declared.aggregator.AnyAggregator.TheVariants.{LongSum, LongMin, LongMax, BitAnd, BitOr}
use Rattle.pg_global.specs.declared.combiner.AnyCombiner.{AnyCombiner}
use Rattle.pg_global.specs.declared.combiner.AnyCombiner.TheVariants.{NoCombiner, Min, Max, Sum}

pub operation_of-lawful : (a : AnyAggregator) → IsCommutativeMonoid (FitsSigned w64) (operation_of a) (initial_of a)
operation_of-lawful LongSum = IsCommutativeMonoid-int_wrapping_add
operation_of-lawful LongMin = IsCommutativeMonoid-int_min
operation_of-lawful LongMax = IsCommutativeMonoid-int_max
operation_of-lawful BitAnd = IsCommutativeMonoid-int_bit_and
operation_of-lawful BitOr = IsCommutativeMonoid-int_bit_or

pub combining_of-lawful : (c : AnyCombiner) → IsLawful (FitsSigned w64) (combining_of c)
combining_of-lawful NoCombiner = tt
combining_of-lawful Min = IsCommutativeMonoid-int_min
combining_of-lawful Max = IsCommutativeMonoid-int_max
combining_of-lawful Sum = IsCommutativeMonoid-int_wrapping_add
