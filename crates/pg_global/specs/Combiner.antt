-- The laws of combiners, and the combiners over whole numbers of 64 bits.
use Rattle.std.specs.Prelude.{ℤ, pos, Option, None, Some, IfSome}
use Rattle.std.specs.Int.{w64, int_max, int_wrapping_add}
use Rattle.pg_model.specs.Aggregators.{least_number, least_message}
use Rattle.pg_model.specs.Folds.{IsCommutativeMonoid}
use Rattle.pg_model.specs.Job.{Combining}
use Rattle.pg_global.specs.declared.combiner.AnyCombiner.{AnyCombiner}
use Rattle.pg_global.specs.declared.combiner.AnyCombiner.TheVariants.{NoCombiner, Min, Max, Sum}

-- the laws, where it combines: it is associative and commutative, the initial message is neutral, and both stay among
-- the values
abbrev pub IsLawful : {M : Type 0} → (M → Type 0) → Option (Combining M) → Type 0
IsLawful is_value combining = IfSome combining (λ c. IsCommutativeMonoid is_value c.combine c.initial)

-- the greatest of the messages
abbrev pub greatest_message : Combining ℤ
greatest_message = record { combine = int_max; initial = least_number }

-- their sum in two's complement
abbrev pub message_sum : Combining ℤ
message_sum = record { combine = int_wrapping_add w64; initial = pos 0 }

abbrev pub combining_of : AnyCombiner → Option (Combining ℤ)
combining_of NoCombiner = None
combining_of Min = Some least_message
combining_of Max = Some greatest_message
combining_of Sum = Some message_sum
