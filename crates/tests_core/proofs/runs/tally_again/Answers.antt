use Rattle.std.proofs.Common.{refl}
use Rattle.pg_global.specs.Registry.{first_refusal}
use Rattle.tests_core.proofs.runs.tally_again.Goals as goal

pub again-requires-clause-lawful : goal.again-requires-clause-lawful
unfolding first_refusal
again-requires-clause-lawful c = λ κs. refl
