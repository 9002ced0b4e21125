use Rattle.std.proofs.Common.{refl}
use Rattle.pg_global.specs.Registry.{first_refusal}
use Rattle.tests_core.proofs.runs.opened.Goals as goal

pub open-requires-clause-lawful : goal.open-requires-clause-lawful
unfolding first_refusal
open-requires-clause-lawful c = λ κs. refl
