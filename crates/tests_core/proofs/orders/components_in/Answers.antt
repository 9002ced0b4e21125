use Rattle.std.proofs.Common.{refl}
use Rattle.pg_global.specs.Registry.{first_refusal}
use Rattle.tests_core.proofs.orders.components_in.Goals as goal

pub opened_in-requires-clause-lawful : goal.opened_in-requires-clause-lawful
unfolding first_refusal
opened_in-requires-clause-lawful c = λ κs. refl
