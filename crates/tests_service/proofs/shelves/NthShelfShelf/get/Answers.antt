use Rattle.std.proofs.Common.{rules}
use Rattle.tests_service.proofs.Staying.{fails_to_get}
use Rattle.tests_service.proofs.shelves.NthShelfShelf.get.Goals as goal

pub returns-then-self-clause-got : goal.returns-then-self-clause-got
returns-then-self-clause-got c = fails_to_get _ _ (search rules) _ (search rules)
