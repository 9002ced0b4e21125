use Rattle.std.proofs.Common.{rules}
use Rattle.tests_service.proofs.Staying.{fails_to_put}
use Rattle.tests_service.proofs.shelves.NthShelfShelf.put.Goals as goal

pub returns-then-self : goal.returns-then-self
returns-then-self c = fails_to_put _ _ (search rules) _ _ _ (search rules)
