use Rattle.std.proofs.Common.{refl, sym}
use Rattle.std.specs.Cmp.Lexicographic.{slice_cmp}
use Rattle.std.specs.FinMap.{get-empty}
use Rattle.std.specs.Ordering.{nat_cmp}
use Rattle.tests_service.proofs.Emptied.{nothing_fades}
use Rattle.tests_service.proofs.shelves.EmptyShelfShelf.get.Goals as goal

pub returns-clause-got : goal.returns-clause-got
returns-clause-got c = record { counted = record { honest = refl; failures = refl }; fades = λ _ key. nothing_fades key }

pub returns-clause-found : goal.returns-clause-found
returns-clause-found c = sym (get-empty (slice_cmp nat_cmp) c.args._key.now)
