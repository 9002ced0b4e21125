use Rattle.std.proofs.Common.{Some, refl}
use Rattle.tests_service.proofs.Emptied.{fades_to_nothing, nothing_fades}
use Rattle.tests_service.proofs.shelves.EmptyShelfShelf.put.Goals as goal

pub returns : goal.returns
returns c = record {
  counted = record { honest = refl; failures = refl };
  kept = λ _. fades_to_nothing (Some c.args._bytes.now) c.args._key.now;
  others = λ _ other _. nothing_fades other;
}
