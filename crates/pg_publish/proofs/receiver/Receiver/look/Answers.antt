use Rattle.std.proofs.Common.{refl}
use Rattle.pg_publish.proofs.Seats.{finds}
use Rattle.pg_publish.proofs.receiver.Receiver.look.Goals as goal

pub enter_as-requires : goal.enter_as-requires
enter_as-requires g c x = finds _ _ x x refl
