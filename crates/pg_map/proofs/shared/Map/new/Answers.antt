use Rattle.pg_map.proofs.InParts.{none_sound}
use Rattle.pg_map.proofs.shared.Map.new.Goals as goal

pub invariant_of-result : goal.invariant_of-result
invariant_of-result g c = none_sound _ c.new.ensures
