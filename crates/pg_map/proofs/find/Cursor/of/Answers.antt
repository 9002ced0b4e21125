use Rattle.std.proofs.Common.{refl}
use Rattle.pg_map.specs.Chunks.{all_of}
use Rattle.pg_map.proofs.Slice.{none_slice}
use Rattle.pg_map.proofs.find.Cursor.of.Goals as goal

pub invariant_of-result : goal.invariant_of-result
invariant_of-result g c = (c.requires.groups, c.requires.rise, none_slice _ (all_of c.args.groups.now) refl)
