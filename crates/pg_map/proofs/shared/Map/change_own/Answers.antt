use Rattle.std.proofs.Common.{sym, subst}
use Rattle.pg_map.specs.Chunks.{all_of, groups_of}
use Rattle.pg_map.specs.Entries.{HasRisingIds}
use Rattle.pg_map.proofs.Changing.{rises-changes}
use Rattle.pg_map.proofs.shared.Map.change_own.Goals as goal

pub invariant_of-self : goal.invariant_of-self
invariant_of-self g c = record {
  rise = subst HasRisingIds (sym c.in-Some.ensures.made)
      (rises-changes c.deref_mut.result.now (all_of (groups_of c.self.inside.groups)) c.self.invariant.rise);
  groups_are = c.in-Some.ensures.groups;
  counted = c.in-Some.ensures.counted;
}
