use Rattle.std.proofs.Common.{◌≡◌, ◌++◌, map}
use Rattle.pg_inbox_bundles.specs.Sound.{needed}
use Rattle.pg_inbox_bundles.proofs.patching.each_given.Given as goal

abbrev pub invariant-loop-id : goal.invariant-loop-id
invariant-loop-id g l = record {
  so_far : l.given.items ≡ map (needed l.envelopes) l.yielded;
  whole : l.yielded ++ l.id-iterator.rest.items ≡ l.fn.changes.items;
}
