use Rattle.std.proofs.Common.{◌≡◌, take}
use Rattle.pg_part_compute.specs.Diverged.{AreEqSound, quiescent_among, live_among}
use Rattle.pg_part_compute.proofs.diverged.diverged_among.Given as goal

abbrev pub invariant-loop-id : goal.invariant-loop-id
invariant-loop-id g l = record {
  old_stays : l.old_states ≡ l.old;
  new_stays : l.new_states ≡ l.new;
  live : l.found.live.items ≡ live_among g.V.PartialEq.eq l.old l.new l.superstep (take l.id-index l.ids);
  quiescent : l.found.quiescent.items ≡ quiescent_among g.V.PartialEq.eq l.old l.new l.superstep (take l.id-index l.ids);
  eq_is_sound : AreEqSound g.V.PartialEq.eq l.old l.new l.superstep (take l.id-index l.ids);
}
