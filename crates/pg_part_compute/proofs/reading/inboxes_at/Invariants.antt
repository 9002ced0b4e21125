use Rattle.std.proofs.Common.{◌≡◌, map, take}
use Rattle.std.specs.List.{AllByRecursion}
use Rattle.std.specs.Map.{keys_of}
use Rattle.pg_inbox.specs.Inboxes.{Delivers}
use Rattle.pg_part_compute.proofs.reading.inboxes_at.Given as goal

abbrev pub invariant-loop-id : goal.invariant-loop-id
invariant-loop-id g l = record {
  ids : keys_of l.inboxes ≡ take l.id-index l.ids;
  delivered : AllByRecursion (λ w. Delivers (g.C.MessageCombiner.combining l.combiner) w.0 (map (λ b. b.now) l.bundles) w.1) l.inboxes;
}
