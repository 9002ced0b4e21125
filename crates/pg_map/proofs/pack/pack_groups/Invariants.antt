use Rattle.std.proofs.Common.{◌≡◌, length}
use Rattle.pg_map.specs.Chunks.{AreGroups, all_of}
use Rattle.pg_map.proofs.pack.pack_groups.Given as goal

abbrev pub invariant-loop-place : goal.invariant-loop-place
invariant-loop-place g l = record {
  groups : AreGroups l.groups.items;
  entries : all_of l.groups.items ≡ all_of l.initial.groups.items;
  counted : length l.groups.items ≡ l.place-end;
}
