use Rattle.std.proofs.Common.{◌≡◌, take}
use Rattle.std.specs.List.{AllByRecursion}
use Rattle.pg_part_compute.proofs.found.copied_messages.Given as goal

abbrev pub invariant-loop-message : goal.invariant-loop-message
invariant-loop-message g l = record {
  same : l.copies.items ≡ take l.message-index l.messages;
  values : AllByRecursion g.M.Plain.is_value l.copies.items;
}
