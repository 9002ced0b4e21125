use Rattle.std.proofs.Common.{◌≡◌, ◌++◌, map, take}
use Rattle.std.specs.List.{AllByRecursion}
use Rattle.pg_inbox_bundles.specs.MessageEdits.{inserted}
use Rattle.pg_inbox_bundles.proofs.patching.add_envelopes.Given as goal

abbrev pub invariant-loop-message_edit : goal.invariant-loop-message_edit
invariant-loop-message_edit g l = record {
  items : l.after.items ≡ l.initial.after.items ++ inserted (map (λ m. m.1) (take l.message_edit-index l.message_edits));
  values : AllByRecursion (λ x. g.M.Plain.is_value x.1) l.after.items;
}
