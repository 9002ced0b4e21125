use Rattle.std.proofs.Common.{◌≡◌, take}
use Rattle.std.specs.List.{AllByRecursion}
use Rattle.pg_inbox_bundles.specs.MessageEdits.{others}
use Rattle.pg_inbox_bundles.proofs.patching.staying_envelopes.Given as goal

abbrev pub invariant-loop-place : goal.invariant-loop-place
invariant-loop-place g l = record {
  items : l.after.items ≡ others l.retracted (take l.place l.envelopes.envelopes);
  values : AllByRecursion (λ x. g.M.Plain.is_value x.1) l.after.items;
}
