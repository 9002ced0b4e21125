use Rattle.std.proofs.Common.{◌≡◌, ◌++◌, map, take}
use Rattle.std.specs.List.{AllByRecursion}
use Rattle.pg_inbox_messages.proofs.making.add_copies.Given as goal

abbrev pub invariant-loop-envelope : goal.invariant-loop-envelope
invariant-loop-envelope g l = record {
  envelopes : l.copied.items ≡ l.initial.copied.items ++ map (λ x. x.1) (take l.envelope-index l.envelopes);
  values : AllByRecursion (λ x. g.M.Plain.is_value x.1) l.copied.items;
}
