use Rattle.std.proofs.Common.{◌≡◌, ◌++◌, drop, map, take}
use Rattle.pg_inbox.specs.Merged.{all_to, lists_after}
use Rattle.pg_inbox.proofs.lists.take_envelopes.Given as goal

abbrev pub invariant-loop-place : goal.invariant-loop-place
invariant-loop-place g l = record {
  lists : map (λ l. l.now) l.lists.items
      ≡ lists_after l.target (take l.place (map (λ l. l.now) l.initial.lists.items)) ++ drop l.place (map (λ l. l.now) l.initial.lists.items);
  envelopes : l.envelopes.items ≡ l.initial.envelopes.items ++ all_to l.target (take l.place (map (λ l. l.now) l.initial.lists.items));
}
