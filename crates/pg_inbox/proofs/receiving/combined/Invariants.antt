use Rattle.std.proofs.Common.{◌≡◌, IfSome, not, take}
use Rattle.std.specs.List.{fold}
use Rattle.pg_model.specs.Superstep.{is_empty}
use Rattle.pg_inbox.specs.Inboxes.{folded_of}
use Rattle.pg_inbox.proofs.receiving.combined.Given as goal

abbrev pub invariant-loop-message_list : goal.invariant-loop-message_list
invariant-loop-message_list g l = record {
  so_far : IfSome (g.C.MessageCombiner.combining l.combiner) (λ c. l.so_far ≡ fold c.combine c.initial (folded_of (take l.message_list-index l.message_lists)));
  any : l.is_any ≡ not (is_empty (folded_of (take l.message_list-index l.message_lists)));
}
