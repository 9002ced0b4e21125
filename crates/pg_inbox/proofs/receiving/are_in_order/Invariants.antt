use Rattle.std.proofs.Common.{◌-◌, ◌≤◌, drop}
use Rattle.pg_model.proofs.LawsByNumber.{IsUp}
use Rattle.pg_inbox.proofs.receiving.are_in_order.Given as goal

abbrev pub invariant-loop-place : goal.invariant-loop-place
invariant-loop-place g l = record {
  from : 1 ≤ l.place;
  up : IsUp (λ x. x.0) (drop (l.place - 1) l.message_list.envelopes) → IsUp (λ x. x.0) l.message_list.envelopes;
}
