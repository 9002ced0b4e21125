use Rattle.std.proofs.Common.{◌+◌, ◌≤◌, ap, arith, subst, sym, ◌∙◌}
use Rattle.pg_inbox.specs.SparseVec.{value_in}
use Rattle.pg_inbox.specs.SentRow.{AreBelow, slots_in}
use Rattle.pg_inbox.proofs.Slots.{below_push, length-slots, put_none}
use Rattle.pg_inbox.proofs.sent_row.SentRow.fill.Goals as goal

pub loop-self-preserved : goal.loop-self-preserved
loop-self-preserved g c =
    let row = c.loop-self.self-inside in
    record {
      same = λ q. ap (λ l. value_in q (slots_in (row.count + 1) row.usual l)) c.in_ok-push.ensures.items
          ∙ put_none row.usual row.others.items row.count c.loop-self.invariant.below q
          ∙ c.loop-self.invariant.same q;
      below = subst (AreBelow (row.count + 1)) (sym c.in_ok-push.ensures.items)
          (below_push row.usual row.others.items row.count c.loop-self.invariant.below (row.count + 1) row.count _ (omega arith) (omega arith));
    }

pub returns-clause-room : goal.returns-clause-room
returns-clause-room g c =
    let row = c.loop-self.self-inside in
    subst (λ n. c.args.to ≤ n) (sym (length-slots row.count row.usual row.others.items)) c.loop-self-test.false
