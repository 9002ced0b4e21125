use Rattle.std.proofs.Common.{◌+◌, ap, subst, sym, take, ◌∙◌}
use Rattle.pg_inbox.specs.SentRow.{IsLastAt}
use Rattle.pg_inbox.proofs.Slots.{last_here, last_still}
use Rattle.pg_inbox.proofs.sent_row.last_at.Goals.{then-entries-place, else-entries-place}
use Rattle.pg_inbox.proofs.sent_row.last_at.Goals as goal

pub loop-place-preserved : goal.loop-place-preserved
loop-place-preserved g c =
    let entries = c.args.entries.now in
    let place = c.loop-place.place in
    let item = c.index-entries-place.result in
    elim c.if-entries-place.branch [
      | then-entries-place w ↦
          subst (IsLastAt c.args.number (take (place + 1) entries)) (sym w.found-is)
          (last_here c.args.number entries place item c.loop-place-test.true c.index-entries-place.is
          (ap (λ i. i.0) c.index-entries-place.is ∙ w.if-entries-place.true))
      | else-entries-place w ↦
          subst (IsLastAt c.args.number (take (place + 1) entries)) (sym w.found-is)
          (last_still c.args.number entries place item c.loop-place.found c.loop-place-test.true c.index-entries-place.is
          (λ at. w.if-entries-place.false (sym (ap (λ i. i.0) c.index-entries-place.is) ∙ at))
          c.loop-place.invariant)
    ]
