use Rattle.std.proofs.Common.{◌<◌, subst, sym}
use Rattle.pg_inbox.proofs.logs.put_in.Goals as goal

pub set-requires : goal.set-requires
set-requires g c = subst (λ n. c.number-place.result < n) (sym c.taken_row-row.ensures.len) c.in_ok-grow.ensures.room

pub set-requires-in-Err : goal.set-requires-in-Err
set-requires-in-Err g c = subst (λ n. c.number-place.result < n) (sym c.taken_row-row.ensures.len) c.in_ok-grow.ensures.room
