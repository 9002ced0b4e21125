-- What becomes of the messages of a superstep.
use Rattle.std.specs.Prelude.{◌≡◌, ℕ, List, Option}
use Rattle.std.specs.List.Sorted.{IsStrictlySortedBy}
use Rattle.std.specs.Ordering.{nat_cmp}
use Rattle.pg_graph.specs.declared.missing.Missing.{Missing}
use Rattle.pg_model.specs.Job.{Combining}
use Rattle.pg_model.specs.Superstep.{undeliverable, waiting_after, dropped_count}
use Rattle.pg_scratch.specs.Inbox.{with_messages}
use Rattle.pg_scratch.specs.Worklist.{ListsActive}
use Rattle.pg_scratch.specs.declared.receiving.Received.{Received}
use Rattle.pg_scratch.specs.declared.vertex_table.VertexTable.{VertexTable}

-- these messages were delivered, and where they were undeliverable, dropped or kept
pub record HasReceived {V M : Type 0} (combining : Option (Combining M)) (missing : Missing) (first : VertexTable V M)
    (sent : List (ℕ × M)) (r : Received V M) : Type 0 where
  pub with_inboxes : r.vertex_table.with_inboxes.items ≡ with_messages combining sent first.with_inboxes.items
  pub ids_stay : r.vertex_table.ids ≡ first.ids
  pub lists : ListsActive r.vertex_table.with_inboxes.items r.vertex_table.work.items
  pub work_rises : IsStrictlySortedBy nat_cmp r.vertex_table.work.items
  pub waiting : r.undeliverable.waiting ≡ waiting_after missing combining (undeliverable first.ids sent)
  pub dropped : r.undeliverable.dropped ≡ dropped_count missing (undeliverable first.ids sent)
