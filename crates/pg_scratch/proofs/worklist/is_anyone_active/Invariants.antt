use Rattle.std.proofs.Common.{◌≡◌, ℕ, ◌<◌, false, get_or, Some}
use Rattle.std.specs.List.{slice_get}
use Rattle.pg_model.specs.Superstep.{is_active}
use Rattle.pg_model.specs.declared.configuration.VertexWithInbox.{VertexWithInbox}
use Rattle.pg_scratch.proofs.worklist.is_anyone_active.Given as goal

-- the vertices whose places were looked at are idle
abbrev pub invariant-loop-place : goal.invariant-loop-place
invariant-loop-place g l =
    (k : ℕ) (x : VertexWithInbox g.row.V.Denot g.row.M.Denot) → k < l.place-index → slice_get l.with_inboxes (get_or l.work k 0) ≡ Some x → is_active x ≡ false
