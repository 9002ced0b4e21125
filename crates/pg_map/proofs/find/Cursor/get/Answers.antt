use Rattle.std.proofs.Common.{subst, sym, ◌∙◌}
use Rattle.pg_map.specs.Entries.{IsSlice}
use Rattle.pg_map.proofs.find.Cursor.get.Goals as goal

pub invariant_of-self : goal.invariant_of-self
invariant_of-self g c = (
  c.self.invariant.0,
  c.self.invariant.1,
  subst (IsSlice c.entries_by-entries.result.now) (sym (c.self.view_is ∙ c.entries_by-entries.ensures.same)) c.entries_by-entries.ensures.slice,
)
