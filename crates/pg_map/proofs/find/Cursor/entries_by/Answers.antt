use Rattle.std.proofs.Common.{subst}
use Rattle.pg_map.specs.Entries.{IsSlice}
use Rattle.pg_map.proofs.find.Cursor.entries_by.Goals as goal

pub returns-then-spans-clause-slice : goal.returns-then-spans-clause-slice
returns-then-spans-clause-slice g c = subst (IsSlice c.self.inside.entries.now) c.self.view_is c.self.invariant.2
