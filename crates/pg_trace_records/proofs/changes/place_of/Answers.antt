use Rattle.std.proofs.Common.{refl}
use Rattle.pg_map.proofs.Search.{lookup_missing}
use Rattle.pg_trace_records.proofs.changes.place_of.Goals as goal

pub returns-in-Err-clause-missing : goal.returns-in-Err-clause-missing
returns-in-Err-clause-missing g c =
    lookup_missing c.args.entries.now c.args.id c.in-Err.field-0 c.requires c.in-Err.ensures.missing

pub returns-then-is_at-clause-found : goal.returns-then-is_at-clause-found
returns-then-is_at-clause-found g c = c.if-is_at.ensures.found refl
