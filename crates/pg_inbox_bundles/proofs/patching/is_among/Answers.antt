use Rattle.std.proofs.Common.{sym}
use Rattle.pg_model.proofs.LawsSearching.{has_id-found, has_id-missing, searchable}
use Rattle.pg_inbox_bundles.proofs.patching.is_among.Goals as goal

pub returns-in-Ok : goal.returns-in-Ok
returns-in-Ok c = sym (has_id-found c.args.senders.now c.args.sender c.in-Ok.field-0 c.in-Ok.ensures.bound c.in-Ok.ensures.ok)

pub returns-in-Err : goal.returns-in-Err
returns-in-Err c =
    sym (has_id-missing c.args.senders.now c.args.sender c.in-Err.field-0 (c.in-Err.ensures.position (searchable c.args.senders.now c.args.sender c.requires)))
