use Rattle.pg_model.proofs.LawsSearching.{searchable, has_id-missing, slice_get-found}
use Rattle.pg_scratch.proofs.ids.found_in.Goals as goal

pub returns-in-Ok : goal.returns-in-Ok
returns-in-Ok c = slice_get-found c.args.ids.now c.args.id c.in-Ok.place c.in-Ok.ensures.bound c.in-Ok.ensures.ok

pub returns-in-Err : goal.returns-in-Err
returns-in-Err c =
    has_id-missing c.args.ids.now c.args.id c.in-Err.field-0 (c.in-Err.ensures.position (searchable c.args.ids.now c.args.id c.requires))
