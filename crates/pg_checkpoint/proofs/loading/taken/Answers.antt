use Rattle.std.proofs.Common.{◌≡◌, ◌∙◌, ℕ, Bool, Err, Global, Vec, ap, arith, false, length, map, subst, subst₂, sym, true}
use Rattle.std.proofs.lemmas.List.{length-map}
use Rattle.std.proofs.lemmas.Result.{err_from_is_err_and}
use Rattle.pg_checkpoint.specs.Bounds.{Limits, MayHoldFrom, Within}
use Rattle.pg_checkpoint.specs.Contents.{IsSaid, Says, records_of}
use Rattle.pg_checkpoint.specs.Counted.{IsCount}
use Rattle.pg_checkpoint.specs.Loading.{Asked, limits_of}
use Rattle.pg_checkpoint.specs.Records.{Supersteps, edges_behind}
use Rattle.pg_checkpoint.proofs.Held.{all_rise}
use Rattle.pg_checkpoint.proofs.Taken.{first_is, is_found, limits_at, not_counted, not_held, not_said, records_are, same_limits}
use Rattle.pg_model.specs.declared.record.Record.{Record}
use Rattle.pg_model.specs.declared.view.Declared.{Declared}
use Rattle.pg_part.specs.Handed.{PartRows}
use Rattle.pg_stats.specs.GlobalStats.{aggregators_of}
use Rattle.pg_trace.specs.Trace.{Trace}
use Rattle.pg_checkpoint.proofs.loading.taken.Goals as goal

pub returns-in_err-contents : goal.returns-in_err-contents
returns-in_err-contents g c =
    let p = err_from_is_err_and c.from_residual.result c.from_residual.ensures.1 in
    let asked : Asked g.row.V.Denot g.row.M.Denot =
    record {
      run = c.args.run;
      rows = c.args.rows;
      missing = c.args.missing;
      program = g.P.Computation.program c.args.program.now;
      aggregators = aggregators_of c.args.registry.now;
    } in
    not_said g.V.Plain.is_value g.V.Coded.coding g.M.Plain.is_value g.M.Coded.coding asked c.args.bytes.now
    c.in_err-contents.field-0.0 (p.1 ∙ ap Err p.2)
    (subst (λ (n : ℕ). Says g.V.Plain.is_value g.V.Coded.coding g.M.Plain.is_value g.M.Coded.coding c.args.run n c.args.bytes.now
    (Err c.in_err-contents.field-0.0)) (c.number.ensures ∙ ap (λ (r : PartRows). r.partition) c.rows.view_is) c.in_err-contents.ensures)

pub returns-in_err-records : goal.returns-in_err-records
returns-in_err-records g c =
    let p = err_from_is_err_and c.from_residual-in_err-records.result c.from_residual-in_err-records.ensures.1 in
    let asked : Asked g.row.V.Denot g.row.M.Denot =
    record {
      run = c.args.run;
      rows = c.args.rows;
      missing = c.args.missing;
      program = g.P.Computation.program c.args.program.now;
      aggregators = aggregators_of c.args.registry.now;
    } in
    let contents = c.in_ok-contents.contents in
    let said : IsSaid g.V.Plain.is_value g.V.Coded.coding g.M.Plain.is_value g.M.Coded.coding c.args.run c.args.rows.partition c.args.bytes.now contents =
    subst (λ (n : ℕ). IsSaid g.V.Plain.is_value g.V.Coded.coding g.M.Plain.is_value g.M.Coded.coding c.args.run n c.args.bytes.now contents)
    (c.number.ensures ∙ ap (λ (r : PartRows). r.partition) c.rows.view_is) c.in_ok-contents.ensures in
    let limits : limits_at c.graph.result.now c.rows.inside.partition c.rows.inside.partitions c.args.missing c.declared.result.writes ≡ limits_of asked =
    same_limits c.args.rows c.args.missing c.graph.ensures (ap (λ (r : PartRows). r.partition) c.rows.view_is)
    (ap (λ (r : PartRows). r.partitions) c.rows.view_is) (ap (λ (d : Declared). d.writes) c.declared.ensures) in
    not_held g.V.Plain.is_value g.V.Coded.coding g.M.Plain.is_value g.M.Coded.coding asked c.args.bytes.now contents said
    (λ (l : Vec (Vec (ℕ × Record g.row.V.Denot g.row.M.Denot) Global) Global). map (λ x. x.items) l.items ≡ records_of contents.supersteps)
    c.in_err-records.field-0.0 (p.1 ∙ ap Err p.2)
    (subst (λ (l : Limits). Within
    (λ (l : Vec (Vec (ℕ × Record g.row.V.Denot g.row.M.Denot) Global) Global). map (λ x. x.items) l.items ≡ records_of contents.supersteps)
    (MayHoldFrom l 0 (records_of contents.supersteps)) (Err c.in_err-records.field-0.0)) limits c.in_err-records.ensures)

pub resume-requires-clause-rise : goal.resume-requires-clause-rise
resume-requires-clause-rise g c κs within =
    let limits = limits_at c.graph.result.now c.rows.inside.partition c.rows.inside.partitions c.args.missing c.declared.result.writes in
    all_rise limits (λ l. l.items) 0 c.in_ok-records.records.items
    (subst (λ (l : Supersteps g.row.V.Denot g.row.M.Denot). MayHoldFrom limits 0 l) (sym c.in_ok-records.ensures.0) c.in_ok-records.ensures.1)

pub resume-requires-clause-counts : goal.resume-requires-clause-counts
resume-requires-clause-counts g c κs within =
    let same = ap length c.in_ok-records.ensures.0 in
    let long = length-map c.in_ok-records.records.items (λ l. l.items) in
    omega (arith, same, long, c.in_ok-contents.ensures.codable.0)

pub returns-then-branch : goal.returns-then-branch
returns-then-branch g c =
    let asked : Asked g.row.V.Denot g.row.M.Denot =
    record {
      run = c.args.run;
      rows = c.args.rows;
      missing = c.args.missing;
      program = g.P.Computation.program c.args.program.now;
      aggregators = aggregators_of c.args.registry.now;
    } in
    let contents = c.in_ok-contents.contents in
    let said : IsSaid g.V.Plain.is_value g.V.Coded.coding g.M.Plain.is_value g.M.Coded.coding c.args.run c.args.rows.partition c.args.bytes.now contents =
    subst (λ (n : ℕ). IsSaid g.V.Plain.is_value g.V.Coded.coding g.M.Plain.is_value g.M.Coded.coding c.args.run n c.args.bytes.now contents)
    (c.number.ensures ∙ ap (λ (r : PartRows). r.partition) c.rows.view_is) c.in_ok-contents.ensures in
    let limits : limits_at c.graph.result.now c.rows.inside.partition c.rows.inside.partitions c.args.missing c.declared.result.writes ≡ limits_of asked =
    same_limits c.args.rows c.args.missing c.graph.ensures (ap (λ (r : PartRows). r.partition) c.rows.view_is)
    (ap (λ (r : PartRows). r.partitions) c.rows.view_is) (ap (λ (d : Declared). d.writes) c.declared.ensures) in
    let records = map (λ l. l.items) c.in_ok-records.records.items in
    let held : MayHoldFrom (limits_of asked) 0 (records_of contents.supersteps) =
    subst (λ (l : Limits). MayHoldFrom l 0 (records_of contents.supersteps)) limits c.in_ok-records.ensures.1 in
    let begun = c.in_ok-begun.begun in
    let part = c.in_ok-part.part in
    let count : IsCount contents.edges (edges_behind part.part_run.trace.initial part.part_run.trace.records) true =
    subst₂ (λ (t : Trace g.row.V.Denot g.row.M.Denot) (b : Bool). IsCount contents.edges (edges_behind t.initial t.records) b) c.trace.ensures
    c.if-branch.true c.in_ok-is_count.ensures in
    is_found g.V.Plain.is_value g.V.Coded.coding g.M.Plain.is_value g.M.Coded.coding asked c.args.bytes.now contents said records
    c.in_ok-records.ensures.0 held begun part
    c.in_ok-begun.ensures.begins c.in_ok-begun.ensures.unrecorded c.in_ok-begun.ensures.holds c.in_ok-part.ensures.resumed count
    c.in_ok-part.ensures.again

pub returns-else-branch : goal.returns-else-branch
returns-else-branch g c =
    let asked : Asked g.row.V.Denot g.row.M.Denot =
    record {
      run = c.args.run;
      rows = c.args.rows;
      missing = c.args.missing;
      program = g.P.Computation.program c.args.program.now;
      aggregators = aggregators_of c.args.registry.now;
    } in
    let contents = c.in_ok-contents.contents in
    let said : IsSaid g.V.Plain.is_value g.V.Coded.coding g.M.Plain.is_value g.M.Coded.coding c.args.run c.args.rows.partition c.args.bytes.now contents =
    subst (λ (n : ℕ). IsSaid g.V.Plain.is_value g.V.Coded.coding g.M.Plain.is_value g.M.Coded.coding c.args.run n c.args.bytes.now contents)
    (c.number.ensures ∙ ap (λ (r : PartRows). r.partition) c.rows.view_is) c.in_ok-contents.ensures in
    let limits : limits_at c.graph.result.now c.rows.inside.partition c.rows.inside.partitions c.args.missing c.declared.result.writes ≡ limits_of asked =
    same_limits c.args.rows c.args.missing c.graph.ensures (ap (λ (r : PartRows). r.partition) c.rows.view_is)
    (ap (λ (r : PartRows). r.partitions) c.rows.view_is) (ap (λ (d : Declared). d.writes) c.declared.ensures) in
    let records = map (λ l. l.items) c.in_ok-records.records.items in
    let held : MayHoldFrom (limits_of asked) 0 (records_of contents.supersteps) =
    subst (λ (l : Limits). MayHoldFrom l 0 (records_of contents.supersteps)) limits c.in_ok-records.ensures.1 in
    let begun = c.in_ok-begun.begun in
    let part = c.in_ok-part.part in
    let count : IsCount contents.edges (edges_behind part.part_run.trace.initial part.part_run.trace.records) false =
    subst₂ (λ (t : Trace g.row.V.Denot g.row.M.Denot) (b : Bool). IsCount contents.edges (edges_behind t.initial t.records) b) c.trace.ensures
    c.if-branch.false c.in_ok-is_count.ensures in
    not_counted g.V.Plain.is_value g.V.Coded.coding g.M.Plain.is_value g.M.Coded.coding asked c.args.bytes.now contents said
    (first_is g.V.Plain.is_value g.V.Coded.coding g.M.Plain.is_value g.M.Coded.coding asked c.args.bytes.now contents said records
    c.in_ok-records.ensures.0 held begun part
    c.in_ok-begun.ensures.begins c.in_ok-begun.ensures.unrecorded c.in_ok-begun.ensures.holds c.in_ok-part.ensures.resumed)
    (records_are g.V.Plain.is_value g.V.Coded.coding g.M.Plain.is_value g.M.Coded.coding asked c.args.bytes.now contents said records
    c.in_ok-records.ensures.0 held begun part
    c.in_ok-begun.ensures.begins c.in_ok-begun.ensures.unrecorded c.in_ok-begun.ensures.holds c.in_ok-part.ensures.resumed)
    count
