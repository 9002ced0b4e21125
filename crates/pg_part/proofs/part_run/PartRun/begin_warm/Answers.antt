use Rattle.std.proofs.Common.{Some, ◌++◌, append-nil, ap, ap₂, sym, ◌∙◌, subst, refl, false}
use Rattle.std.specs.List.Sorted.{IsStrictlySortedBy}
use Rattle.std.specs.Ordering.{nat_cmp}
use Rattle.std.proofs.lemmas.Result.{IfOk-from_err}
use Rattle.pg_map.specs.Entries.{ChangesRise}
use Rattle.pg_model.specs.Superstep.{has_id}
use Rattle.pg_part.specs.PartRun.{AreTouched, PartRunState, Holds, IsWhole}
use Rattle.pg_part_routing.specs.Starting.{first_changes}
use Rattle.pg_part_routing.proofs.Beginning.{changes_by_id, changes_rise}
use Rattle.pg_part.proofs.RunBeginning.{holds_warm}
use Rattle.pg_trace.specs.Beginning.{ChangesById, with_first}
use Rattle.pg_part.proofs.part_run.PartRun.begin_warm.Goals as goal

pub restarted-requires-clause-rise : goal.restarted-requires-clause-rise
restarted-requires-clause-rise g c =
    let program = g.P.Computation.program c.args.program.now in
    let share = first_changes program c.rows.inside.graph.now c.rows.inside.partitions c.rows.inside.partition in
    subst ChangesRise (sym (c.in_ok-changes.ensures.changes ∙ ap share c.as_slice.ensures.value))
    (changes_rise program c.rows.inside.partitions c.rows.inside.partition c.rows.inside.graph.now
    c.rising-diverged.result.items c.rising-diverged.ensures.rise)

pub restarted-requires-clause-by_id : goal.restarted-requires-clause-by_id
restarted-requires-clause-by_id g c =
    subst ChangesById (sym c.in_ok-changes.ensures.changes)
    (changes_by_id (g.P.Computation.program c.args.program.now) c.rows.inside.partitions c.rows.inside.partition c.rows.inside.graph.now c.as_slice.result.now)

pub returns-clause-diverged : goal.returns-clause-diverged
returns-clause-diverged g c id =
    ap (λ l. has_id l id) (ap₂ ◌++◌ c.of.ensures.live c.of.ensures.quiescent ∙ append-nil c.rising-diverged.result.items)
    ∙ (c.rising-diverged.ensures.same id ∙ ap (λ l. has_id l id) c.in_ok-copied.ensures)

pub returns-clause-rise : goal.returns-clause-rise
returns-clause-rise g c =
    subst (IsStrictlySortedBy nat_cmp)
    (sym (ap₂ ◌++◌ c.of.ensures.live c.of.ensures.quiescent ∙ append-nil c.rising-diverged.result.items)) c.rising-diverged.ensures.rise

pub returns-clause-holds : goal.returns-clause-holds
returns-clause-holds g c job kept program missing whole touched =
    let n = c.rows.inside.partitions in
    let p = c.rows.inside.partition in
    let graph = c.rows.inside.graph.now in
    let ids = c.rising-diverged.result.items in
    let program' = g.P.Computation.program c.args.program.now in
    let part_run : PartRunState g.row.V.Denot g.row.M.Denot = record {
      partition = p;
      partitions = n;
      missing = c.args.missing;
      place = c.new.result;
      trace = c.in_ok-trace.trace;
      kept = Some c.args.old;
      live = c.of.result.live.items;
      quiescent = c.of.result.quiescent.items;
      changed = c.new-2.result.items;
      was_warm = false;
    } in
    let old : IsWhole job kept n p c.args.old = subst (λ r. IsWhole job kept r.partitions r.partition c.args.old) (sym c.rows.view_is) whole in
    let same : AreTouched c.args.touched.now kept graph = subst (λ r. AreTouched c.args.touched.now kept r.graph) (sym c.rows.view_is) touched in
    subst (λ r. Holds job (Some kept) r.graph r.partitions r.partition 0 part_run) c.rows.view_is
    (holds_warm job kept graph n p c.in_ok-changes.ensures.rising program' program c.args.missing
    (sym missing) c.args.old old ids c.rising-diverged.ensures.rise
    (λ id other. same id (sym (ap (λ l. has_id l id) c.in_ok-copied.ensures) ∙ (sym (c.rising-diverged.ensures.same id) ∙ other)))
    part_run refl refl refl c.new.ensures
    (c.in_ok-trace.ensures ∙ ap (λ l. record c.args.old { initial = with_first l c.args.old.initial })
    (c.in_ok-changes.ensures.changes ∙ ap (first_changes program' graph n p) c.as_slice.ensures.value)) refl c.of.ensures.live c.of.ensures.quiescent)

pub returns-in_err-copied : goal.returns-in_err-copied
returns-in_err-copied g c =
    let none = c.from_residual.ensures.0 in
    let at = c.from_residual.result in
    record {
      begins = IfOk-from_err at _ none;
      rise = IfOk-from_err at _ none;
      diverged = IfOk-from_err at _ none;
      kept = IfOk-from_err at _ none;
      holds = IfOk-from_err at _ none;
    }

pub returns-in_err-changes : goal.returns-in_err-changes
returns-in_err-changes g c =
    let none = c.from_residual-in_err-changes.ensures.0 in
    let at = c.from_residual-in_err-changes.result in
    record {
      begins = IfOk-from_err at _ none;
      rise = IfOk-from_err at _ none;
      diverged = IfOk-from_err at _ none;
      kept = IfOk-from_err at _ none;
      holds = IfOk-from_err at _ none;
    }

pub returns-in_err-trace : goal.returns-in_err-trace
returns-in_err-trace g c =
    let none = c.from_residual-in_err-trace.ensures.0 in
    let at = c.from_residual-in_err-trace.result in
    record {
      begins = IfOk-from_err at _ none;
      rise = IfOk-from_err at _ none;
      diverged = IfOk-from_err at _ none;
      kept = IfOk-from_err at _ none;
      holds = IfOk-from_err at _ none;
    }
