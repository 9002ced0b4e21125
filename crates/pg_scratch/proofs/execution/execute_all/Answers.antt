use Rattle.std.proofs.Common.{subst, sym, ◌∙◌, arith}
use Rattle.std.proofs.lemmas.List.{nil_from_length}
use Rattle.std.proofs.lemmas.Result.{IfOk-from_err}
use Rattle.pg_scratch.specs.Worklist.{ListsActive}
use Rattle.pg_model.proofs.LawsListed.{has_id-get_or}
use Rattle.pg_scratch.proofs.Passing.{passed_first, passed_with_inboxes, passed_context, passed_lists, place_inside, still_shown, same_writes}
use Rattle.pg_scratch.proofs.Passing.{still_fits, pass_on, known_within, nobody-with_inboxes, nobody-context, zero-from_test, positive-from_test}
use Rattle.pg_scratch.proofs.execution.execute_all.Goals as goal

pub returns-then-is_empty-clause-with_inboxes : goal.returns-then-is_empty-clause-with_inboxes
returns-then-is_empty-clause-with_inboxes g c =
    nobody-with_inboxes (g.P.Computation.program c.args.program.now) c.args.with_inboxes.now.items c.args.cx.now
    c.args.work.now c.exact.result c.requires.fits c.requires.lists (c.exact.ensures _ c.requires.edges)
    (zero-from_test _ _ c.is_empty.ensures c.if-is_empty.true)

pub returns-then-is_empty-clause-context : goal.returns-then-is_empty-clause-context
returns-then-is_empty-clause-context g c =
    nobody-context (g.P.Computation.program c.args.program.now) c.args.with_inboxes.now.items c.args.cx.now
    c.args.work.now c.exact.result c.requires.fits c.requires.lists (c.exact.ensures _ c.requires.edges)
    (zero-from_test _ _ c.is_empty.ensures c.if-is_empty.true)

pub index-requires : goal.index-requires
index-requires g c =
    let inside = c.requires.lists.within _ (has_id-get_or c.args.work.now 0 0 (positive-from_test _ _ c.is_empty.ensures c.if-is_empty.false)) in
    omega (arith, inside, c.args.with_inboxes.now.ok.0)

pub loop-place-init : goal.loop-place-init
loop-place-init g c =
    passed_first (g.P.Computation.program c.args.program.now) c.args.with_inboxes.now.items c.args.cx.now c.args.work.now
    c.exact.result c.requires.fits c.requires.lists (c.exact.ensures _ c.requires.edges)
    c.in_ok-unhalted.unhalted.items c.in_ok-unhalted.ensures.items

pub execute_at-requires-clause-within : goal.execute_at-requires-clause-within
execute_at-requires-clause-within g c =
    let p = c.loop-place.invariant in
    λ _ _. place_inside (g.P.Computation.program c.args.program.now) c.args.with_inboxes.now.items
    c.loop-place.with_inboxes.items c.args.cx.now c.loop-place.cx c.args.work.now c.loop-place.found.unhalted.items
    c.loop-place.found.edges c.loop-place.place-index p.0 c.requires.lists c.requires.rising p.1 c.loop-place-test.true

pub execute_at-requires-clause-shown : goal.execute_at-requires-clause-shown
execute_at-requires-clause-shown g c =
    let p = c.loop-place.invariant in
    λ _ _. still_shown (g.P.Computation.program c.args.program.now) c.args.with_inboxes.now.items
    c.loop-place.with_inboxes.items c.args.cx.now c.loop-place.cx c.args.work.now c.loop-place.found.unhalted.items
    c.loop-place.found.edges c.loop-place.place-index p.0 c.requires.lists c.requires.rising p.1
    (g.P.Computation.program c.args.program.now).declared c.requires.shown

pub execute_at-requires-clause-writes : goal.execute_at-requires-clause-writes
execute_at-requires-clause-writes g c =
    let p = c.loop-place.invariant in
    λ _ _. same_writes (g.P.Computation.program c.args.program.now) c.args.with_inboxes.now.items
    c.loop-place.with_inboxes.items c.args.cx.now c.loop-place.cx c.args.work.now c.loop-place.found.unhalted.items
    c.loop-place.found.edges c.loop-place.place-index p.0 c.requires.lists c.requires.rising p.1 ∙ c.requires.writes

pub execute_at-requires-clause-fits : goal.execute_at-requires-clause-fits
execute_at-requires-clause-fits g c =
    let p = c.loop-place.invariant in
    λ _ _. still_fits (g.P.Computation.program c.args.program.now) c.args.with_inboxes.now.items
    c.loop-place.with_inboxes.items c.args.cx.now c.loop-place.cx c.args.work.now c.loop-place.found.unhalted.items
    c.loop-place.found.edges c.loop-place.place-index p.0 c.requires.lists c.requires.rising p.1

pub loop-place-preserved : goal.loop-place-preserved
loop-place-preserved g c =
    let p = c.loop-place.invariant in
    pass_on (g.P.Computation.program c.args.program.now) c.args.with_inboxes.now.items c.loop-place.with_inboxes.items
    c.args.cx.now c.loop-place.cx c.args.work.now c.loop-place.found.unhalted.items c.loop-place.found.edges
    c.loop-place.place-index p.0 c.requires.lists c.requires.rising p.1 c.loop-place-test.true
    c.execute_at.new.with_inboxes.items c.execute_at.new.cx c.execute_at.new.found.unhalted.items
    c.execute_at.new.found.edges c.in_ok-execute_at.ensures.with_inboxes c.in_ok-execute_at.ensures.context
    c.in_ok-execute_at.ensures.unhalted c.in_ok-execute_at.ensures.edges

pub returns-clause-with_inboxes : goal.returns-clause-with_inboxes
returns-clause-with_inboxes g c =
    let p = c.loop-place.invariant in
    passed_with_inboxes (g.P.Computation.program c.args.program.now) c.args.with_inboxes.now.items c.args.cx.now
    c.args.work.now c.loop-place.with_inboxes.items c.loop-place.cx c.loop-place.found.unhalted.items
    c.loop-place.found.edges c.loop-place.place-index p.0 c.loop-place-test.false p.1

pub returns-clause-context : goal.returns-clause-context
returns-clause-context g c =
    let p = c.loop-place.invariant in
    passed_context (g.P.Computation.program c.args.program.now) c.args.with_inboxes.now.items c.args.cx.now
    c.args.work.now c.loop-place.with_inboxes.items c.loop-place.cx c.loop-place.found.unhalted.items
    c.loop-place.found.edges c.loop-place.place-index p.0 c.loop-place-test.false p.1

pub returns-clause-lists : goal.returns-clause-lists
returns-clause-lists g c =
    let p = c.loop-place.invariant in
    passed_lists (g.P.Computation.program c.args.program.now) c.args.with_inboxes.now.items c.args.cx.now c.args.work.now
    c.loop-place.with_inboxes.items c.loop-place.cx c.loop-place.found.unhalted.items c.loop-place.found.edges
    c.loop-place.place-index p.0 c.loop-place-test.false p.1

pub execute_at-requires-clause-edges : goal.execute_at-requires-clause-edges
execute_at-requires-clause-edges g c =
    let p = c.loop-place.invariant in
    λ _ _ x at. known_within c.loop-place.with_inboxes.items _ x c.loop-place.found.edges at p.1.counts

pub returns-clause-edges : goal.returns-clause-edges
returns-clause-edges g c =
    let p = c.loop-place.invariant in
    p.1.counts

pub returns-then-is_empty-clause-lists : goal.returns-then-is_empty-clause-lists
returns-then-is_empty-clause-lists g c =
    let none = nil_from_length c.args.work.now (zero-from_test _ _ c.is_empty.ensures c.if-is_empty.true) in
    subst (ListsActive c.args.with_inboxes.now.items) (none ∙ sym c.in_ok-unhalted.ensures.items) c.requires.lists

pub returns-then-is_empty-clause-edges : goal.returns-then-is_empty-clause-edges
returns-then-is_empty-clause-edges g c = c.exact.ensures _ c.requires.edges

pub returns-in_err-unhalted : goal.returns-in_err-unhalted
returns-in_err-unhalted g c =
    let none = c.from_residual.ensures.0 in
    let at = c.from_residual.result in
    record { with_inboxes = IfOk-from_err at _ none; context = IfOk-from_err at _ none; lists = IfOk-from_err at _ none; edges = IfOk-from_err at _ none }

pub returns-in_err-vertex : goal.returns-in_err-vertex
returns-in_err-vertex g c =
    let none = c.from_residual-in_err-vertex.ensures.0 in
    let at = c.from_residual-in_err-vertex.result in
    record { with_inboxes = IfOk-from_err at _ none; context = IfOk-from_err at _ none; lists = IfOk-from_err at _ none; edges = IfOk-from_err at _ none }

pub returns-in_err-execute_at : goal.returns-in_err-execute_at
returns-in_err-execute_at g c =
    let none = c.from_residual-in_err-execute_at.ensures.0 in
    let at = c.from_residual-in_err-execute_at.result in
    record { with_inboxes = IfOk-from_err at _ none; context = IfOk-from_err at _ none; lists = IfOk-from_err at _ none; edges = IfOk-from_err at _ none }
