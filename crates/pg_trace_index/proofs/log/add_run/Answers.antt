use Rattle.std.proofs.Common.{◌≡◌, ◌++◌, ◌∷◌, [], length, set, true, Some, refl, sym, ap, ◌∙◌, subst, arith}
use Rattle.std.specs.Vec.{with_item}
use Rattle.pg_map.specs.Entries.{value_at}
use Rattle.pg_trace_index.specs.Chunks.{IsAt, all_of}
use Rattle.pg_trace_index.specs.LogEntry.{AreWithin, chains}
use Rattle.pg_trace_index.specs.Occurrences.{IsNotedOf}
use Rattle.pg_trace_index.specs.declared.chunk.Chunk.{Chunk}
use Rattle.pg_trace_index.specs.declared.log.LogEntry.{LogEntry}
use Rattle.pg_trace_index.proofs.Chains.{chains_more, noted_in, runs_after, runs_first, within_more, within_put}
use Rattle.pg_trace_index.proofs.InChunks.{changed_there, value_found}
use Rattle.pg_trace_index.proofs.log.add_run.Goals as goal

pub returns-in-Some-clause-sound : goal.returns-in-Some-clause-sound
returns-in-Some-clause-sound c =
    let cs = c.args.last.now.items in
    let at = subst (λ l. IsAt c.args.id l c.in-Some.chunk c.in-Some.place) c.as_slice.ensures.value c.in-Some.ensures.some in
    let chunk = c.index_mut.result.now in
    let e = c.index_mut-in-Some.result.now in
    let now : Chunk LogEntry = record { first = chunk.first; entries = with_item chunk.entries c.in-Some.place (e.0, c.in_ok-last.field-0) } in
    (changed_there c.args.id cs c.requires.sound c.in-Some.chunk c.in-Some.place at chunk c.index_mut.ensures.value now e c.in_ok-last.field-0
    c.index_mut-in-Some.ensures.value refl refl).1

pub returns-in-Some-clause-within : goal.returns-in-Some-clause-within
returns-in-Some-clause-within c =
    let cs = c.args.last.now.items in
    let log = c.args.earlier.now.items in
    let at = subst (λ l. IsAt c.args.id l c.in-Some.chunk c.in-Some.place) c.as_slice.ensures.value c.in-Some.ensures.some in
    let chunk = c.index_mut.result.now in
    let e = c.index_mut-in-Some.result.now in
    let next = c.in_ok-last.field-0 in
    let logged = c.index-in-Some.result.now.1 in
    let now : Chunk LogEntry = record { first = chunk.first; entries = with_item chunk.entries c.in-Some.place (e.0, next) } in
    let all = (changed_there c.args.id cs c.requires.sound c.in-Some.chunk c.in-Some.place at chunk c.index_mut.ensures.value now e next
    c.index_mut-in-Some.ensures.value refl refl).0 in
    let pushed : c.after_this.new.earlier.items ≡ log ++ logged ∷ [] = c.in_ok-last.ensures.pushed in
    let before : next.before ≡ length (log ++ logged ∷ []) = ap (λ x. x.before) c.in_ok-last.ensures.next ∙ ap length pushed in
    subst (λ l. AreWithin l (all_of (set cs c.in-Some.chunk now))) (sym pushed)
    (subst (AreWithin (log ++ logged ∷ [])) (sym all)
    (within_put (log ++ logged ∷ []) (all_of cs) c.args.id next (within_more log logged (all_of cs) c.requires.within) (omega (arith, before))))

pub returns-in-Some-clause-noted : goal.returns-in-Some-clause-noted
returns-in-Some-clause-noted c _ =
    let id = c.args.id in
    let s = c.args.run.superstep in
    let cs = c.args.last.now.items in
    let log = c.args.earlier.now.items in
    let at = subst (λ l. IsAt id l c.in-Some.chunk c.in-Some.place) c.as_slice.ensures.value c.in-Some.ensures.some in
    let chunk = c.index_mut.result.now in
    let e = c.index_mut-in-Some.result.now in
    let next = c.in_ok-last.field-0 in
    let was = c.index-in-Some.result.now in
    let now : Chunk LogEntry = record { first = chunk.first; entries = with_item chunk.entries c.in-Some.place (e.0, next) } in
    let all = (changed_there id cs c.requires.sound c.in-Some.chunk c.in-Some.place at chunk c.index_mut.ensures.value now e next
    c.index_mut-in-Some.ensures.value refl refl).0 in
    let pushed : c.after_this.new.earlier.items ≡ log ++ was.1 ∷ [] = c.in_ok-last.ensures.pushed in
    let before : next.before ≡ length (log ++ was.1 ∷ []) = ap (λ x. x.before) c.in_ok-last.ensures.next ∙ ap length pushed in
    let here : value_at id (all_of cs) ≡ Some was.1 =
    value_found id cs c.requires.sound c.in-Some.chunk c.in-Some.place at c.index.result.now c.index.ensures was
    ∙ ap (λ x. Some x.1) (sym c.index-in-Some.ensures) in
    subst (λ l. IsNotedOf id s true (chains log (all_of cs)) (chains l (all_of (set cs c.in-Some.chunk now)))) (sym pushed)
    (noted_in log (log ++ was.1 ∷ []) (all_of cs) (chains_more log was.1 (all_of cs) c.requires.within) id s next
    (runs_after log (all_of cs) id s was.1 next here c.requires.steps c.if-run-logged.false (ap (λ x. x.run.superstep) c.in_ok-last.ensures.next) before)
    (all_of (set cs c.in-Some.chunk now)) all)

pub returns-clause-within : goal.returns-clause-within
returns-clause-within c =
    let log = c.args.earlier.now.items in
    let last = all_of c.args.last.now.items in
    let first : LogEntry = record { run = c.args.run; before = 0 } in
    subst (AreWithin log) (sym c.in_ok-put.ensures.all) (within_put log last c.args.id first c.requires.within (omega arith))

pub returns-clause-noted : goal.returns-clause-noted
returns-clause-noted c _ =
    let id = c.args.id in
    let log = c.args.earlier.now.items in
    let last = all_of c.args.last.now.items in
    let first : LogEntry = record { run = c.args.run; before = 0 } in
    let none = ap (λ l. value_at id (all_of l)) (sym c.as_slice.ensures.value) ∙ c.in_default.ensures.none in
    noted_in log log last refl id c.args.run.superstep first (runs_first log last id first none refl) (all_of c.put.new.chunks.items) c.in_ok-put.ensures.all
