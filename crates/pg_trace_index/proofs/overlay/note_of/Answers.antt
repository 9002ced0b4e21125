use Rattle.std.proofs.Common.{◌≡◌, true, Some, None, is_some, refl, ap, sym, ◌∙◌, subst}
use Rattle.std.specs.List.Sorted.{IsNonDecreasingBy}
use Rattle.std.specs.Vec.{with_item}
use Rattle.pg_map.specs.Entries.{value_at, with_changes}
use Rattle.pg_trace_index.specs.Chunks.{IsAt, all_of}
use Rattle.pg_trace_index.specs.declared.chunk.Chunk.{Chunk}
use Rattle.pg_trace_index.specs.Occurrences.{IsNotedOf, steps_in, with_ran}
use Rattle.pg_trace_index.proofs.InChunks.{changed_there, value_found}
use Rattle.pg_trace_index.proofs.Over.{noted_over, noted_same, over}
use Rattle.pg_trace_index.proofs.overlay.note_of.Goals as goal

pub note_again-requires : goal.note_again-requires
note_again-requires c =
    let id = c.args.id in
    let overlay = c.args.overlay.now.items in
    let at = subst (λ l. IsAt id l c.in-Some.chunk c.in-Some.place) c.as_slice.ensures.value c.in-Some.ensures.some in
    let e = c.index_mut-in-Some.result.now in
    let found : value_at id (all_of overlay) ≡ Some e.1 =
    value_found id overlay c.requires.sound c.in-Some.chunk c.in-Some.place at c.index_mut.result.now c.index_mut.ensures.value e
    ∙ ap (λ x. Some x.1) (sym c.index_mut-in-Some.ensures.value) in
    subst (λ o. IsNonDecreasingBy (λ t. t) (steps_in o))
    (over c.args.base.now (all_of overlay) c.requires.rising c.requires.sound.rise id (Some e.1) found) c.requires.steps

pub returns-in-Some-clause-sound : goal.returns-in-Some-clause-sound
returns-in-Some-clause-sound c =
    let id = c.args.id in
    let overlay = c.args.overlay.now.items in
    let at = subst (λ l. IsAt id l c.in-Some.chunk c.in-Some.place) c.as_slice.ensures.value c.in-Some.ensures.some in
    let chunk = c.index_mut.result.now in
    let e = c.index_mut-in-Some.result.now in
    let now : Chunk _ = record { first = chunk.first; entries = with_item chunk.entries c.in-Some.place (e.0, c.note_again.new.steps) } in
    (changed_there id overlay c.requires.sound c.in-Some.chunk c.in-Some.place at chunk c.index_mut.ensures.value now e c.note_again.new.steps
    c.index_mut-in-Some.ensures.value refl refl).1

pub returns-in-Some-clause-noted : goal.returns-in-Some-clause-noted
returns-in-Some-clause-noted c =
    let id = c.args.id in
    let base = c.args.base.now in
    let overlay = c.args.overlay.now.items in
    let at = subst (λ l. IsAt id l c.in-Some.chunk c.in-Some.place) c.as_slice.ensures.value c.in-Some.ensures.some in
    let chunk = c.index_mut.result.now in
    let e = c.index_mut-in-Some.result.now in
    let now : Chunk _ = record { first = chunk.first; entries = with_item chunk.entries c.in-Some.place (e.0, c.note_again.new.steps) } in
    let found : value_at id (all_of overlay) ≡ Some e.1 =
    value_found id overlay c.requires.sound c.in-Some.chunk c.in-Some.place at chunk c.index_mut.ensures.value e
    ∙ ap (λ x. Some x.1) (sym c.index_mut-in-Some.ensures.value) in
    noted_over base (all_of overlay) c.requires.rising c.requires.sound.rise _ id c.args.superstep (is_some c.args.given) e.1 c.note_again.new.steps
    (changed_there id overlay c.requires.sound c.in-Some.chunk c.in-Some.place at chunk c.index_mut.ensures.value now e c.note_again.new.steps
    c.index_mut-in-Some.ensures.value refl refl).0
    (over base (all_of overlay) c.requires.rising c.requires.sound.rise id (Some e.1) found) c.in_ok-note_again.ensures

pub has_run_once-requires : goal.has_run_once-requires
has_run_once-requires c =
    let id = c.args.id in
    let overlay = c.args.overlay.now.items in
    let none = ap (λ l. value_at id (all_of l)) (sym c.as_slice.ensures.value) ∙ c.in_default.ensures.none in
    subst (λ o. IsNonDecreasingBy (λ t. t) (steps_in o))
    (over c.args.base.now (all_of overlay) c.requires.rising c.requires.sound.rise id None none ∙ sym c.get-before.ensures.value) c.requires.steps

pub returns-then-has_run_once-clause-noted : goal.returns-then-has_run_once-clause-noted
returns-then-has_run_once-clause-noted c =
    let id = c.args.id in
    let s = c.args.superstep in
    let base = c.args.base.now in
    let overlay = c.args.overlay.now.items in
    let ran = with_changes (all_of overlay) base in
    let none = ap (λ l. value_at id (all_of l)) (sym c.as_slice.ensures.value) ∙ c.in_default.ensures.none in
    subst (λ runs. IsNotedOf id s runs ran ran) c.if-is_some.ensures
    (noted_same id s true ran
    (subst (λ o. with_ran s true (steps_in o) ≡ steps_in o)
    (c.get-before.ensures.value ∙ sym (over base (all_of overlay) c.requires.rising c.requires.sound.rise id None none)) (c.if-has_run_once.ensures refl)))

pub returns-clause-noted : goal.returns-clause-noted
returns-clause-noted c =
    let id = c.args.id in
    let base = c.args.base.now in
    let overlay = c.args.overlay.now.items in
    let none = ap (λ l. value_at id (all_of l)) (sym c.as_slice.ensures.value) ∙ c.in_default.ensures.none in
    noted_over base (all_of overlay) c.requires.rising c.requires.sound.rise (all_of c.put.new.chunks.items)
    id c.args.superstep (is_some c.args.given) (value_at id base) c.in_ok-steps.steps c.in_ok-put.ensures.all
    (over base (all_of overlay) c.requires.rising c.requires.sound.rise id None none)
    (c.in_ok-steps.ensures ∙ ap (λ o. with_ran c.args.superstep (is_some c.args.given) (steps_in o)) c.get-before.ensures.value)
