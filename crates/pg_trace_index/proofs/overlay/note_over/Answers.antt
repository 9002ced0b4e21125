use Rattle.std.proofs.Common.{is_some, sym, subst, ◌∙◌}
use Rattle.std.specs.List.Sorted.{IsNonDecreasingBy}
use Rattle.pg_map.specs.Entries.{HasRisingIds, value_at, with_changes}
use Rattle.pg_trace_index.specs.Chunks.{all_of}
use Rattle.pg_trace_index.specs.Occurrences.{IsNotedOf, steps_in}
use Rattle.pg_trace_index.proofs.InPlace.{noted_more, unsaid}
use Rattle.pg_trace_index.proofs.overlay.note_over.Goals as goal

pub note_of-requires : goal.note_of-requires
note_of-requires c =
    let base = c.args.base.now in
    let e = c.loop-id-item.result in
    let ran = with_changes (all_of c.args.overlay.now.items) base in
    let now = with_changes (all_of c.loop-id.overlay.items) base in
    record {
      rising = subst HasRisingIds (sym c.loop-id.invariant.same) c.requires.rising;
      sound = c.loop-id.invariant.sound;
      steps = subst (λ l. IsNonDecreasingBy (λ t. t) (steps_in (value_at e.0 (with_changes (all_of c.loop-id.overlay.items) l)))) (sym c.loop-id.invariant.same)
          (subst (IsNonDecreasingBy (λ t. t))
          (sym (unsaid c.args.superstep c.args.given.now c.loop-id.id-index e ran now c.requires.rise c.loop-id-test.true c.loop-id-item.is
          c.loop-id.invariant.overlay))
          (c.requires.steps e.0));
    }

pub loop-id-preserved : goal.loop-id-preserved
loop-id-preserved c =
    let base = c.args.base.now in
    let e = c.loop-id-item.result in
    let ran = with_changes (all_of c.args.overlay.now.items) base in
    let now = with_changes (all_of c.loop-id.overlay.items) base in
    record {
      overlay = noted_more c.args.superstep c.args.given.now c.loop-id.id-index e ran now c.requires.rise c.loop-id-test.true c.loop-id-item.is
          c.loop-id.invariant.overlay (with_changes (all_of c.note_of.new.overlay.items) base)
          (subst (λ l. IsNotedOf e.0 c.args.superstep (is_some e.1) (with_changes (all_of c.loop-id.overlay.items) l)
          (with_changes (all_of c.note_of.new.overlay.items) l))
          c.loop-id.invariant.same c.in_ok-note_of.ensures.noted);
      sound = c.in_ok-note_of.ensures.sound;
      same = c.note_of.ensures.same ∙ c.loop-id.invariant.same;
    }
