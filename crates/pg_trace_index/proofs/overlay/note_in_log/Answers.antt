use Rattle.std.proofs.Common.{sym, subst}
use Rattle.std.specs.List.Sorted.{IsNonDecreasingBy}
use Rattle.pg_map.specs.Entries.{HasRisingIds, with_changes}
use Rattle.pg_trace_index.specs.Chunks.{all_of}
use Rattle.pg_trace_index.specs.LogEntry.{chains}
use Rattle.pg_trace_index.proofs.Chains.{chains_rise}
use Rattle.pg_trace_index.proofs.InPlace.{noted_more, unsaid}
use Rattle.pg_trace_index.proofs.overlay.note_in_log.Goals as goal

pub note_one-requires-clause-steps : goal.note_one-requires-clause-steps
note_one-requires-clause-steps c =
    let e = c.loop-id-item.result in
    let ran = with_changes (all_of c.args.overlay.now.items) c.args.log in
    let now = with_changes (all_of c.loop-id.overlay.items) (chains c.loop-id.earlier.items (all_of c.loop-id.last.items)) in
    subst (IsNonDecreasingBy (λ t. t))
    (sym (unsaid c.args.superstep c.args.given.now c.loop-id.id-index e ran now c.requires.rise c.loop-id-test.true c.loop-id-item.is
    c.loop-id.invariant.overlay))
    (c.requires.steps e.0)

pub loop-id-preserved : goal.loop-id-preserved
loop-id-preserved c =
    let e = c.loop-id-item.result in
    let ran = with_changes (all_of c.args.overlay.now.items) c.args.log in
    let now = with_changes (all_of c.loop-id.overlay.items) (chains c.loop-id.earlier.items (all_of c.loop-id.last.items)) in
    record {
      overlay = noted_more c.args.superstep c.args.given.now c.loop-id.id-index e ran now c.requires.rise c.loop-id-test.true c.loop-id-item.is
          c.loop-id.invariant.overlay (with_changes (all_of c.note_one.new.overlay.items) (chains c.note_one.new.earlier.items (all_of c.note_one.new.last.items)))
          c.in_ok-note_one.ensures.noted;
      sound = c.in_ok-note_one.ensures.sound;
      log = c.in_ok-note_one.ensures.log;
      within = c.in_ok-note_one.ensures.within;
    }

pub returns-clause-rising : goal.returns-clause-rising
returns-clause-rising c = chains_rise c.loop-id.earlier.items (all_of c.loop-id.last.items) c.loop-id.invariant.log.rise
