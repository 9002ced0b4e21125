use Rattle.std.proofs.Common.{ap, ◌++◌, ◌∙◌, subst, sym}
use Rattle.std.proofs.lemmas.List.{nil_from_length}
use Rattle.std.proofs.lemmas.Result.{IfOk-equal}
use Rattle.pg_map.specs.Chunks.{AreChunks, entries_of, listed}
use Rattle.pg_map.specs.Entries.{ChangesRise, HasRisingIds, with_changes}
use Rattle.pg_map.proofs.InParts.{part_turn}
use Rattle.pg_map.proofs.Parts.{rises_left, rises_right}
use Rattle.pg_map.proofs.gather.Gathering.merge_chunks.Goals as goal

pub merge_chunk-requires-clause-changes_rise : goal.merge_chunk-requires-clause-changes_rise
merge_chunk-requires-clause-changes_rise g c =
    rises_left c.split_at.result.0.now c.split_at.result.1.now (subst ChangesRise c.split_at.ensures.by_index.0 c.loop-chunk.invariant.changes_rise)

pub merge_chunk-requires-clause-entries_rise : goal.merge_chunk-requires-clause-entries_rise
merge_chunk-requires-clause-entries_rise g c =
    rises_left (listed c.in-Some.chunk.now) (entries_of c.in-Some.others.now)
    (subst (λ l. HasRisingIds (entries_of l)) c.in-Some.ensures.cases.0 c.loop-chunk.invariant.entries_rise)

pub loop-chunk-preserved : goal.loop-chunk-preserved
loop-chunk-preserved g c =
    let now = c.loop-chunk in
    let at = c.in-Some.ensures.cases.0 in
    let here = c.split_at.result.0.now in
    let later = c.split_at.result.1.now in
    let parts = c.split_at.ensures.by_index.0 in
    record {
      made = part_turn listed now.self _ now.remaining.now c.in-Some.others.now c.in-Some.chunk.now now.todo.now here later c.cut_of.result at parts
          c.split_at.ensures.front c.split_at.ensures.back now.invariant.chunks now.invariant.entries_rise c.cut_of.ensures.cut c.in_ok-merge_chunk.ensures
          ∙ now.invariant.made;
      chunks = (subst AreChunks at now.invariant.chunks).1;
      entries_rise = rises_right (listed c.in-Some.chunk.now) (entries_of c.in-Some.others.now)
          (subst (λ l. HasRisingIds (entries_of l)) at now.invariant.entries_rise);
      changes_rise = rises_right here later (subst ChangesRise parts now.invariant.changes_rise);
    }

pub returns : goal.returns
returns g c =
    let now = c.loop-chunk in
    let none = c.as_slice.ensures.value ∙ c.new-none.ensures.items in
    let over = nil_from_length now.remaining.now c.in_default.ensures.cases in
    IfOk-equal c.merge.result _ _ _ c.merge.ensures
    (ap (λ l. now.self ++ with_changes now.todo.now l) (none ∙ sym (ap entries_of over)) ∙ now.invariant.made)
