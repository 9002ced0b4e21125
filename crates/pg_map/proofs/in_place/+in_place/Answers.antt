use Rattle.std.specs.Vec.{with_items}
use Rattle.std.proofs.Common.{length, ap, sum_by, sym, subst, ◌∙◌, arith}
use Rattle.pg_map.specs.Chunks.{AreChunks, AreThere, StartsAt, all_of, entries_of, grouped, listed}
use Rattle.pg_map.specs.Entries.{ChangesRise, HasRisingIds, with_changes}
use Rattle.pg_map.proofs.InParts.{firsts_rise, starts_at_first}
use Rattle.pg_map.proofs.Passed.{others_rise_on, others_stand, passed_counted, passed_groups, passed_over}
use Rattle.pg_map.proofs.InPlace.{both_made, first_chunks, first_is, first_rises, no_length, others_are, others_groups, others_made, others_rise, part_stays, some_chunks, written}
use Rattle.pg_map.proofs.Parts.{rises_left, rises_right}
use Rattle.pg_map.proofs.in_place.+in_place.Goals as goal

pub change_first_chunk-change_chunks-requires : goal.change_first_chunk-change_chunks-requires
change_first_chunk-change_chunks-requires g t c κs within =
    let at = c.in-Some.ensures.cases.0 in
    let all = c.args.chunks.now in
    let now = c.split_at_mut-now.result.0.now in
    let after = c.split_at_mut-now.result.1.now in (
      omega (arith, c.decreases, c.in_ok-depth.ensures),
      (
        within,
        (
          others_are listed all c.in-Some.chunk.now c.in-Some.others.now at c.requires.chunks c.requires.chunks_rise,
          (
            others_rise listed all c.in-Some.chunk.now c.in-Some.others.now at c.requires.chunks c.requires.chunks_rise,
            (
              rises_right now after (subst ChangesRise c.split_at_mut-now.ensures.value c.requires.here_rise),
              (c.requires.groups, (c.requires.groups_rise, c.requires.later_rise)),
            ),
          ),
        ),
      ),
    )

pub change_first_chunk-returns-then-is_empty-clause-here : goal.change_first_chunk-returns-then-is_empty-clause-here
change_first_chunk-returns-then-is_empty-clause-here g t c =
    let split = c.split_at_mut-now in
    others_made listed c.args.chunks.now c.in-Some.chunk.now c.in-Some.others.now c.in-Some.ensures.cases.0 c.requires.chunks c.requires.chunks_rise
    c.args.here.now split.result.0.now split.result.1.now c.cut_of.result split.ensures.value split.ensures.front split.ensures.back
    c.cut_of.ensures.cut (entries_of c.change_chunks.new.chunks) (no_length (length split.result.0.now) c.if-is_empty.ensures) c.in_ok-counts.ensures.here

pub change_first_chunk-are_there-requires : goal.change_first_chunk-are_there-requires
change_first_chunk-are_there-requires g t c =
    subst HasRisingIds (sym (c.as_slice.ensures.value ∙ ap (λ v. v.items) c.deref.ensures))
    (first_rises listed c.args.chunks.now c.in-Some.chunk.now c.in-Some.others.now c.in-Some.ensures.cases.0 c.requires.chunks c.requires.chunks_rise)

pub change_first_chunk-change_chunks-requires-then-are_there : goal.change_first_chunk-change_chunks-requires-then-are_there
change_first_chunk-change_chunks-requires-then-are_there g t c κs within =
    let at = c.in-Some.ensures.cases.0 in
    let all = c.args.chunks.now in
    let now = c.split_at_mut-now.result.0.now in
    let after = c.split_at_mut-now.result.1.now in (
      omega (arith, c.decreases, c.in_ok-depth.ensures),
      (
        within,
        (
          others_are listed all c.in-Some.chunk.now c.in-Some.others.now at c.requires.chunks c.requires.chunks_rise,
          (
            others_rise listed all c.in-Some.chunk.now c.in-Some.others.now at c.requires.chunks c.requires.chunks_rise,
            (
              rises_right now after (subst ChangesRise c.split_at_mut-now.ensures.value c.requires.here_rise),
              (c.requires.groups, (c.requires.groups_rise, c.requires.later_rise)),
            ),
          ),
        ),
      ),
    )

pub change_first_chunk-put_values-requires-clause-rise : goal.change_first_chunk-put_values-requires-clause-rise
change_first_chunk-put_values-requires-clause-rise g t c =
    subst HasRisingIds (sym (c.deref_mut.ensures.value ∙ ap (λ v. v.items) c.in_ok-entries.ensures.value))
    (first_rises listed c.args.chunks.now c.in-Some.chunk.now c.in-Some.others.now c.in-Some.ensures.cases.0 c.requires.chunks c.requires.chunks_rise)

pub change_first_chunk-put_values-requires-clause-there : goal.change_first_chunk-put_values-requires-clause-there
change_first_chunk-put_values-requires-clause-there g t c =
    subst (AreThere c.split_at_mut-now.result.0.now)
    (c.as_slice.ensures.value ∙ ap (λ v. v.items) c.deref.ensures
    ∙ sym (c.deref_mut.ensures.value ∙ ap (λ v. v.items) c.in_ok-entries.ensures.value))
    (c.are_there.ensures c.if-are_there.true)

pub change_first_chunk-returns-then-are_there-clause-chunks : goal.change_first_chunk-returns-then-are_there-clause-chunks
change_first_chunk-returns-then-are_there-clause-chunks g t c =
    let at = c.in-Some.ensures.cases.0 in
    let all = c.args.chunks.now in
    let chunk = c.in-Some.chunk.now in
    let entries = c.in_ok-entries.entries.now in
    let now = c.split_at_mut-now.result.0.now in
    let is = written c.put_values.new.entries entries.items entries.len (sym c.deref_mut.ensures.len ∙ sym c.put_values.auto.entries) in
    let was = c.deref_mut.ensures.value ∙ ap (λ v. v.items) c.in_ok-entries.ensures.value in
    let there = subst (AreThere now) (c.as_slice.ensures.value ∙ ap (λ v. v.items) c.deref.ensures) (c.are_there.ensures c.if-are_there.true) in (
      part_stays chunk.first chunk.count now (listed chunk) _
          (first_rises listed all chunk c.in-Some.others.now at c.requires.chunks c.requires.chunks_rise) there
          (is ∙ c.put_values.ensures ∙ ap (with_changes now) was) (first_is listed all chunk c.in-Some.others.now at c.requires.chunks c.requires.chunks_rise),
      c.in_ok-counts-2.ensures.chunks,
    )

pub change_first_chunk-returns-then-are_there-clause-here : goal.change_first_chunk-returns-then-are_there-clause-here
change_first_chunk-returns-then-are_there-clause-here g t c =
    let split = c.split_at_mut-now in
    let entries = c.in_ok-entries.entries.now in
    let is = written c.put_values.new.entries entries.items entries.len (sym c.deref_mut.ensures.len ∙ sym c.put_values.auto.entries) in
    let was = c.deref_mut.ensures.value ∙ ap (λ v. v.items) c.in_ok-entries.ensures.value in
    both_made listed c.args.chunks.now c.in-Some.chunk.now c.in-Some.others.now c.in-Some.ensures.cases.0 c.requires.chunks c.requires.chunks_rise
    c.args.here.now split.result.0.now split.result.1.now c.cut_of.result split.ensures.value split.ensures.front split.ensures.back
    c.cut_of.ensures.cut _ (entries_of c.change_chunks-then-are_there.new.chunks)
    (is ∙ c.put_values.ensures ∙ ap (with_changes split.result.0.now) was) c.in_ok-counts-2.ensures.here

pub change_first_chunk-merged-requires-clause-rise : goal.change_first_chunk-merged-requires-clause-rise
change_first_chunk-merged-requires-clause-rise g t c =
    first_rises listed c.args.chunks.now c.in-Some.chunk.now c.in-Some.others.now c.in-Some.ensures.cases.0 c.requires.chunks c.requires.chunks_rise

pub change_first_chunk-merged-requires-clause-changes_rise : goal.change_first_chunk-merged-requires-clause-changes_rise
change_first_chunk-merged-requires-clause-changes_rise g t c =
    rises_left c.split_at_mut-now.result.0.now c.split_at_mut-now.result.1.now (subst ChangesRise c.split_at_mut-now.ensures.value c.requires.here_rise)

pub change_first_chunk-change_chunks-requires-2 : goal.change_first_chunk-change_chunks-requires-2
change_first_chunk-change_chunks-requires-2 g t c κs within =
    let at = c.in-Some.ensures.cases.0 in
    let all = c.args.chunks.now in
    let now = c.split_at_mut-now.result.0.now in
    let after = c.split_at_mut-now.result.1.now in (
      omega (arith, c.decreases, c.in_ok-depth.ensures),
      (
        within,
        (
          others_are listed all c.in-Some.chunk.now c.in-Some.others.now at c.requires.chunks c.requires.chunks_rise,
          (
            others_rise listed all c.in-Some.chunk.now c.in-Some.others.now at c.requires.chunks c.requires.chunks_rise,
            (
              rises_right now after (subst ChangesRise c.split_at_mut-now.ensures.value c.requires.here_rise),
              (c.requires.groups, (c.requires.groups_rise, c.requires.later_rise)),
            ),
          ),
        ),
      ),
    )

pub change_first_chunk-returns-clause-here : goal.change_first_chunk-returns-clause-here
change_first_chunk-returns-clause-here g t c =
    let split = c.split_at_mut-now in
    both_made listed c.args.chunks.now c.in-Some.chunk.now c.in-Some.others.now c.in-Some.ensures.cases.0 c.requires.chunks c.requires.chunks_rise
    c.args.here.now split.result.0.now split.result.1.now c.cut_of.result split.ensures.value split.ensures.front split.ensures.back
    c.cut_of.ensures.cut (listed c.in_ok-made.made) (entries_of c.change_chunks-2.new.chunks) c.in_ok-made.ensures.entries c.in_ok-counts-3.ensures.here

pub change_first_group-change_groups-requires : goal.change_first_group-change_groups-requires
change_first_group-change_groups-requires g t c κs within =
    let at = c.in-Some.ensures.cases.0 in
    let all = c.args.groups.now in
    let here = c.split_at_mut-here.result.0.now in
    let later = c.split_at_mut-here.result.1.now in (
      omega (arith, c.decreases, c.in_ok-depth.ensures),
      (
        within,
        (
          others_groups all c.in-Some.group.now c.in-Some.others.now at c.requires.groups,
          (
            others_rise grouped all c.in-Some.group.now c.in-Some.others.now at c.requires.groups.0 c.requires.rise,
            rises_right here later (subst ChangesRise c.split_at_mut-here.ensures.value c.requires.changes_rise),
          ),
        ),
      ),
    )

pub change_first_group-returns-then-is_empty-clause-made : goal.change_first_group-returns-then-is_empty-clause-made
change_first_group-returns-then-is_empty-clause-made g t c =
    let split = c.split_at_mut-here in
    others_made grouped c.args.groups.now c.in-Some.group.now c.in-Some.others.now c.in-Some.ensures.cases.0 c.requires.groups.0 c.requires.rise
    c.args.changes.now split.result.0.now split.result.1.now c.cut_of.result split.ensures.value split.ensures.front split.ensures.back
    c.cut_of.ensures.cut (all_of c.change_groups.new.groups) (no_length (length split.result.0.now) c.if-is_empty.ensures) c.in_ok-all.ensures.made

pub change_first_group-change_chunks-requires : goal.change_first_group-change_chunks-requires
change_first_group-change_chunks-requires g t c κs within =
    let at = c.in-Some.ensures.cases.0 in
    let all = c.args.groups.now in
    let here = c.split_at_mut-here.result.0.now in
    let later = c.split_at_mut-here.result.1.now in
    let rise = subst ChangesRise c.split_at_mut-here.ensures.value c.requires.changes_rise in
    let was = sym (c.deref_mut.ensures.value ∙ ap (λ v. v.items) c.in_ok-chunks.ensures.value) in (
      omega (arith, c.decreases, c.in_ok-depth.ensures),
      (
        within,
        (
          subst AreChunks was (first_chunks all c.in-Some.group.now c.in-Some.others.now at c.requires.groups),
          (
            subst (λ l. HasRisingIds (entries_of l)) was
                (first_rises grouped all c.in-Some.group.now c.in-Some.others.now at c.requires.groups.0 c.requires.rise),
            (
              rises_left here later rise,
              (
                others_groups all c.in-Some.group.now c.in-Some.others.now at c.requires.groups,
                (others_rise grouped all c.in-Some.group.now c.in-Some.others.now at c.requires.groups.0 c.requires.rise, rises_right here later rise),
              ),
            ),
          ),
        ),
      ),
    )

pub change_first_group-returns-clause-groups : goal.change_first_group-returns-clause-groups
change_first_group-returns-clause-groups g t c =
    let chunks = c.in_ok-chunks.chunks.now in
    let made = c.change_chunks.new.chunks in
    let is = written made chunks.items chunks.len (sym c.deref_mut.ensures.len ∙ sym c.change_chunks.auto.chunks) in
    let are = subst AreChunks (sym is) c.in_ok-counts.ensures.chunks in
    let was = c.deref_mut.ensures.value ∙ ap (λ v. v.items) c.in_ok-chunks.ensures.value in
    let some = some_chunks c.args.groups.now c.in-Some.group.now c.in-Some.others.now c.in-Some.ensures.cases.0 c.requires.groups in
    let items = (with_items chunks made).items in (
      (
        (
          subst (λ p. StartsAt p.first (entries_of items)) (sym c.index.ensures)
              (starts_at_first listed items c.index.result.now
              (omega (arith, some, ap length was, ap length is, c.change_chunks.auto.chunks)) are),
          omega (arith, c.in_ok-counts.ensures.group, ap (λ l. length (entries_of l)) is),
        ),
        c.in_ok-counts.ensures.groups.0,
      ),
      (are, c.in_ok-counts.ensures.groups.1),
    )

pub change_first_group-returns-clause-made : goal.change_first_group-returns-clause-made
change_first_group-returns-clause-made g t c =
    let split = c.split_at_mut-here in
    let chunks = c.in_ok-chunks.chunks.now in
    let is = written c.change_chunks.new.chunks chunks.items chunks.len (sym c.deref_mut.ensures.len ∙ sym c.change_chunks.auto.chunks) in
    let was = c.deref_mut.ensures.value ∙ ap (λ v. v.items) c.in_ok-chunks.ensures.value in
    both_made grouped c.args.groups.now c.in-Some.group.now c.in-Some.others.now c.in-Some.ensures.cases.0 c.requires.groups.0 c.requires.rise
    c.args.changes.now split.result.0.now split.result.1.now c.cut_of.result split.ensures.value split.ensures.front split.ensures.back
    c.cut_of.ensures.cut _ (all_of c.change_chunks.new.groups)
    (ap entries_of is ∙ c.in_ok-counts.ensures.here ∙ ap (λ l. with_changes split.result.0.now (entries_of l)) was) c.in_ok-counts.ensures.later

pub change_groups-untouched-passed-requires : goal.change_groups-untouched-passed-requires
change_groups-untouched-passed-requires g t c = firsts_rise grouped c.args.groups.now c.requires.groups.0 c.requires.rise

pub change_groups-change_first_group-requires : goal.change_groups-change_first_group-requires
change_groups-change_first_group-requires g t c κs within =
    let all = c.args.groups.now in
    let split = c.split_at_mut-others in
    let n = c.untouched-passed.result in (
      omega (arith, c.decreases),
      (
        within,
        (
          passed_groups all split.result.1.now n split.ensures.back c.requires.groups,
          (
            others_rise_on grouped all n c.requires.groups.0 c.requires.rise split.result.0.now split.result.1.now split.ensures.front split.ensures.back,
            c.requires.changes_rise,
          ),
        ),
      ),
    )

pub change_groups-returns-clause-made : goal.change_groups-returns-clause-made
change_groups-returns-clause-made g t c =
    let split = c.split_at_mut-others in
    passed_over grouped c.args.groups.now c.untouched-passed.result c.requires.groups.0 c.requires.rise split.result.0.now split.result.1.now
    split.ensures.front split.ensures.back c.args.changes.now c.requires.changes_rise c.untouched-passed.ensures.past c.change_first_group.new.groups
    c.in_ok-all.ensures.made

pub change_groups-returns-clause-counted : goal.change_groups-returns-clause-counted
change_groups-returns-clause-counted g t c =
    let split = c.split_at_mut-others in
    let entries = ap (λ l. sum_by (λ p. p.count) l) (c.split_at.ensures.front ∙ sym split.ensures.front) in
    omega (
      arith,
      c.in_ok-all.ensures.counted,
      c.in_ok-before.ensures.1,
      passed_counted grouped c.args.groups.now c.untouched-passed.result c.requires.groups.0 c.requires.rise split.result.0.now split.result.1.now
          split.ensures.front split.ensures.back c.in-Ok.entries (c.in-Ok.ensures ∙ entries) c.change_first_group.new.groups,
    )

pub change_chunks-untouched-passed-requires : goal.change_chunks-untouched-passed-requires
change_chunks-untouched-passed-requires g t c = firsts_rise listed c.args.chunks.now c.requires.chunks c.requires.chunks_rise

pub change_chunks-change_first_chunk-requires : goal.change_chunks-change_first_chunk-requires
change_chunks-change_first_chunk-requires g t c κs within =
    let all = c.args.chunks.now in
    let split = c.split_at_mut-others in
    let n = c.untouched-passed.result in (
      omega (arith, c.decreases),
      (
        within,
        (
          others_stand listed all n c.requires.chunks c.requires.chunks_rise split.result.0.now split.result.1.now split.ensures.front split.ensures.back,
          (
            others_rise_on listed all n c.requires.chunks c.requires.chunks_rise split.result.0.now split.result.1.now split.ensures.front split.ensures.back,
            (c.requires.here_rise, (c.requires.groups, (c.requires.groups_rise, c.requires.later_rise))),
          ),
        ),
      ),
    )

pub change_chunks-returns-clause-here : goal.change_chunks-returns-clause-here
change_chunks-returns-clause-here g t c =
    let split = c.split_at_mut-others in
    passed_over listed c.args.chunks.now c.untouched-passed.result c.requires.chunks c.requires.chunks_rise split.result.0.now split.result.1.now
    split.ensures.front split.ensures.back c.args.here.now c.requires.here_rise c.untouched-passed.ensures.past c.change_first_chunk.new.chunks
    c.in_ok-counts.ensures.here

pub change_chunks-returns-clause-group : goal.change_chunks-returns-clause-group
change_chunks-returns-clause-group g t c =
    let split = c.split_at_mut-others in
    let entries = ap (λ l. sum_by (λ p. p.count) l) (c.split_at.ensures.front ∙ sym split.ensures.front) in
    omega (
      arith,
      c.in_ok-counts.ensures.group,
      c.in_ok-before.ensures.1,
      passed_counted listed c.args.chunks.now c.untouched-passed.result c.requires.chunks c.requires.chunks_rise split.result.0.now split.result.1.now
          split.ensures.front split.ensures.back c.in-Ok.entries (c.in-Ok.ensures ∙ entries) c.change_first_chunk.new.chunks,
    )

pub change_chunks-returns-clause-all : goal.change_chunks-returns-clause-all
change_chunks-returns-clause-all g t c =
    let split = c.split_at_mut-others in
    let entries = ap (λ l. sum_by (λ p. p.count) l) (c.split_at.ensures.front ∙ sym split.ensures.front) in
    omega (
      arith,
      c.in_ok-counts.ensures.all,
      c.in_ok-before.ensures.1,
      passed_counted listed c.args.chunks.now c.untouched-passed.result c.requires.chunks c.requires.chunks_rise split.result.0.now split.result.1.now
          split.ensures.front split.ensures.back c.in-Ok.entries (c.in-Ok.ensures ∙ entries) c.change_first_chunk.new.chunks,
    )
