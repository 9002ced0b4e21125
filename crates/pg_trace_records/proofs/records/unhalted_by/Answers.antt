use Rattle.std.proofs.Common.{◌<◌, ◌≤◌, ap, ◌∙◌, subst}
use Rattle.std.proofs.lemmas.List.{take_all}
use Rattle.pg_map.proofs.Filling.{joined_more}
use Rattle.pg_map.specs.Entries.{somes}
use Rattle.pg_trace_records.specs.Records.{unhalted_after}
use Rattle.pg_trace_records.proofs.Changed.{unhalted-append, somes_given}
use Rattle.pg_trace_records.proofs.records.unhalted_by.Goals as goal

pub loop-place-init : goal.loop-place-init
loop-place-init g c = c.new-unhalted.ensures.items

pub loop-place-preserved : goal.loop-place-preserved
loop-place-preserved g c =
    joined_more (λ l. unhalted_after (somes l)) unhalted-append c.args.given.now c.loop-place.place
    (subst (λ n. c.loop-place.place < n) c.len-place-end.ensures c.loop-place-test.true) (c.at-id.ensures c.at-id.result) c.loop-place.invariant
    c.in_ok-add_if_unhalted.ensures

pub returns : goal.returns
returns g c =
    c.loop-place.invariant
    ∙ ap (λ l. unhalted_after (somes l))
    (take_all c.loop-place.place c.args.given.now (subst (λ n. n ≤ c.loop-place.place) c.len-place-end.ensures c.loop-place-test.false))
    ∙ ap unhalted_after (somes_given c.args.given.now c.requires)
