use Rattle.std.proofs.Common.{◌≡◌, ◌+◌, ◌≤◌, None, false, length, ap, sym, ◌∙◌, subst, arith}
use Rattle.std.specs.Map.{keys_of}
use Rattle.std.proofs.lemmas.List.{length_push}
use Rattle.pg_map.specs.Entries.{ChangesRise}
use Rattle.pg_trace.proofs.Handed.{some_rise}
use Rattle.pg_part.specs.PartRun.{PartRunState, with_resumed}
use Rattle.pg_part.proofs.RunResuming.{resumed_trace}
use Rattle.pg_part.proofs.part_run.PartRun.resumed.Goals as goal

pub with_records-requires-clause-rise : goal.with_records-requires-clause-rise
with_records-requires-clause-rise g c κs within = subst ChangesRise (sym c.in_ok-given.ensures) (some_rise c.args.records.items c.requires.rise)

pub invariant_of-result : goal.invariant_of-result
invariant_of-result g c =
    let inside = c.self.inside in
    let records = c.args.records.items in
    let long = ap (λ h. length h.trace.records) c.self.view_is ∙ c.requires.next ∙ sym (ap (λ h. h.place) c.self.view_is) in
    let recorded = resumed_trace inside.place records inside.trace c.requires.rise long c.in_ok-given.ensures c.in_ok-trace.ensures in
    let many = ap (λ t. length t.records) recorded ∙ length_push inside.trace.records records in
    let next = c.new.ensures ∙ ap (λ k. k + 1) c.number.ensures in
    let fact : c.new.result ≤ length c.in_ok-trace.trace.records = omega (arith, many, next, long) in (fact, tt)

pub returns : goal.returns
returns g c =
    let inside = c.self.inside in
    let records = c.args.records.items in
    let long = ap (λ h. length h.trace.records) c.self.view_is ∙ c.requires.next ∙ sym (ap (λ h. h.place) c.self.view_is) in
    let recorded = resumed_trace inside.place records inside.trace c.requires.rise long c.in_ok-given.ensures c.in_ok-trace.ensures in
    let after : PartRunState g.row.V.Denot g.row.M.Denot = record {
      partition = inside.partition;
      partitions = inside.partitions;
      missing = inside.missing;
      place = c.new.result;
      trace = c.in_ok-trace.trace;
      kept = None;
      live = c.of.result.live.items;
      quiescent = c.of.result.quiescent.items;
      changed = c.in_ok-changed.changed.items;
      was_warm = false;
    } in
    subst (λ h. after ≡ with_resumed records h) c.self.view_is
    (λ i. record {
      partition = inside.partition;
      partitions = inside.partitions;
      missing = inside.missing;
      place = (c.new.ensures ∙ ap (λ k. k + 1) c.number.ensures) i;
      trace = recorded i;
      kept = None;
      live = (c.of.ensures.live ∙ c.new-2.ensures.items) i;
      quiescent = c.of.ensures.quiescent i;
      changed = (c.in_ok-changed.ensures ∙ ap keys_of c.as_slice.ensures.value) i;
      was_warm = false;
    })
