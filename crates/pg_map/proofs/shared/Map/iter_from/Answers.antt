use Rattle.std.proofs.Common.{length, arith, sym, ap, append_assoc, ◌++◌, ◌∙◌, ◌+◌, ◌-◌, ◌≡◌, subst}
use Rattle.std.proofs.iter.runs.Sources.{from_front}
use Rattle.std.specs.Map.Iter.{TakesFirst, deref_pair}
use Rattle.pg_map.specs.Chunks.{AreGroups, all_of, chunks_in, entries_of, grouped}
use Rattle.pg_map.specs.Entries.{HasRisingIds, entries_from}
use Rattle.pg_map.proofs.InGroups.{from_there, rises_there}
use Rattle.pg_map.proofs.InParts.{firsts_rise, from_before}
use Rattle.pg_map.proofs.shared.Map.iter_from.Goals as goal

pub returns-clause-runs : goal.returns-clause-runs
returns-clause-runs g c = from_front (TakesFirst deref_pair) deref_pair (λ s. s) (λ s t h. ap length h.0) (λ s x t h. h)

pub begun-after-requires : goal.begun-after-requires
begun-after-requires g c =
    let are = subst AreGroups (sym c.as_slice-groups.ensures) c.self.invariant.groups_are in
    firsts_rise grouped c.as_slice-groups.result.now are.0
    (subst (λ l. HasRisingIds (all_of l)) (sym c.as_slice-groups.ensures) c.self.invariant.rise)

pub returns-then-after-eq0-clause-rest : goal.returns-then-after-eq0-clause-rest
returns-then-after-eq0-clause-rest g c =
    let id = c.args.id in
    let groups = c.as_slice-groups.result.now in
    let are = subst AreGroups (sym c.as_slice-groups.ensures) c.self.invariant.groups_are in
    let rising = subst (λ l. HasRisingIds (all_of l)) (sym c.as_slice-groups.ensures) c.self.invariant.rise in
    let view = ap all_of c.as_slice-groups.ensures ∙ c.self.view_is in
    c.iter.ensures.rest ∙ sym view
    ∙ sym (from_before grouped id groups c.begun-after.result are.0 rising c.begun-after.ensures.parts c.if-after-eq0.true)
    ∙ ap (entries_from id) view

pub chunks_from-requires-clause-rise : goal.chunks_from-requires-clause-rise
chunks_from-requires-clause-rise g c =
    let after = c.begun-after.result in
    let last : after - 1 + 1 ≡ after = omega (arith, c.if-after-eq0.false) in
    let is = c.as_slice.ensures.value ∙ ap (λ v. v.items) c.deref.ensures ∙ sym (ap chunks_in c.index-groups-after.is) in
    rises_there c.as_slice-groups.result.now (subst AreGroups (sym c.as_slice-groups.ensures) c.self.invariant.groups_are)
    (subst (λ l. HasRisingIds (all_of l)) (sym c.as_slice-groups.ensures) c.self.invariant.rise) c.args.id after c.begun-after.ensures.parts (after - 1) last
    c.begun-after.ensures.bound c.index-groups-after.result c.index-groups-after.is c.as_slice.result.now is

pub returns-clause-rest : goal.returns-clause-rest
returns-clause-rest g c =
    let id = c.args.id in
    let after = c.begun-after.result in
    let last : after - 1 + 1 ≡ after = omega (arith, c.if-after-eq0.false) in
    let is = c.as_slice.ensures.value ∙ ap (λ v. v.items) c.deref.ensures ∙ sym (ap chunks_in c.index-groups-after.is) in
    let there = from_there c.as_slice-groups.result.now (subst AreGroups (sym c.as_slice-groups.ensures) c.self.invariant.groups_are)
    (subst (λ l. HasRisingIds (all_of l)) (sym c.as_slice-groups.ensures) c.self.invariant.rise) id after c.begun-after.ensures.parts (after - 1) last
    c.begun-after.ensures.bound c.index-groups-after.result c.index-groups-after.is c.as_slice.result.now is in
    let chunks = c.chunks_from.result.1.now in
    let later = c.split_at.result.1.now in
    sym (append_assoc c.chunks_from.result.0.now (entries_of chunks) (all_of later))
    ∙ ap (λ l. l ++ all_of later) c.chunks_from.ensures.entries
    ∙ ap (λ l. entries_from id (entries_of c.as_slice.result.now) ++ all_of l) c.split_at.ensures.back
    ∙ sym there ∙ ap (entries_from id) (ap all_of c.as_slice-groups.ensures ∙ c.self.view_is)
