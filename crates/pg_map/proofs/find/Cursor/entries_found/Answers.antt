use Rattle.std.proofs.Common.{◌≡◌, ◌+◌, ◌-◌, ◌<◌, length, refl, ap, ◌∙◌, arith, subst, sym}
use Rattle.pg_map.specs.Chunks.{all_of, chunks_in, entries_of, grouped, listed}
use Rattle.pg_map.specs.Entries.{HasRisingIds, IsSlice, value_at}
use Rattle.pg_map.proofs.InGroups.{are_there, rises_there, value_there}
use Rattle.pg_map.proofs.InParts.{firsts_rise, get_before, rises_part}
use Rattle.pg_map.proofs.Slice.{none_slice, part_slice, slice_of}
use Rattle.pg_map.proofs.find.Cursor.entries_found.Goals as goal

pub begun-self-inside-requires : goal.begun-self-inside-requires
begun-self-inside-requires g c = firsts_rise grouped c.self.inside.groups.now c.self.invariant.0.0 c.self.invariant.1

pub returns-then-self-eq0-clause-value : goal.returns-then-self-eq0-clause-value
returns-then-self-eq0-clause-value g c =
    sym
    (get_before grouped c.args.id c.self.inside.groups.now c.begun-self-inside.result c.self.invariant.0.0 c.self.invariant.1
    c.begun-self-inside.ensures.parts c.if-self-eq0.true)
    ∙ ap (value_at c.args.id) c.self.view_is

pub returns-then-self-eq0-clause-slice : goal.returns-then-self-eq0-clause-slice
returns-then-self-eq0-clause-slice g c = none_slice _ c.args.self.now refl

pub begun-self-inside-requires-2 : goal.begun-self-inside-requires-2
begun-self-inside-requires-2 g c =
    let groups = c.self.inside.groups.now in
    let are = c.self.invariant.0 in
    let rising = c.self.invariant.1 in
    let id = c.args.id in
    let n = c.begun-self-inside.result in
    let last : n - 1 + 1 ≡ n = omega (arith, c.if-self-eq0.false) in
    let group = c.index-groups-self.result in
    let chunks = c.as_slice-chunks.result.now in
    let is = c.as_slice-chunks.ensures.value ∙ ap (λ v. v.items) c.deref.ensures ∙ sym (ap chunks_in c.index-groups-self.is) in
    firsts_rise listed chunks
    (are_there groups are rising id n c.begun-self-inside.ensures.parts (n - 1) last c.begun-self-inside.ensures.bound group c.index-groups-self.is chunks is)
    (rises_there groups are rising id n c.begun-self-inside.ensures.parts (n - 1) last c.begun-self-inside.ensures.bound group c.index-groups-self.is chunks is)

pub entries_of_last-requires-clause-rise : goal.entries_of_last-requires-clause-rise
entries_of_last-requires-clause-rise g c =
    let n = c.begun-self-inside.result in
    let last : n - 1 + 1 ≡ n = omega (arith, c.if-self-eq0.false) in
    let is = c.as_slice-chunks.ensures.value ∙ ap (λ v. v.items) c.deref.ensures ∙ sym (ap chunks_in c.index-groups-self.is) in
    rises_there c.self.inside.groups.now c.self.invariant.0 c.self.invariant.1 c.args.id n c.begun-self-inside.ensures.parts (n - 1) last
    c.begun-self-inside.ensures.bound c.index-groups-self.result c.index-groups-self.is c.as_slice-chunks.result.now is

pub returns-clause-value : goal.returns-clause-value
returns-clause-value g c =
    let n = c.begun-self-inside.result in
    let last : n - 1 + 1 ≡ n = omega (arith, c.if-self-eq0.false) in
    let is = c.as_slice-chunks.ensures.value ∙ ap (λ v. v.items) c.deref.ensures ∙ sym (ap chunks_in c.index-groups-self.is) in
    let there = value_there c.self.inside.groups.now c.self.invariant.0 c.self.invariant.1 c.args.id n c.begun-self-inside.ensures.parts (n - 1) last
    c.begun-self-inside.ensures.bound c.index-groups-self.result c.index-groups-self.is c.as_slice-chunks.result.now is in
    c.entries_of_last.ensures.values c.args.id c.begun-self-inside-2.ensures.parts ∙ sym there ∙ ap (value_at c.args.id) c.self.view_is

pub returns-clause-slice : goal.returns-clause-slice
returns-clause-slice g c =
    let groups = c.self.inside.groups.now in
    let n = c.begun-self-inside.result in
    let group = c.index-groups-self.result in
    let within : n - 1 < length groups = omega (arith, c.if-self-eq0.false, c.begun-self-inside.ensures.bound) in
    let is = c.as_slice-chunks.ensures.value ∙ ap (λ v. v.items) c.deref.ensures ∙ sym (ap chunks_in c.index-groups-self.is) in
    let rises = subst (λ d. HasRisingIds (grouped d)) (sym c.index-groups-self.is)
    (rises_part grouped groups (n - 1) group c.self.invariant.1 within) in
    let outer = part_slice grouped groups (n - 1) group c.index-groups-self.is within c.self.invariant.1 rises in
    slice_of c.entries_of_last.result.now (entries_of c.as_slice-chunks.result.now) c.args.self.now c.entries_of_last.ensures.slice
    (subst (IsSlice (entries_of c.as_slice-chunks.result.now)) c.self.view_is (subst (λ l. IsSlice (entries_of l) (all_of groups)) (sym is) outer))
