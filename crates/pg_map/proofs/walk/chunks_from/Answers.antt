use Rattle.std.proofs.Common.{of_calls, ltb, drop, rules, arith, sym, ap, ◌++◌, ◌∙◌, ◌+◌, ◌-◌, ◌≡◌, subst}
use Rattle.std.proofs.lemmas.Fn.{always_returns_same}
use Rattle.std.proofs.lemmas.List.Sorted.{IsPartitionedBy-ltb}
use Rattle.pg_map.specs.Chunks.{entries_of, listed}
use Rattle.pg_map.specs.Entries.{HasRisingIds, entries_from}
use Rattle.pg_map.proofs.InParts.{firsts_rise, from_before, from_in, from_search, rises_in}
use Rattle.pg_map.proofs.Search.{rises}
use Rattle.pg_map.proofs.walk.chunks_from.Goals as goal

pub begun-after-requires : goal.begun-after-requires
begun-after-requires g c = firsts_rise listed c.args.chunks.now c.requires.chunks c.requires.rise

pub returns-then-after-eq0-clause-entries : goal.returns-then-after-eq0-clause-entries
returns-then-after-eq0-clause-entries g c =
    sym
    (from_before listed c.args.id c.args.chunks.now c.begun-after.result c.requires.chunks c.requires.rise c.begun-after.ensures.parts c.if-after-eq0.true)

pub returns-clause-entries : goal.returns-clause-entries
returns-clause-entries g c =
    let id = c.args.id in
    let chunks = c.args.chunks.now in
    let after = c.begun-after.result in
    let chunk = c.index-chunks-after.result in
    let last : after - 1 + 1 ≡ after = omega (arith, c.if-after-eq0.false) in
    let parts = c.begun-after.ensures.parts in
    let bound = c.begun-after.ensures.bound in
    let entries = c.as_slice-entries.result.now in
    let listed_is = c.as_slice-entries.ensures.value ∙ ap (λ v. v.items) c.deref.ensures ∙ sym (ap listed c.index-chunks-after.is) in
    let rising = subst HasRisingIds (sym listed_is)
    (rises_in listed id chunks after c.requires.chunks c.requires.rise parts (after - 1) last bound chunk c.index-chunks-after.is) in
    let place = c.partition_point-place.result in
    let places = c.partition_point-place.ensures.partitioned (λ y. ltb y.0 id) (always_returns_same _ _ _ (λ a r f k. search (rules, of_calls)))
    (IsPartitionedBy-ltb (λ y. y.0) entries id (λ i j d h w. rises entries i j d rising h w)) in
    let same = from_in listed id chunks after c.requires.chunks c.requires.rise parts (after - 1) last bound chunk c.index-chunks-after.is in
    let cut = from_search listed id entries place c.partition_point-place.ensures.bound places in
    ap (λ l. l ++ entries_of c.split_at-2.result.1.now) c.split_at.ensures.back
    ∙ ap (λ l. drop place entries ++ entries_of l) c.split_at-2.ensures.back
    ∙ ap (λ l. l ++ entries_of (drop after chunks)) (cut ∙ ap (entries_from id) listed_is) ∙ sym same
