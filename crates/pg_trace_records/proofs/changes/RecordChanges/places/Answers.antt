use Rattle.std.proofs.Common.{◌++◌, ◌∷◌, ◌<◌, ◌≤◌, [], is_some, ap, ◌∙◌, subst}
use Rattle.std.proofs.lemmas.List.{map-append, take_all}
use Rattle.pg_map.proofs.Filling.{mapped_more}
use Rattle.pg_trace_records.specs.RecordChanges.{given_flags}
use Rattle.pg_trace_records.proofs.Parting.{places_in}
use Rattle.pg_trace_records.proofs.changes.RecordChanges.places.Goals as goal

pub loop-place-init : goal.loop-place-init
loop-place-init g c = ap given_flags c.in_ok-places.ensures.items

pub loop-place-preserved : goal.loop-place-preserved
loop-place-preserved g c =
    let before = c.loop-place.places.items in
    let id = c.index.result.now.0 in
    mapped_more (λ e. (e.0, is_some e.1)) c.self.inside.entries.items c.loop-place.place
    (subst (λ n. c.loop-place.place < n) (c.len-place-end.ensures ∙ c.self.inside.entries.ok.0) c.loop-place-test.true) c.index.ensures c.loop-place.invariant
    (ap given_flags c.in_ok-push.ensures.items ∙ map-append (λ e. (e.0, is_some e.1)) before ((id, c.place_if.result) ∷ [])
    ∙ ap (λ b. given_flags before ++ (id, b) ∷ []) (c.place_if.ensures ∙ c.is_some.ensures))

pub returns : goal.returns
returns g c =
    let entries = c.self.inside.entries in
    c.loop-place.invariant
    ∙ ap given_flags (take_all c.loop-place.place entries.items (subst (λ n. n ≤ c.loop-place.place) (c.len-place-end.ensures ∙ entries.ok.0) c.loop-place-test.false))
    ∙ places_in c.self.inside.sent.items c.self.inside.contributed.items entries.items c.self.view_is
