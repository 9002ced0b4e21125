use Rattle.std.proofs.Common.{map}
use Rattle.pg_import.proofs.SourceFacts.{AreNoted-at, lead_if_noted}
use Rattle.pg_import.proofs.looked_up.sources.Sources.edges_noted.Goals as goal

pub returns-in-Some-clause-edges : goal.returns-in-Some-clause-edges
returns-in-Some-clause-edges c =
    let noted = map (λ e. e.now) c.self.inside.edges.items in
    rw (← c.self.view_is) (AreNoted-at c.self.inside.last_row c.self.inside.ids.items noted c.self.inside.place c.self.invariant
    (rw c.as_slice.ensures.value at c.in-Some.ensures.source) (rw c.as_slice-2.ensures.value at c.in-Some.ensures.edges))

pub returns-clause-edges : goal.returns-clause-edges
returns-clause-edges c =
    let noted = map (λ e. e.now) c.self.inside.edges.items in
    rw (← c.self.view_is) (lead_if_noted c.self.inside.last_row c.self.inside.ids.items noted c.saturating_add-self-inside.result c.args.id
    (λ e. e.now) c.edges_at-2.result c.self.invariant (rw c.as_slice-3.ensures.value at c.edges_at-2.ensures.source)
    (rw c.as_slice-4.ensures.value at c.edges_at-2.ensures.edges))
