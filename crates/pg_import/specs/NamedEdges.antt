-- The edges that a list mentions, each once, and which of them are there.
use Rattle.std.specs.Prelude.{◌≡◌, ℕ, ◌<◌, ◌⊎◌, ⊤, Bool, false, ◌&&◌, if◌then◌else◌, List, [], ◌∷◌, Some}
use Rattle.std.specs.BTreeMap.{is_at}
use Rattle.std.specs.List.{AllByRecursion, slice_get}
use Rattle.std.specs.Ordering.{nat_cmp}
use Rattle.pg_import.specs.declared.named_edges.NamedEdge.{NamedEdge}

-- whether this is the edge between two vertices
abbrev pub is_edge : ℕ → ℕ → NamedEdge → Bool
is_edge source target edge = is_at (nat_cmp edge.source) source && is_at (nat_cmp edge.target) target

-- whether the edge between two vertices is there: as its entry says, and where it has none as it is elsewhere
abbrev pub there_in : ℕ → ℕ → Bool → List NamedEdge → Bool
there_in source target elsewhere [] = elsewhere
there_in source target elsewhere (edge ∷ edges) =
    if is_edge source target edge then edge.there else there_in source target elsewhere edges

-- what the entries say of each edge is what `has` says
abbrev pub AreThereAs : (ℕ → ℕ → Bool) → List NamedEdge → Type 0
AreThereAs has edges = (source target : ℕ) → there_in source target (has source target) edges ≡ has source target

-- this edge is none of those
abbrev pub IsApart : ℕ → ℕ → List NamedEdge → Type 0
IsApart source target edges = AllByRecursion (λ edge. is_edge source target edge ≡ false) edges

-- the edge between two vertices stands at this place
abbrev pub StandsAt : ℕ → ℕ → List NamedEdge → ℕ → Type 0
StandsAt source target edges place =
    (edge : NamedEdge) × (slice_get edges place ≡ Some edge) × (edge.source ≡ source) × (edge.target ≡ target)

-- no edge stands twice
abbrev pub AreDistinct : List NamedEdge → Type 0
AreDistinct [] = ⊤
AreDistinct (edge ∷ edges) = IsApart edge.source edge.target edges × AreDistinct edges

-- all edges come before a source and a target
abbrev pub AreBefore : ℕ → ℕ → List NamedEdge → Type 0
AreBefore source target edges =
    AllByRecursion (λ edge. (edge.source < source) ⊎ ((edge.source ≡ source) × (edge.target < target))) edges
