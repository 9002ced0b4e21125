-- Some entries of a map, in their order: where an id lies between two of them, what is at it is among them.
use Rattle.std.proofs.Common.{◌≡◌, ℕ, zero, suc, ◌+◌, ◌<◌, ◌≤◌, List, [], ◌∷◌, ◌++◌, length, get_or, inl, inr, ◌⊎◌}
use Rattle.std.proofs.Common.{sym, ap, ◌∙◌, subst, arith}
use Rattle.std.specs.List.{AllByRecursion, flat_map}
use Rattle.std.proofs.lemmas.Bool.{cases_lt}
use Rattle.pg_map.specs.Entries.{HasRisingIds, IsSlice, Spans, value_at}
use Rattle.pg_map.specs.declared.part.Node.{Node}
use Rattle.pg_map.proofs.Cut.{all_front, all_later}
use Rattle.pg_map.proofs.Parts.{Below, From, above_first, find-left, find-right, from_weaker, none_below, none_from, none_rise, rises_after, rises_right}

module _ {X : Type 0} where
  abbrev Above : ℕ → List (ℕ × X) → Type 0
  Above q es = AllByRecursion (λ e. q < e.0) es

  above_from : (q : ℕ) (es : List (ℕ × X)) → From (q + 1) es → Above q es
  above_from q [] from = tt
  above_from q (e ∷ es) from = (omega (arith, from.0), above_from q es from.1)

  from_above : (q : ℕ) (es : List (ℕ × X)) → Above q es → From (q + 1) es
  from_above q [] above = tt
  from_above q (e ∷ es) above = (omega (arith, above.0), from_above q es above.1)

  -- of rising entries in two parts the front is below an id, or the rest above it
  parted : (q : ℕ) (a b : List (ℕ × X)) → HasRisingIds (a ++ b) → Below q a ⊎ Above q b
  parted q [] b rising = inl tt
  parted q (x ∷ a) b rising = by (cases_lt x.0 q) (parted q a b (rises_after x (a ++ b) rising))
    where
      by : (x.0 < q) ⊎ (q ≤ x.0) → Below q a ⊎ Above q b → Below q (x ∷ a) ⊎ Above q b
      by (inl low) (inl below) = inl (low, below)
      by (inl low) (inr above) = inr above
      by (inr high) later =
          inr
          (above_from q b
          (from_weaker (q + 1) (x.0 + 1) b (omega arith)
          (all_later (λ e. x.0 + 1 ≤ e.0) a b (above_first x (a ++ b) rising))))

  -- no entries have none between them
  pub none_slice : (es all : List (ℕ × X)) → es ≡ [] → IsSlice es all
  none_slice es all none = (none_rise es none, λ q spans. absurd (spans.0 (subst (Above q) (sym none) tt)))

  spans_left : (q : ℕ) (a b : List (ℕ × X)) → Spans q a → Spans q (a ++ b)
  spans_left q a b spans = (λ all. spans.0 (all_front (λ e. q < e.0) a b all), λ all. spans.1 (all_front (λ e. e.0 < q) a b all))

  spans_right : (q : ℕ) (a b : List (ℕ × X)) → Spans q b → Spans q (a ++ b)
  spans_right q a b spans = (λ all. spans.0 (all_later (λ e. q < e.0) a b all), λ all. spans.1 (all_later (λ e. e.0 < q) a b all))

  value_left : (q : ℕ) (a b : List (ℕ × X)) → HasRisingIds (a ++ b) → Spans q a → value_at q (a ++ b) ≡ value_at q a
  value_left q a b rising spans = by (parted q a b rising)
    where
      by : Below q a ⊎ Above q b → value_at q (a ++ b) ≡ value_at q a
      by (inl below) = absurd (spans.1 below)
      by (inr above) = find-left q a b (none_from q (q + 1) b (omega arith) (from_above q b above))

  value_right : (q : ℕ) (a b : List (ℕ × X)) → HasRisingIds (a ++ b) → Spans q b → value_at q (a ++ b) ≡ value_at q b
  value_right q a b rising spans = by (parted q a b rising)
    where
      by : Below q a ⊎ Above q b → value_at q (a ++ b) ≡ value_at q b
      by (inl below) = find-right q a b (none_below q q a (omega arith) below)
      by (inr above) = absurd (spans.0 above)

  -- a slice of a slice
  pub slice_of : (es some all : List (ℕ × X)) → IsSlice es some → IsSlice some all → IsSlice es all
  slice_of es some all inner outer = (inner.0, λ q spans. by q (inner.1 q spans))
    where
      by : (q : ℕ) → Spans q some × (value_at q some ≡ value_at q es) → Spans q all × (value_at q all ≡ value_at q es)
      by q (within, same) = ((outer.1 q within).0, (outer.1 q within).1 ∙ same)

module _ {X T : Type 0} (listed : Node T → List (ℕ × X)) where
  spans_all : (cs : List (Node T)) (m : ℕ) (d : Node T) → m < length cs → (q : ℕ) → Spans q (listed (get_or cs m d)) → Spans q (flat_map listed cs)
  spans_all [] m d within q spans = absurd (omega arith)
  spans_all (c ∷ cs) zero d within q spans = spans_left q (listed c) (flat_map listed cs) spans
  spans_all (c ∷ cs) (suc m) d within q spans = spans_right q (listed c) (flat_map listed cs) (spans_all cs m d (omega arith) q spans)

  value_of : (cs : List (Node T)) (m : ℕ) (d : Node T) → m < length cs → HasRisingIds (flat_map listed cs) → (q : ℕ)
      → Spans q (listed (get_or cs m d)) → value_at q (flat_map listed cs) ≡ value_at q (listed (get_or cs m d))
  value_of [] m d within rising q spans = absurd (omega arith)
  value_of (c ∷ cs) zero d within rising q spans = value_left q (listed c) (flat_map listed cs) rising spans
  value_of (c ∷ cs) (suc m) d within rising q spans =
      value_right q (listed c) (flat_map listed cs) rising (spans_all cs m d (omega arith) q spans)
      ∙ value_of cs m d (omega arith) (rises_right (listed c) (flat_map listed cs) rising) q spans

  -- the entries of a node are a slice of all
  pub part_slice : (cs : List (Node T)) (m : ℕ) (c : Node T) → c ≡ get_or cs m c → m < length cs → HasRisingIds (flat_map listed cs)
      → HasRisingIds (listed c) → IsSlice (listed c) (flat_map listed cs)
  part_slice cs m c here within rising part = (
    part,
    λ q spans. (
      spans_all cs m c within q (subst (λ d. Spans q (listed d)) here spans),
      value_of cs m c within rising q (subst (λ d. Spans q (listed d)) here spans) ∙ ap (λ d. value_at q (listed d)) (sym here),
    ),
  )
