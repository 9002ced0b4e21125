use Rattle.std.proofs.Common.{◌≡◌, ℕ, List, ◌∷◌, ◌++◌, length}
use Rattle.std.specs.List.Sorted.{IsStrictlySortedBy}
use Rattle.std.specs.Ordering.{nat_cmp}
use Rattle.pg_map.specs.Entries.{HasRisingIds}
use Rattle.pg_part_compute.specs.Lists.{with_empty}
use Rattle.pg_part_compute.proofs.reading.put_below.Given as goal

abbrev pub invariant-loop-first : goal.invariant-loop-first
invariant-loop-first g l = record {
  rise : IsStrictlySortedBy nat_cmp l.remaining;
  put : (inbox : List g.row.M.Denot) (later : List (ℕ × List g.row.M.Denot)) → HasRisingIds ((l.id, inbox) ∷ later)
      → l.all ++ with_empty l.remaining ((l.id, inbox) ∷ later) ≡ l.fn.inboxes ++ with_empty l.ids ((l.id, inbox) ∷ later);
}

abbrev pub decreases-loop-first : goal.decreases-loop-first
decreases-loop-first g l = length l.remaining
