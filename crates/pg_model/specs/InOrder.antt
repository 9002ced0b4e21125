-- The order in which a configuration stands.
use Rattle.std.specs.Prelude.{◌≡◌, ℕ, false, List, map}
use Rattle.std.specs.List.{AllByRecursion}
use Rattle.std.specs.List.Sorted.{IsStrictlySortedBy}
use Rattle.std.specs.Ordering.{nat_cmp}
use Rattle.pg_model.specs.Superstep.{ids, is_empty, has_id}
use Rattle.pg_model.specs.declared.configuration.Configuration.{Configuration}

-- inboxes wait by rising id for others than these ids, and none of them is empty
pub record AreWaiting {M : Type 0} (is : List ℕ) (waiting : List (ℕ × List M)) : Type 0 where
  pub rise : IsStrictlySortedBy nat_cmp (map (λ w. w.0) waiting)
  pub apart : AllByRecursion (λ w. has_id is w.0 ≡ false) waiting
  pub some : AllByRecursion (λ w. is_empty w.1 ≡ false) waiting

-- the vertices that have a state stand by rising id, and so does what waits for others
pub record IsInOrder {V M : Type 0} (c : Configuration V M) : Type 0 where
  pub with_inboxes : IsStrictlySortedBy nat_cmp (ids c.with_inboxes)
  pub waiting : AreWaiting (ids c.with_inboxes) c.waiting
