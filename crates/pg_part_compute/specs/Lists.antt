-- Lists by rising id that are made of others.
use Rattle.std.specs.Prelude.{ℕ, [], List, map, Some}
use Rattle.pg_map.specs.Entries.{with_changes}

module _ {M : Type 0} where
  -- empty inboxes for these ids
  abbrev pub empty_inboxes : List ℕ → List (ℕ × List M)
  empty_inboxes ids = map (λ id. (id, [])) ids

  -- inboxes by rising id, and empty ones for those of these ids, which rise, that have none
  abbrev pub with_empty : List ℕ → List (ℕ × List M) → List (ℕ × List M)
  with_empty ids inboxes = with_changes (map (λ w. (w.0, Some w.1)) inboxes) (empty_inboxes ids)
