-- The vertices of a superstep.
use Rattle.std.specs.Prelude.{◌≡◌, ℕ, ◌<◌, nat_lt, Bool, false, List, [], ◌∷◌, ◌++◌, map}
use Rattle.std.specs.List.{AllByRecursion}
use Rattle.std.specs.List.Sorted.{IsStrictlySortedBy}
use Rattle.std.specs.Ordering.{nat_cmp}
use Rattle.pg_model.specs.Job.{Program}
use Rattle.pg_model.specs.Superstep.{ids, made}
use Rattle.pg_model.specs.declared.configuration.VertexWithInbox.{VertexWithInbox}
use Rattle.pg_scratch.specs.Worklist.{ListsActive}
use Rattle.pg_scratch.specs.declared.vertex_table.VertexTable.{VertexTable}

-- the ids are the vertices' and rise, and the list of places is in order and has the active vertices
pub record IsInPlace {V M : Type 0} (r : VertexTable V M) : Type 0 where
  pub ids_are : r.ids ≡ ids r.with_inboxes.items
  pub ids_rise : IsStrictlySortedBy nat_cmp r.ids
  pub lists : ListsActive r.with_inboxes.items r.work.items
  pub in_order : IsStrictlySortedBy nat_cmp r.work.items

-- the first that waits has a lower id
abbrev pub first_is_below : {M : Type 0} → ℕ → List (ℕ × List M) → Bool
first_is_below id [] = false
first_is_below id (w ∷ ws) = nat_lt w.0 id

-- of those that wait, some with lower ids were taken from the front and made
pub record Takes {V M : Type 0} (program : Program V M) (id : ℕ) (waiting rest : List (ℕ × List M))
    (before after : List (VertexWithInbox V M)) : Type 0 where
  pub taken : List (ℕ × List M)
  pub split : waiting ≡ taken ++ rest
  pub below : AllByRecursion (λ w. w.0 < id) taken
  pub added : after ≡ before ++ map (made program) taken
