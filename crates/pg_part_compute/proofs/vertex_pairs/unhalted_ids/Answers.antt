use Rattle.std.proofs.Common.{◌≡◌, ℕ, Bool, true, false, not, cond, List, [], ◌∷◌, sym, subst}
use Rattle.std.proofs.lemmas.Result.{IfOk-weaker}
use Rattle.std.specs.List.{AllByRecursion, filter}
use Rattle.std.specs.List.Sorted.{IsStrictlySortedBy}
use Rattle.std.specs.Map.{keys_of}
use Rattle.std.specs.Ordering.{nat_cmp}
use Rattle.std.specs.declared.cmp.Ordering.TheVariants.{Less}
use Rattle.pg_map.specs.Entries.{HasRisingIds}
use Rattle.pg_model.specs.declared.record.Record.{Record}
use Rattle.pg_trace.specs.Handed.{unhalted_after}
use Rattle.pg_part_compute.proofs.vertex_pairs.unhalted_ids.Goals as goal

module _ {V M : Type 0} where
  unhalted_above : (k : ℕ) (rs : List (ℕ × Record V M)) → AllByRecursion (λ id. nat_cmp k id ≡ Less) (keys_of rs)
      → AllByRecursion (λ id. nat_cmp k id ≡ Less) (unhalted_after rs)
  unhalted_above k [] h = tt
  unhalted_above k (r ∷ rs) h = by (not r.1.halted) (unhalted_above k rs h.1)
    where
      by : (b : Bool) → AllByRecursion (λ id. nat_cmp k id ≡ Less) (unhalted_after rs)
          → AllByRecursion (λ id. nat_cmp k id ≡ Less) (keys_of (cond b (r ∷ filter (λ r. not r.1.halted) rs) (filter (λ r. not r.1.halted) rs)))
      by true later = (h.0, later)
      by false later = later

  unhalted_rise : (rs : List (ℕ × Record V M)) → HasRisingIds rs → IsStrictlySortedBy nat_cmp (unhalted_after rs)
  unfolding IsStrictlySortedBy
  unhalted_rise [] h = tt
  unhalted_rise (r ∷ rs) h = by (not r.1.halted) (unhalted_rise rs h.1)
    where
      by : (b : Bool) → IsStrictlySortedBy nat_cmp (unhalted_after rs)
          → IsStrictlySortedBy nat_cmp (keys_of (cond b (r ∷ filter (λ r. not r.1.halted) rs) (filter (λ r. not r.1.halted) rs)))
      by true later = (unhalted_above r.0 rs h.0, later)
      by false later = later

pub returns-in-Some-clause-rising : goal.returns-in-Some-clause-rising
returns-in-Some-clause-rising g c =
    IfOk-weaker c.unhalted_after.result _ _ (λ ids is. subst (IsStrictlySortedBy nat_cmp) (sym is) (unhalted_rise _ c.unhalted_after.ensures.rising))
    c.unhalted_after.ensures.ids
