use Rattle.std.proofs.Common.{◌≡◌, ℕ, ◌+◌, ◌++◌, ◌∷◌, [], List, length, ap, sym, ◌∙◌, subst}
use Rattle.std.specs.List.{AllByRecursion}
use Rattle.std.specs.List.Sorted.{IsStrictlySortedBy}
use Rattle.std.specs.Map.{keys_of}
use Rattle.std.specs.Ordering.{nat_cmp}
use Rattle.std.proofs.lemmas.List.{length_push}
use Rattle.pg_map.specs.Entries.{HasRisingIds}
use Rattle.tests_core.proofs.recorded.Recorded.of.Goals as goal

all_more : {X : Type 0} (P : X → Type 0) (xs : List X) (x : X) → AllByRecursion P xs → P x → AllByRecursion P (xs ++ x ∷ [])
all_more P [] x all one = (one, tt)
all_more P (y ∷ ys) x all one = (all.0, all_more P ys x all.1 one)

pub loop-number-preserved : goal.loop-number-preserved
loop-number-preserved g c =
    let before = c.loop-number.supersteps.items in
    let one = c.in_ok-copied.field-0 in
    record {
      many = ap length c.in_ok-push.ensures.items ∙ (length_push before one ∙ ap (λ (k : ℕ). k + 1) c.loop-number.invariant.many);
      rise = subst (AllByRecursion (λ s. HasRisingIds s.items)) (sym c.in_ok-push.ensures.items)
          (all_more (λ s. HasRisingIds s.items) before one c.loop-number.invariant.rise
          (subst (IsStrictlySortedBy nat_cmp)
          (sym (c.in_ok-copied.ensures ∙ ap keys_of (c.as_slice.ensures.value ∙ c.in_ok-records.ensures.records)))
          c.in_ok-records.ensures.rising));
    }
