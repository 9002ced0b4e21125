use Rattle.std.proofs.Common.{◌≡◌, ℕ, [], ◌∷◌, length, refl, sym, ap, ◌∙◌}
use Rattle.std.specs.Ordering.{nat_cmp}
use Rattle.std.specs.List.Sorted.{IsStrictlySortedBy}
use Rattle.tests_publish.proofs.publish.answers.Goals as goal

rising_ids : (a b c : ℕ) → a ≡ 1 → b ≡ 2 → c ≡ 5 → IsStrictlySortedBy nat_cmp (a ∷ b ∷ c ∷ [])
unfolding IsStrictlySortedBy
rising_ids a b c one two five = rw (one, two, five) ((refl, (refl, tt)), ((refl, tt), (tt, tt)))

pub new-requires-5 : goal.new-requires-5
new-requires-5 c =
    let ids = c.in-Some-Some-Some in
    record {
      named = ap length (c.from_vec-2.ensures ∙ c.in_ok-vec.ensures.items) ∙ sym c.requires;
      rising = rw (c.from_vec.ensures, c.in_ok-values.ensures.items)
          (rising_ids ids.one ids.two ids.five ids.ensures.value ids.ensures'.value ids.ensures''.value);
    }
