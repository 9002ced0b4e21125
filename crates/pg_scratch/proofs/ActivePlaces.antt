-- The places of the active vertices, found one after another.
use Rattle.std.proofs.Common.{◌≡◌, ℕ, ◌+◌, ◌<◌, ◌≤◌, ◌||◌, true, false, List, [], ◌∷◌, ◌++◌, length, Some, sym, ap, ◌∙◌, subst, ⊎_elim}
use Rattle.std.proofs.Common.{arith, rules, tests}
use Rattle.std.specs.Prelude.{◌==◌}
use Rattle.std.specs.List.{AllByRecursion, slice_get}
use Rattle.std.specs.List.Sorted.{IsStrictlySortedBy}
use Rattle.std.specs.Ordering.{nat_cmp}
use Rattle.std.specs.declared.cmp.Ordering.TheVariants.{Less}
use Rattle.std.proofs.lemmas.Bool.{cases_Bool, cases_lt, or_left}
use Rattle.std.proofs.lemmas.Bool.Decides.{nat_tests}
use Rattle.std.proofs.lemmas.Option.{slice_get_within}
use Rattle.std.proofs.Math.Bool.{or-true}
use Rattle.pg_model.proofs.LawsLists.{sorted-append}
use Rattle.pg_model.specs.Superstep.{is_active, has_id}
use Rattle.pg_model.specs.declared.configuration.VertexWithInbox.{VertexWithInbox}
use Rattle.pg_scratch.specs.Worklist.{ListsActive}
use Rattle.pg_scratch.proofs.LawsPlaces.{has_id-push}

-- of the vertices below a place, the active ones were found
pub record FoundBelow {V M : Type 0} (xs : List (VertexWithInbox V M)) (low : ℕ) (places : List ℕ) : Type 0 where
  pub bound : low ≤ length xs
  pub rise : IsStrictlySortedBy nat_cmp places
  pub below : AllByRecursion (λ place. place < low) places
  pub covers : (place : ℕ) (x : VertexWithInbox V M) → slice_get xs place ≡ Some x → place < low → is_active x ≡ true → has_id places place ≡ true

weaker : (low : ℕ) (places : List ℕ) → AllByRecursion (λ place. place < low) places → AllByRecursion (λ place. place < low + 1) places
weaker low [] h = tt
weaker low (p ∷ places) h = (omega (arith, h.0), weaker low places h.1)

all_push : (low : ℕ) (places : List ℕ) → AllByRecursion (λ place. place < low) places → AllByRecursion (λ place. place < low + 1) (places ++ low ∷ [])
all_push low [] h = (omega arith, tt)
all_push low (p ∷ places) h = (omega (arith, h.0), all_push low places h.1)

less_at : (a b : ℕ) → a < b → nat_cmp a b ≡ Less
less_at a b h = grind (arith, nat_tests)

all_less : (low : ℕ) (places : List ℕ) → AllByRecursion (λ place. place < low) places
    → AllByRecursion (λ place. AllByRecursion (λ other. nat_cmp place other ≡ Less) (low ∷ [])) places
all_less low [] h = tt
all_less low (p ∷ places) h = ((less_at p low h.0, tt), all_less low places h.1)

within_of : (low : ℕ) (places : List ℕ) → AllByRecursion (λ place. place < low) places → (place : ℕ) → has_id places place ≡ true → place < low
within_of low [] h place has = let k : false ≡ true = has in cc
within_of low (p ∷ places) h place has =
    ⊎_elim
    (λ (t : (p == place) ≡ true). let same : p ≡ place = search (tests, rules) in omega (arith, h.0))
    (λ (t : (p == place) ≡ false). within_of low places h.1 place (sym (ap (λ b. b || has_id places place) t) ∙ has))
    (cases_Bool (p == place))

module _ {V M : Type 0} (xs : List (VertexWithInbox V M)) where
  pub found_none : (places : List ℕ) → places ≡ [] → FoundBelow xs 0 places
  unfolding IsStrictlySortedBy
  found_none places none = subst (λ l. FoundBelow xs 0 l) (sym none) (record {
    bound = omega arith;
    rise = tt;
    below = tt;
    covers = λ place x at less active. absurd (omega arith);
  })

  module _ (low : ℕ) (places : List ℕ) (found : FoundBelow xs low places) where
    -- the next place is noted
    pub found_more : (after : List ℕ) → low < length xs → after ≡ places ++ low ∷ [] → FoundBelow xs (low + 1) after
    unfolding IsStrictlySortedBy
    found_more after inside pushed =
        subst (λ l. FoundBelow xs (low + 1) l) (sym pushed) (record {
          bound = omega arith;
          rise = sorted-append nat_cmp places (low ∷ []) found.rise (tt, tt) (all_less low places found.below);
          below = all_push low places found.below;
          covers = λ place x at less active.
              has_id-push places low place
              ∙ ⊎_elim
              (λ (l : place < low). or_left (has_id places place) (low == place) (found.covers place x at l active))
              (λ (l : low ≤ place). let same : (low == place) ≡ true = (let e : low ≡ place = omega arith in search
              (tests, rules)) in ap (λ b. has_id places place || b) same ∙ or-true (has_id places place))
              (cases_lt place low);
        })

    -- the vertex there isn't active
    pub found_same : low < length xs → ((x : VertexWithInbox V M) → slice_get xs low ≡ Some x → false ≡ is_active x) → FoundBelow xs (low + 1) places
    found_same inside still = record {
      bound = omega arith;
      rise = found.rise;
      below = weaker low places found.below;
      covers = λ place x at less active.
          ⊎_elim
          (λ (l : place < low). found.covers place x at l active)
          (λ (l : low ≤ place). let e : low ≡ place = omega arith in let k : false ≡ true = still x (ap (slice_get xs) e ∙ at) ∙ active in cc)
          (cases_lt place low);
    }

    -- all vertices were looked at
    pub found_all : length xs ≤ low → ListsActive xs places
    found_all past = record {
      within = λ place has. omega (arith, within_of low places found.below place has, found.bound);
      covers = λ place x at active. found.covers place x at (omega (arith, slice_get_within xs place x at)) active;
    }
