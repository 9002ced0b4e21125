-- Each step leaves all that was seen and told a beginning of what is published.
use Rattle.std.proofs.Common.{◌≡◌, ℕ, zero, suc, ◌<◌, ◌==◌, if◌then◌else◌, nat_lt, Bool, true, false, List, [], ◌∷◌, ◌++◌, length, fold, get_or}
use Rattle.std.proofs.Common.{refl, subst, ⊎_elim, arith}
use Rattle.std.specs.List.{Contains}
use Rattle.std.proofs.lemmas.Bool.Decides.{nat_tests}
use Rattle.std.proofs.lemmas.List.Elements.{Contains-append_cases}
use mathlib.Core.List.{IsPrefix}
use Rattle.pg_publish.specs.Steps.{PublicationState, Step, publishes, tells, enters, learns, first, longer, sees, after, May, MayAll, AllBegin, GoesOn}
use Rattle.pg_publish.proofs.Fronts.{prefix_self, prefix_trans, prefix_shorter, prefix_append}

module _ {E : Type 0} where
  -- of two beginnings of one list, the longer is a beginning of it too, and begins with the first
  longer_is : (xs ys whole : List E) → IsPrefix xs whole → IsPrefix ys whole → (b : Bool) → nat_lt (length xs) (length ys) ≡ b
      → IsPrefix xs (if b then ys else xs) × IsPrefix (if b then ys else xs) whole
  longer_is xs ys whole p q true is = let lt : length xs < length ys = grind (arith, nat_tests) in (prefix_shorter xs ys whole p q (omega arith), q)
  longer_is xs ys whole p q false is = (prefix_self xs, p)

  -- where a reader's list is replaced by one with this property, all lists have it
  sees_all : (P : ℕ → List E → Type 0) (reader : ℕ) (now : List E) (seen : ℕ → List E) → P reader now
      → ((other : ℕ) → P other (seen other)) → (other : ℕ) → P other (sees reader now seen other)
  sees_all P reader now seen here all other = by (other == reader) refl where
    by : (b : Bool) → (other == reader) ≡ b → P other (if b then now else seen other)
    by true is = let same : reader ≡ other = grind (arith, nat_tests) in subst (λ r. P r now) same here
    by false is = all other

  only : (x told : List E) (k : ℕ) → k < 1 → get_or (x ∷ []) k told ≡ told → x ≡ told
  only x told zero lt is = is
  only x told (suc k) lt is = absurd (omega arith)

  -- what a step does, whoever takes it
  pub step_keeps : (s : PublicationState E) (step : Step E) → AllBegin s → May s step → AllBegin (after s step) × GoesOn s (after s step)
  step_keeps s (publishes entry) all may =
      let grown : IsPrefix s.list (s.list ++ entry ∷ []) = prefix_append s.list (entry ∷ []) in (
        record { seen = λ reader. prefix_trans _ _ _ (all.seen reader) grown; told = λ told there. prefix_trans _ _ _ (all.told told there) grown },
        record { list = grown; seen = λ reader. prefix_self (s.seen reader) },
      )
  step_keeps s tells all may = (
    record {
      seen = all.seen;
      told = λ told there. ⊎_elim (all.told told) (λ new. told_is told new) (Contains-append_cases s.told (s.list ∷ []) told there);
    },
    record { list = prefix_self s.list; seen = λ reader. prefix_self (s.seen reader) },
  ) where
    told_is : (told : List E) → Contains (s.list ∷ []) told → IsPrefix told s.list
    told_is told new = subst (λ l. IsPrefix l s.list) (only s.list told new.0 new.1 new.2) (prefix_self s.list)
  step_keeps s (enters reader shown) all may = (
    record { seen = sees_all (λ r l. IsPrefix l s.list) reader shown s.seen may.1 all.seen; told = all.told },
    record { list = prefix_self s.list; seen = sees_all (λ r l. IsPrefix (s.seen r) l) reader shown s.seen may.0 (λ r. prefix_self (s.seen r)) },
  )
  step_keeps s (learns reader told) all may =
      let both = longer_is (s.seen reader) told s.list (all.seen reader) (all.told told may) (nat_lt (length (s.seen reader)) (length told)) refl in
      let now = longer (s.seen reader) told in (
        record { seen = sees_all (λ r l. IsPrefix l s.list) reader now s.seen both.1 all.seen; told = all.told },
        record { list = prefix_self s.list; seen = sees_all (λ r l. IsPrefix (s.seen r) l) reader now s.seen both.0 (λ r. prefix_self (s.seen r)) },
      )

  steps_keep : (s : PublicationState E) (steps : List (Step E)) → AllBegin s → MayAll s steps → AllBegin (fold after s steps) × GoesOn s (fold after s steps)
  steps_keep s [] all may = (all, record { list = prefix_self s.list; seen = λ reader. prefix_self (s.seen reader) })
  steps_keep s (step ∷ steps) all may =
      let one = step_keeps s step all may.0 in
      let rest = steps_keep (after s step) steps one.0 may.1 in (
        rest.0,
        record { list = prefix_trans _ _ _ one.1.list rest.1.list; seen = λ reader. prefix_trans _ _ _ (one.1.seen reader) (rest.1.seen reader) },
      )

  first_begins : AllBegin {E = E} first
  first_begins = record { seen = λ reader. prefix_self []; told = λ told there. absurd (omega (arith, there.1)) }

  pub readers_begin : (steps more : List (Step E)) → MayAll first steps → AllBegin (fold after first steps)
      × (MayAll (fold after first steps) more → GoesOn (fold after first steps) (fold after (fold after first steps) more))
  readers_begin steps more may =
      let now = (steps_keep first steps first_begins may).0 in
      (now, λ further. (steps_keep (fold after first steps) more now further).1)
