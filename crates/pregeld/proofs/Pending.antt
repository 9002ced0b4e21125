-- Pending edits, of which no more are stored than tell that they are too many.
use Rattle.std.proofs.Common.{◌≡◌, ℕ, zero, suc, ◌<◌, ◌≤◌, true, nat_lt, List, [], ◌∷◌, ◌++◌, length, take, refl, ap, sym, inl, inr, arith}
use Rattle.std.specs.Prelude.{◌⊎◌}
use Rattle.std.proofs.lemmas.Bool.Decides.{nat_tests}
use Rattle.std.proofs.lemmas.Grind.{common_steps}
use Rattle.std.proofs.lemmas.List.{length-take-le, take_all, take_at}
use Rattle.pg_graph.specs.Edit.{batch_edited, batch_limit}
use Rattle.pg_graph.specs.Rows.{Rows}
use Rattle.pg_graph.specs.Handed.{Edit}
use Rattle.pregeld.specs.SessionState.{stored, stored_limit}
use Rattle.pg_service.specs.Service.{IsTried, next_graph}

-- ---- what is stored of edits

take_later : (n : ℕ) (edits : List Edit) (edit : Edit) → take n (take n edits ++ edit ∷ []) ≡ take n (edits ++ edit ∷ [])
take_later zero edits edit = refl
take_later (suc n) [] edit = refl
take_later (suc n) (e ∷ edits) edit = ap (λ es. e ∷ es) (take_later n edits edit)

take_more : (n : ℕ) (edits : List Edit) (edit : Edit) → length edits < n → edits ++ edit ∷ [] ≡ take n (edits ++ edit ∷ [])
take_more n edits edit room = grind (arith, common_steps)

take_full : (n : ℕ) (edits : List Edit) (edit : Edit) → length edits ≤ n → n ≤ length edits → edits ≡ take n (edits ++ edit ∷ [])
take_full n edits edit within full = sym (take_at edits (edit ∷ []) n (omega (arith, within, full)))

take_some : (n : ℕ) (edits : List Edit) → 0 < n → take n edits ≡ [] → edits ≡ []
take_some n [] some none = refl
take_some zero (edit ∷ edits) some none = absurd (omega (arith, some))
take_some (suc n) (edit ∷ edits) some none = absurd cc

-- one more is stored with what was stored as with all
pub stored_later : (edits : List Edit) (edit : Edit) → stored (stored edits ++ edit ∷ []) ≡ stored (edits ++ edit ∷ [])
unfolding stored
stored_later edits edit = take_later stored_limit edits edit

-- where there is room, one more is stored
pub stored_more : (edits : List Edit) (edit : Edit) → length edits < stored_limit → edits ++ edit ∷ [] ≡ stored (edits ++ edit ∷ [])
unfolding stored
stored_more edits edit room = take_more stored_limit edits edit room

-- where there is none, it isn't
pub stored_full : (edits : List Edit) (edit : Edit) → length edits ≤ stored_limit → stored_limit ≤ length edits → edits ≡ stored (edits ++ edit ∷ [])
unfolding stored
stored_full edits edit within full = take_full stored_limit edits edit within full

pub stored_none : stored [] ≡ []
unfolding stored
stored_none = take_all stored_limit [] (omega arith)

-- where nothing is stored, nothing is pending
pub none_pending : (edits : List Edit) → stored edits ≡ [] → edits ≡ []
unfolding stored
none_pending edits none = take_some stored_limit edits (omega arith) none

-- what is stored is all, or too long for a batch
stored_whole : (edits : List Edit) → length edits ≤ stored_limit → stored edits ≡ edits
unfolding stored
stored_whole edits within = take_all stored_limit edits within

stored_size : (edits : List Edit) → stored_limit < length edits → length (stored edits) ≡ stored_limit
unfolding stored
stored_size edits more = length-take-le stored_limit edits (omega (arith, more))

fits_or_not : (n m : ℕ) → (m ≤ n) ⊎ (n < m)
fits_or_not zero zero = inl (omega arith)
fits_or_not zero (suc m) = inr (omega arith)
fits_or_not (suc n) zero = inl (omega arith)
fits_or_not (suc n) (suc m) = later (fits_or_not n m)
  where
    later : (m ≤ n) ⊎ (n < m) → (suc m ≤ suc n) ⊎ (suc n < suc m)
    later (inl within) = inl (omega (arith, within))
    later (inr more) = inr (omega (arith, more))

-- ---- what batches make of them

too_long : (edition : ℕ) (graph : Rows) (xs ys : List Edit) → batch_limit < length xs → batch_limit < length ys → next_graph edition graph xs
    ≡ next_graph edition graph ys
unfolding next_graph batch_edited
too_long edition graph xs ys x y =
    let lx : nat_lt batch_limit (length xs) ≡ true = grind (arith, nat_tests) in
    let ly : nat_lt batch_limit (length ys) ≡ true = grind (arith, nat_tests) in
    rw (lx, ly) refl

-- what is stored of edits makes the edition that they make
pub next_of_stored : (edition : ℕ) (graph : Rows) (edits : List Edit) → next_graph edition graph (stored edits) ≡ next_graph edition graph edits
next_of_stored edition graph edits = by_size (fits_or_not stored_limit (length edits))
  where
    by_size : (length edits ≤ stored_limit) ⊎ (stored_limit < length edits) → next_graph edition graph (stored edits) ≡ next_graph edition graph edits
    by_size (inl within) = ap (next_graph edition graph) (stored_whole edits within)
    by_size (inr more) =
        let size = stored_size edits more in
        too_long edition graph (stored edits) edits (omega (arith, size)) (omega (arith, more))

-- it is tried where they are
pub tried_of_stored : (edition : ℕ) (edits : List Edit) → IsTried edition (stored edits) → IsTried edition edits
tried_of_stored edition edits tried = by_size (fits_or_not stored_limit (length edits))
  where
    by_size : (length edits ≤ stored_limit) ⊎ (stored_limit < length edits) → IsTried edition edits
    by_size (inl within) = (tried.0, omega (arith, ap length (stored_whole edits within), tried.1))
    by_size (inr more) = absurd (omega (arith, stored_size edits more, tried.1))
