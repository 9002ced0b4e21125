-- What the notes of a superstep make of an index.
use Rattle.std.proofs.Common.{◌≡◌, ℕ, ◌+◌, ◌<◌, ◌≤◌, Bool, false, List, [], ◌∷◌, ◌++◌, length, map}
use Rattle.std.proofs.Common.{get_or, set, take, Option, None, Some, is_some, unwrap_or, option_map, refl, sym, ap, ◌∙◌, subst, arith}
use Rattle.std.specs.BTreeMap.{is_at}
use Rattle.std.specs.List.Sorted.{IsStrictlySortedBy}
use Rattle.std.proofs.Math.ListN.{get_or-eq_default}
use Rattle.std.specs.Map.{keys_of}
use Rattle.std.specs.Ordering.{nat_cmp}
use Rattle.std.proofs.lemmas.List.{get_or_default}
use Rattle.std.proofs.lemmas.Map.Made.{lookup-map_values}
use Rattle.pg_map.specs.Entries.{ChangesRise, HasRisingIds, value_at, with_changes}
use Rattle.pg_map.proofs.Changing.{value_at-with_changes}
use Rattle.pg_trace_index.specs.Occurrences.{IsIndex, IsNoted, ran_from, steps_in, steps_noted}
use Rattle.pg_trace_index.proofs.Supersteps.{Agrees, ran-less, ran-push, ran-set}

-- both say the same of each id: that it has something, that it has nothing, or nothing at all
abbrev pub TellsAlike : {X Y : Type 0} → List (ℕ × Option Y) → List (ℕ × Option X) → Type 0
TellsAlike given changes = (id : ℕ) → option_map is_some (value_at id given) ≡ option_map is_some (value_at id changes)

module _ {X Y : Type 0} where
  pub stated_alike : (given : List (ℕ × Option Y)) (changes : List (ℕ × Option X))
      → map {B = ℕ × Bool} (λ e. (e.0, is_some e.1)) given ≡ map {B = ℕ × Bool} (λ e. (e.0, is_some e.1)) changes → TellsAlike given changes
  stated_alike given changes stated id =
      sym (lookup-map_values is_some (is_at (nat_cmp id)) given) ∙ ap (value_at id) stated ∙ lookup-map_values is_some (is_at (nat_cmp id)) changes

  -- what is told of an id agrees with what becomes of its record
  stated : (o : Option (Option Y)) (c : Option (Option X)) (old new : Bool) → option_map is_some o ≡ option_map is_some c → Agrees c old new → Agrees o old new
  stated None None old new alike agree = agree
  stated None (Some c) old new alike agree = cc
  stated (Some g) None old new alike agree = cc
  stated (Some g) (Some c) old new alike agree = agree ∙ sym (ap (λ o. unwrap_or o false) alike)

  -- an index of some supersteps, once a superstep is noted, is one of the supersteps that are then
  indexed : (id : ℕ) (rs rs' : List (List (ℕ × X))) (s : ℕ) (o : Option (Option Y)) (before after : List ℕ)
      → before ≡ ran_from id 0 rs → after ≡ steps_noted s o before → ran_from id 0 rs' ≡ steps_noted (0 + s) o (ran_from id 0 rs)
      → after ≡ ran_from id 0 rs'
  indexed id rs rs' s o before after was is ran =
      let first : 0 + s ≡ s = omega arith in
      is ∙ ap (steps_noted s o) was ∙ sym (ran ∙ ap (λ n. steps_noted n o (ran_from id 0 rs)) first)

module _ {X : Type 0} where
  changed : (c : Option (Option X)) (o : Option X) → Agrees c (is_some o) (is_some (unwrap_or c o))
  changed None o = refl
  changed (Some c) o = refl

module _ {X Y : Type 0} where
  -- a superstep more: what is pushed is what is given, and an id of which nothing is told has nothing there
  pub index-next : (rs : List (List (ℕ × X))) (xs : List (ℕ × X)) (given : List (ℕ × Option Y)) (changes : List (ℕ × Option X))
      (ran ran' : List (ℕ × List ℕ)) → TellsAlike given changes → ((id : ℕ) → value_at id xs ≡ unwrap_or (value_at id changes) None)
      → IsIndex rs ran → IsNoted (length rs) given ran ran' → IsIndex (rs ++ xs ∷ []) ran'
  index-next rs xs given changes ran ran' alike are index overlay id =
      let agree : Agrees (value_at id changes) false (is_some (value_at id xs)) =
      subst (λ v. Agrees (value_at id changes) false (is_some v)) (sym (are id)) (changed (value_at id changes) None) in
      indexed id rs (rs ++ xs ∷ []) (length rs) (value_at id given) (steps_in (value_at id ran)) (steps_in (value_at id ran')) (index id) (overlay id)
      (ran-push id 0 rs xs (value_at id given) (stated (value_at id given) (value_at id changes) false (is_some (value_at id xs)) (alike id) agree))

  -- a superstep more, each of whose records is given
  pub index-push : (rs : List (List (ℕ × X))) (xs : List (ℕ × X)) (given : List (ℕ × Option Y)) (changes : List (ℕ × Option X))
      (ran ran' : List (ℕ × List ℕ)) → changes ≡ map (λ e. (e.0, Some e.1)) xs → TellsAlike given changes
      → IsIndex rs ran → IsNoted (length rs) given ran ran' → IsIndex (rs ++ xs ∷ []) ran'
  index-push rs xs given changes ran ran' are alike =
      index-next rs xs given changes ran ran' alike
      (λ id. all (value_at id xs) ∙ sym (ap (λ o. unwrap_or o None) (ap (value_at id) are ∙ lookup-map_values (λ x. Some x) (is_at (nat_cmp id)) xs)))
    where
      all : (o : Option X) → o ≡ unwrap_or (option_map (λ x. Some x) o) None
      all None = refl
      all (Some x) = refl

  -- the last superstep less, whose ids are given nothing
  pub index-less : (rs : List (List (ℕ × X))) (n : ℕ) (r : List (ℕ × X)) (given : List (ℕ × Option Y)) (ran ran' : List (ℕ × List ℕ)) → n < length rs
      → r ≡ get_or rs n r → IsIndex (take (n + 1) rs) ran → given ≡ map (λ e. (e.0, None)) r → IsNoted n given ran ran' → IsIndex (take n rs) ran'
  index-less rs n r given ran ran' within here index are overlay id =
      let at = here ∙ get_or_default rs n r [] within in
      let o : value_at id given ≡ option_map (λ x. None) (value_at id (get_or rs n [])) = ap (value_at id) are
      ∙ lookup-map_values (λ x. None) (is_at (nat_cmp id)) r ∙ ap (λ q. option_map (λ x. None) (value_at id q)) at in
      indexed id (take (n + 1) rs) (take n rs) n (value_at id given) (steps_in (value_at id ran)) (steps_in (value_at id ran')) (index id) (overlay id)
      (ran-less id 0 n rs (value_at id given) within
      (subst (λ c. Agrees c (is_some (value_at id (get_or rs n []))) false) (sym o) (gone (value_at id (get_or rs n [])))))
    where
      gone : (o : Option X) → Agrees (option_map {U = Option Y} (λ x. None) o) (is_some o) false
      gone None = refl
      gone (Some x) = refl

  -- a superstep whose records are changed
  pub index-set : (rs : List (List (ℕ × X))) (n : ℕ) (r xs : List (ℕ × X)) (given : List (ℕ × Option Y)) (changes : List (ℕ × Option X))
      (ran ran' : List (ℕ × List ℕ)) → n < length rs → r ≡ get_or rs n r → HasRisingIds r → ChangesRise changes → TellsAlike given changes
      → xs ≡ with_changes changes r → IsIndex rs ran → IsNoted n given ran ran' → IsIndex (set rs n xs) ran'
  index-set rs n r xs given changes ran ran' within here rising rise alike made index overlay id =
      let at = here ∙ get_or_default rs n r [] within in
      let new : value_at id xs ≡ unwrap_or (value_at id changes) (value_at id (get_or rs n [])) = ap (value_at id) made
      ∙ value_at-with_changes changes r id rise rising ∙ ap (λ q. unwrap_or (value_at id changes) (value_at id q)) at in
      let old = value_at id (get_or rs n []) in
      let agree : Agrees (value_at id changes) (is_some old) (is_some (value_at id xs)) =
      subst (λ v. Agrees (value_at id changes) (is_some old) (is_some v)) (sym new) (changed (value_at id changes) old) in
      indexed id rs (set rs n xs) n (value_at id given) (steps_in (value_at id ran)) (steps_in (value_at id ran')) (index id) (overlay id)
      (ran-set id 0 n rs xs (value_at id given) within
      (stated (value_at id given) (value_at id changes) (is_some old) (is_some (value_at id xs)) (alike id) agree))

-- past the last superstep no id has a record
pub rises_past : {X : Type 0} (rs : List (List (ℕ × X))) (n : ℕ) → length rs ≤ n → HasRisingIds (get_or rs n [])
unfolding IsStrictlySortedBy
rises_past rs n past = subst (λ r. IsStrictlySortedBy nat_cmp (keys_of r)) (sym (get_or-eq_default rs [] past)) tt
