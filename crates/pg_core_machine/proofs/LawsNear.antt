-- No partition is past the superstep after the open one.
use Rattle.std.proofs.Common.{◌≡◌, ℕ, zero, suc, ◌+◌, ◌≤◌, Bool, true, false, cond, not, ◌||◌, ◌&&◌, List, [], ◌∷◌, map, get_or, set, Option, None}
use Rattle.std.proofs.Common.{Some, is_some, refl, ap, sym, ◌∙◌, subst, arith}
use Rattle.std.specs.Prelude.{◌==◌}
use Rattle.std.specs.List.{range_with_len}
use Rattle.std.specs.Option.{option_map}
use Rattle.std.proofs.lemmas.Bool.{and_parts, eqb-true}
use Rattle.std.proofs.lemmas.Option.{same_Some}
use Rattle.pg_core_machine.specs.Machine.{Reaches, State, after, after_all, are_allowed, first_state, host_of, is_alive, is_allowed, is_at, is_partition}
use Rattle.pg_core_machine.specs.Machine.{place_at, places_without, saved_at}
use Rattle.pg_core_machine.specs.declared.event.Closed.TheVariants.{Next, Ended}
use Rattle.pg_core_machine.specs.declared.event.Event.{Event}
use Rattle.pg_core_machine.specs.declared.event.Event.TheVariants.{Step, Lose, Host, Restore, Save, Close}
use Rattle.pg_core_machine.proofs.LawsMachine.{at_superstep}
use Rattle.pg_core_machine.proofs.LawsSteps.{StepsFrom-from_allowed}

-- all places of a list are at most this
abbrev AreAtMost : ℕ → List (Option ℕ) → Type 0
AreAtMost most xs = (p r : ℕ) → get_or xs p None ≡ Some r → r ≤ most

AreAtMost-set : (most : ℕ) (xs : List (Option ℕ)) (p : ℕ) (x : Option ℕ) → AreAtMost most xs → ((r : ℕ) → x ≡ Some r → r ≤ most) → AreAtMost most (set xs p x)
AreAtMost-set most [] p x old new q r at = old q r at
AreAtMost-set most (y ∷ ys) zero x old new zero r at = new r at
AreAtMost-set most (y ∷ ys) zero x old new (suc q) r at = old (suc q) r at
AreAtMost-set most (y ∷ ys) (suc p) x old new zero r at = old zero r at
AreAtMost-set most (y ∷ ys) (suc p) x old new (suc q) r at = AreAtMost-set most ys p x (λ q. old (suc q)) new q r at

AreAtMost-without : (most w : ℕ) (hosts : List ℕ) (places : List (Option ℕ)) → AreAtMost most places → AreAtMost most (places_without w hosts places)
AreAtMost-without most w [] places old q r at = old q r at
AreAtMost-without most w (host ∷ hosts) [] old q r at = old q r at
AreAtMost-without most w (host ∷ hosts) (place ∷ places) old zero r at = by (host == w) at
  where
    by : (b : Bool) → cond b None place ≡ Some r → r ≤ most
    by true at = absurd (let k : None ≡ Some r = at in cc)
    by false at = old 0 r at
AreAtMost-without most w (host ∷ hosts) (place ∷ places) old (suc q) r at = AreAtMost-without most w hosts places (λ q. old (suc q)) q r at

AreAtMost-made : (most : ℕ) (made : ℕ → Option ℕ) → ((p r : ℕ) → made p ≡ Some r → r ≤ most) → (a n : ℕ) → AreAtMost most (map made (range_with_len a n))
AreAtMost-made most made each a zero q r at = absurd (let k : None ≡ Some r = at in cc)
AreAtMost-made most made each a (suc n) zero r at = each a r at
AreAtMost-made most made each a (suc n) (suc q) r at = AreAtMost-made most made each (a + 1) n q r at

-- no partition is past the superstep after the open one, and none was saved past it
pub record AreNear (state : State) : Type 0 where
  pub places : AreAtMost (state.current + 1) state.places
  pub saved : AreAtMost (state.current + 1) state.saved

AreNear-after : (state : State) (event : Event) → is_allowed state event ≡ true → AreNear state → AreNear (after state event)
AreNear-after state (Step p) allowed near =
    let steps = StepsFrom-from_allowed state p allowed in
    record {
      places = AreAtMost-set (state.current + 1) state.places p (option_map (λ r. r + 1) (place_at p state)) near.places
          (λ r at. let is : steps.from + 1 ≡ r = same_Some (steps.from + 1) r (sym (ap (option_map (λ r. r + 1)) steps.at) ∙ at) in omega
          (arith, is, steps.open_or_before));
      saved = near.saved;
    }
AreNear-after state (Lose w) allowed near = record { places = AreAtMost-without (state.current + 1) w state.hosts state.places near.places; saved = near.saved }
AreNear-after state (Host p w) allowed near = record { places = near.places; saved = near.saved }
AreNear-after state (Restore p r) allowed near =
    let last : Bool = (r == 0) || is_at r (saved_at p state) in
    let alive : Bool = is_alive (host_of p state) state in
    let lost : Bool = not (is_some (place_at p state)) in
    let may : (is_partition p state && (lost && (alive && last))) ≡ true = (and_parts (not state.ended) _ allowed).1 in
    let least : r ≤ state.current + 1 =
    by (r == 0) refl (and_parts alive last (and_parts lost (alive && last) (and_parts (is_partition p state) (lost && (alive && last)) may).1).1).1 in
    record {
      places =
          AreAtMost-set (state.current + 1) state.places p (Some r) near.places (λ s at. subst (λ (k : ℕ). k ≤ state.current + 1) (same_Some r s at) least);
      saved = near.saved;
    }
  where
    by : (b : Bool) → (r == 0) ≡ b → (b || is_at r (saved_at p state)) ≡ true → r ≤ state.current + 1
    by true zero_is h = let is : r ≡ 0 = eqb-true r 0 zero_is in omega (arith, is)
    by false other h = near.saved p r (at_superstep r (saved_at p state) h)
AreNear-after state (Save p) allowed near = record {
  places = near.places;
  saved = AreAtMost-set (state.current + 1) state.saved p (place_at p state) near.saved (near.places p);
}
AreNear-after state (Close Next) allowed near = record {
  places = λ p r at. omega (arith, near.places p r at);
  saved = λ p r at. omega (arith, near.saved p r at);
}
AreNear-after state (Close Ended) allowed near = record { places = near.places; saved = near.saved }

AreNear-after_all : (state : State) (events : List Event) → are_allowed state events ≡ true → AreNear state → AreNear (after_all state events)
AreNear-after_all state [] allowed near = near
AreNear-after_all state (e ∷ es) allowed near =
    let a = and_parts _ _ allowed in
    AreNear-after_all (after state e) es a.1 (AreNear-after state e a.0 near)

AreNear-first : (partitions workers : ℕ) → AreNear (first_state partitions workers)
AreNear-first partitions workers = record {
  places = AreAtMost-made 1 (λ p. Some 0) (λ p r at. let is : 0 ≡ r = same_Some 0 r at in omega (arith, is)) 0 partitions;
  saved = AreAtMost-made 1 (λ p. None) (λ p r at. absurd (let k : None ≡ Some r = at in cc)) 0 partitions;
}

pub AreNear-from_Reaches : (partitions workers : ℕ) (events : List Event) (to : State) → Reaches (first_state partitions workers) events to → AreNear to
AreNear-from_Reaches partitions workers events to reaches =
    subst AreNear reaches.leads (AreNear-after_all (first_state partitions workers) events reaches.allowed (AreNear-first partitions workers))
