-- What all parts have come to as the open superstep is closed.
use Rattle.std.proofs.Common.{◌≡◌, ℕ, ℤ, suc, ◌+◌, ◌<◌, true, List, [], ◌∷◌, ◌++◌, length, map, get_or}
use Rattle.std.proofs.Common.{Option, None, Some, refl, ap, ap₂, sym, ◌∙◌, subst, arith, flat_map}
use Rattle.std.specs.List.{range_with_len, slice_get}
use Rattle.std.specs.Option.{IsSome, option_to_list}
use Rattle.std.proofs.lemmas.Bool.{and_parts, true≢false}
use Rattle.std.proofs.lemmas.List.{length-map}
use Rattle.std.proofs.lemmas.List.Sums.{AllPass-from_list_all}
use Rattle.pg_core_machine.specs.Machine.{State, is_allowed, is_at, place_at}
use Rattle.pg_core.specs.Progress.{HoldsAt, IsRight, Progress, kept_for, part_at}
use Rattle.pg_core.specs.Together.{stats_here}
use Rattle.pg_core_machine.specs.declared.event.Closed.TheVariants.{Next}
use Rattle.pg_core_machine.specs.declared.event.Event.TheVariants.{Close}
use Rattle.pg_core_machine.proofs.LawsMachine.{at_superstep}
use Rattle.pg_core.proofs.Parts.{slice_get-made}
use Rattle.pg_global.specs.Registry.{Registered, aggregating_of}
use Rattle.pg_graph.specs.Rows.{Rows}
use Rattle.pg_model.specs.Job.{Aggregating, Job}
use Rattle.pg_model.specs.Superstep.{gathered_from}
use Rattle.pg_part.specs.Part.{HoldsShare, PartState}
use Rattle.pg_stats.specs.GlobalStats.{aggregators_of, gathered_by, stats_of_all}
use Rattle.pg_stats.specs.Stats.{stats_at}
use Rattle.pg_stats.specs.declared.global_stats.GlobalStats.{GlobalStats}
use Rattle.pg_stats.specs.declared.stats.PartitionStats.{PartitionStats}

-- ---- how many places are gathered

length-gathered_from : (place : ℕ) (aggregators : List Aggregating) (values : List ℤ) (cs : List (ℕ × ℤ))
    → length values ≡ length aggregators → length (gathered_from place aggregators values cs) ≡ length aggregators
unfolding gathered_from
length-gathered_from place [] values cs e = refl
length-gathered_from place (a ∷ rest) [] cs e = absurd (omega (arith, e))
length-gathered_from place (a ∷ rest) (value ∷ values) cs e = ap suc (length-gathered_from (place + 1) rest values cs (omega (arith, e)))

pub length-gathered : (registered : Registered) (visible : List ℤ) (all : List PartitionStats) (stats : GlobalStats)
    → stats ≡ stats_of_all (aggregators_of registered) visible all → length visible ≡ length registered
    → length stats.gathered ≡ length registered
unfolding stats_of_all
length-gathered registered visible all stats is same =
    let many : length (aggregators_of registered) ≡ length registered = length-map registered (λ e. aggregating_of e.1) in
    ap (λ (s : GlobalStats). length s.gathered) is ∙ (length-gathered_from 0 (aggregators_of registered) visible (gathered_by all) (same ∙ sym many) ∙ many)

-- ---- the parts, one after another

flat_map-singles : {X Y : Type 0} (f : Option X → List Y) (g : ℕ → Y) (a : ℕ) (xs : List (Option X))
    → ((p : ℕ) → p < length xs → f (get_or xs p None) ≡ g (a + p) ∷ []) → flat_map f xs ≡ map g (range_with_len a (length xs))
flat_map-singles f g a [] h = refl
flat_map-singles f g a (x ∷ xs) h =
    ap (λ l. l ++ flat_map f xs) (h 0 (omega arith) ∙ ap (λ (k : ℕ). g k ∷ []) (let e : a + 0 ≡ a = omega arith in e))
    ∙ ap (λ l. g a ∷ l) (flat_map-singles f g (a + 1) xs
    (λ p within. h (suc p) (omega (arith, within)) ∙ ap (λ (k : ℕ). g k ∷ []) (let e : a + suc p ≡ a + 1 + p = omega arith in e)))

-- where the open superstep may be closed, each partition is one past it
pub place_at_close : (state : State) (n : ℕ) → length state.places ≡ n → is_allowed state (Close Next) ≡ true → (p : ℕ) → p < n
    → place_at p state ≡ Some (state.current + 1)
place_at_close state n many allowed p within =
    at_superstep (state.current + 1) (place_at p state)
    (AllPass-from_list_all (is_at (state.current + 1)) state.places (and_parts _ _ allowed).1 p None (omega (arith, within, many)))

module _ {V M : Type 0} (job : Job V M) (kept : Option Rows) (rows : Rows) (n p r : ℕ) where
  stats_here_are : (part : PartState V M) → HoldsShare job kept rows n p r part → stats_here (Some part) ≡ stats_at job rows n p r ∷ []
  stats_here_are part holds =
      ap option_to_list (ap₂ slice_get holds.stats.stats_are holds.part_run.place_is ∙ slice_get-made (stats_at job rows n p) (r + 1) r (omega arith))

-- so all parts are here, with what they have come to
module _ {P C A V M : Type 0} (job : Job V M) (kept : Option Rows) (core : Progress P C A V M) (right : IsRight job kept core)
    (many : length core.state.places ≡ core.limits.partitions) (each : length core.parts ≡ core.limits.partitions)
    (stays : (p r : ℕ) → place_at p core.state ≡ Some r → core.state.current < r → IsSome (part_at p core))
    (allowed : is_allowed core.state (Close Next) ≡ true) where
  pub stats_are : flat_map stats_here core.parts ≡ map (λ p. stats_at job core.graph core.limits.partitions p (core.state.current + 1))
      (range_with_len 0 core.limits.partitions)
  stats_are =
      flat_map-singles stats_here (λ p. stats_at job core.graph core.limits.partitions p (core.state.current + 1)) 0 core.parts
      (λ p within. one p (omega (arith, within, each))
      ∙ ap (λ (k : ℕ). stats_at job core.graph core.limits.partitions k (core.state.current + 1) ∷ [])
      (let e : p ≡ 0 + p = omega arith in e))
      ∙ ap (λ (m : ℕ). map (λ p. stats_at job core.graph core.limits.partitions p (core.state.current + 1)) (range_with_len 0 m)) each
    where
      one : (p : ℕ) → p < core.limits.partitions → stats_here (part_at p core) ≡ stats_at job core.graph core.limits.partitions p (core.state.current + 1) ∷ []
      one p within =
          by (part_at p core) refl (stays p (core.state.current + 1) (place_at_close core.state core.limits.partitions many allowed p within) (omega arith))
        where
          by : (part : Option (PartState V M)) → part_at p core ≡ part → IsSome part
              → stats_here part ≡ stats_at job core.graph core.limits.partitions p (core.state.current + 1) ∷ []
          by None at some = absurd (true≢false (sym some))
          by (Some part) at some = stats_here_are job (kept_for kept core p) core.graph core.limits.partitions p (core.state.current + 1) part
              (subst (λ place. HoldsAt job core.graph (kept_for kept core p) core.limits.partitions p place part)
              (place_at_close core.state core.limits.partitions many allowed p within) (right.parts p part at))
