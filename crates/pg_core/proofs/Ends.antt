-- What closing a superstep leaves of a run over partitions.
use Rattle.std.proofs.Common.{◌≡◌, ℕ, ℤ, FitsSigned, w64, ◌+◌, ◌<◌, Bool, true, false, cond, List, [], ◌∷◌}
use Rattle.std.proofs.Common.{◌++◌, length, map, All, Option, None, Some, refl, ap, sym, ◌∙◌, subst, arith}
use Rattle.std.specs.Prelude.{◌==◌}
use Rattle.std.specs.List.{range_with_len}
use Rattle.std.proofs.lemmas.Bool.{and_parts, not-true, true≢false}
use Rattle.std.proofs.lemmas.List.{length_push}
use Rattle.std.proofs.lemmas.List.Elements.{All-push}
use Rattle.std.proofs.lemmas.List.FromFn.{map-range_with_len_more}
use Rattle.pg_core.specs.Closing.{with_end, with_next}
use Rattle.pg_core_machine.specs.Limits.{Limits}
use Rattle.pg_core_machine.specs.Machine.{Reaches, State, after, first_state, is_allowed}
use Rattle.pg_core.specs.Progress.{IsLawful, IsRight, Progress, kept_for, run_totals_at}
use Rattle.pg_core_machine.specs.declared.event.Closed.TheVariants.{Next, Ended}
use Rattle.pg_core_machine.specs.declared.event.Event.{Event}
use Rattle.pg_core_machine.specs.declared.event.Event.TheVariants.{Close}
use Rattle.pg_core.specs.declared.run_totals.RunTotals.{RunTotals}
use Rattle.pg_core.proofs.Keeping.{IsRightWith-same, kept_more}
use Rattle.pg_core_machine.proofs.LawsMachine.{Reaches-push}
use Rattle.pg_global.specs.Registry.{Registered}
use Rattle.pg_graph.specs.Rows.{Rows}
use Rattle.pg_model.specs.Job.{Job}
use Rattle.pg_model.specs.Run.{configuration, ending_after, run_length, visible_at}
use Rattle.pg_model.specs.Superstep.{capped, visible_in}
use Rattle.pg_model.specs.declared.run.Ending.{Ending}
use Rattle.pg_model.specs.declared.run.Ending.TheVariants.{MasterHalted, Finished, LimitReached}
use Rattle.pg_model.specs.declared.view.Declared.{Declared}
use Rattle.pg_model.specs.declared.view.Visible.{Visible}
use Rattle.pg_part.specs.Part.{PartState}
use Rattle.pg_stats.specs.GlobalStats.{AreStatsBetween, aggregators_of, stats_of_all}
use Rattle.pg_stats.specs.Stats.{stats_at}
use Rattle.pg_stats.specs.declared.global_stats.GlobalStats.{GlobalStats}
use Rattle.pg_stats.proofs.LawsStats.{are_stats_after}

-- ---- what is so of every run

module _ {V M : Type 0} {limits : Limits} {declared : Declared} {registered registry : Registered} {state : State} {history : List Event}
    {parts : List (Option (PartState V M))} {shown : List Visible} {run_totals : RunTotals}
    (lawful : IsLawful limits declared registered registry state history parts shown run_totals) where
  -- something was shown that isn't taken in yet
  pub IsLawful-shown : (visible : Visible) → length visible.values ≡ length registered
      → IsLawful limits declared registered registry state history parts (shown ++ visible ∷ []) run_totals
  IsLawful-shown visible places = record {
    limits_are = lawful.limits_are;
    registry_is = lawful.registry_is;
    few = lawful.few;
    declared_are = lawful.declared_are;
    events = lawful.events;
    each = lawful.each;
    here = lawful.here;
    stays = lawful.stays;
    within = lawful.within;
    shown_so_far = omega (arith, length_push shown visible, lawful.shown_so_far);
    shown_places = All-push (λ v. length v.values ≡ length registered) shown visible lawful.shown_places places;
    gathered_places = lawful.gathered_places;
  }

  module _ (allowed : is_allowed state (Close Next) ≡ true) (counted : RunTotals) (places : length counted.gathered ≡ length registered) where
    pub IsLawful-end : IsLawful limits declared registered registry (after state (Close Ended)) (history ++ Close Ended ∷ []) parts shown counted
    IsLawful-end = record {
      limits_are = lawful.limits_are;
      registry_is = lawful.registry_is;
      few = lawful.few;
      declared_are = lawful.declared_are;
      events = Reaches-push (first_state limits.partitions limits.workers) state history (Close Ended) lawful.events allowed;
      each = lawful.each;
      here = λ p part at. let before = lawful.here p part at in record {
        partition_is = before.partition_is;
        partitions_are = before.partitions_are;
        place_is = before.place_is;
      };
      stays = lawful.stays;
      within = lawful.within;
      shown_so_far = lawful.shown_so_far;
      shown_places = lawful.shown_places;
      gathered_places = places;
    }

    pub IsLawful-next : state.current + 1 < limits.limit → state.current + 1 < length shown
        → IsLawful limits declared registered registry (after state (Close Next)) (history ++ Close Next ∷ []) parts shown counted
    IsLawful-next less more = record {
      limits_are = lawful.limits_are;
      registry_is = lawful.registry_is;
      few = lawful.few;
      declared_are = lawful.declared_are;
      events = Reaches-push (first_state limits.partitions limits.workers) state history (Close Next) lawful.events allowed;
      each = lawful.each;
      here = λ p part at. let before = lawful.here p part at in record {
        partition_is = before.partition_is;
        partitions_are = before.partitions_are;
        place_is = before.place_is;
      };
      stays = λ p r at past. lawful.stays p r at (omega (arith, past));
      within = less;
      shown_so_far = more;
      shown_places = lawful.shown_places;
      gathered_places = places;
    }

-- ---- what is so of a right one

-- the run hasn't ended where an event is allowed
pub not_ended : (state : State) (event : Event) → is_allowed state event ≡ true → state.ended ≡ false
not_ended state event allowed = not-true _ (and_parts _ _ allowed).0

module _ {P C A V M : Type 0} (job : Job V M) (kept : Option Rows) (core : Progress P C A V M) (right : IsRight job kept core)
    (events : Reaches (first_state core.limits.partitions core.limits.workers) core.history core.state) where
  pub IsRight-end : (ending : Ending) (run_totals : RunTotals) → core.state.current + 1 ≡ run_length job core.graph
      → ending_after job core.graph core.state.current ≡ Some ending → run_totals ≡ run_totals_at job core.graph (core.state.current + 1)
      → IsRight job kept (with_end ending run_totals core)
  IsRight-end ending run_totals last ends counts =
      IsRightWith-same job kept (kept_for kept core) _ (with_end ending run_totals core) (λ p. kept_more kept core (Close Ended) p events refl) (record {
        within = right.within;
        parts = right.parts;
        logs = right.logs;
        shown = right.shown;
        run_totals = counts;
        ending = sym ends;
        at_end = λ ended. last;
        warm = right.warm;
      })

  pub IsRight-next : (visible : Visible) (run_totals : RunTotals) → core.state.ended ≡ false → core.state.current + 1 < run_length job core.graph
      → visible ≡ visible_at job core.graph (core.state.current + 1) → run_totals ≡ run_totals_at job core.graph (core.state.current + 1)
      → IsRight job kept (with_next visible run_totals core)
  IsRight-next visible run_totals on within shows counts =
      let s : ℕ = core.state.current + 1 in
      let none : 0 + s ≡ s = omega arith in
      IsRightWith-same job kept (kept_for kept core) _ (with_next visible run_totals core) (λ p. kept_more kept core (Close Next) p events refl) (record {
        within = within;
        parts = right.parts;
        logs = record { sent = right.logs.sent; no_more = right.logs.no_more };
        shown =
            ap (λ l. l ++ visible ∷ []) right.shown
            ∙ (ap (λ v. map (visible_at job core.graph) (range_with_len 0 s) ++ v ∷ []) shows
            ∙ sym (map-range_with_len_more (visible_at job core.graph) 0 s s none));
        run_totals = counts ∙ ap (λ b. run_totals_at job core.graph (cond b (s + 1) s)) (sym on);
        ending =
            right.ending
            ∙ (ap (λ b. cond b (ending_after job core.graph core.state.current) None) on ∙ sym (ap (λ b. cond b (ending_after job core.graph s) None) on));
        at_end = λ ended. absurd (true≢false (sym ended ∙ on));
        warm = right.warm;
      })

-- ---- what stats say

module _ {V M : Type 0} (job : Job V M) (rows : Rows) (s : ℕ) (stats : GlobalStats)
    (are : AreStatsBetween (configuration job rows s) (configuration job rows (s + 1)) stats) where
  -- what the run has counted after superstep s
  pub run_totals_next : (before counted : RunTotals) → before ≡ run_totals_at job rows s → counted.gathered ≡ stats.gathered
      → counted.sent ≡ capped (before.sent + stats.sent) → counted.dropped ≡ capped (before.dropped + stats.dropped)
      → counted ≡ run_totals_at job rows (s + 1)
  run_totals_next before counted so_far gathered sent dropped = λ i. record {
    gathered = (gathered ∙ are.ended.gathered) i;
    sent = (sent ∙ (ap (λ (t : RunTotals). capped (t.sent + stats.sent)) so_far ∙ are.sent)) i;
    dropped = (dropped ∙ (ap (λ (t : RunTotals). capped (t.dropped + stats.dropped)) so_far ∙ are.dropped)) i;
  }

  -- what the master shows next
  pub visible_next : visible_in job.deciding (record { vertices = stats.vertices; edges = stats.edges }) (s + 1) stats.gathered ≡ visible_at job rows (s + 1)
  visible_next = λ i. visible_in job.deciding (are.ended.totals i) (s + 1) (are.ended.gathered i)

  -- whether the run ends with superstep s
  pub ending_next : (halt : Bool) (supersteps limit : ℕ) → halt ≡ (visible_at job rows s).halt → supersteps ≡ s + 1 → limit ≡ job.limit
      → cond halt (Some MasterHalted) (cond stats.is_idle (Some Finished) (cond (supersteps == limit) (Some LimitReached) None)) ≡ ending_after job rows s
  ending_next halt supersteps limit halts many most =
      λ i. cond (halts i) (Some MasterHalted) (cond (are.ended.idle i) (Some Finished) (cond (many i == most i) (Some LimitReached) None))

-- what all partitions have come to after superstep s, together, is what that superstep came to
pub stats_between : {V M : Type 0} (job : Job V M) (rows : Rows) (n : ℕ) → 0 < n → (registered : Registered) → job.aggregators ≡ aggregators_of registered
    → (s : ℕ) (visible : List ℤ) (stats : GlobalStats) → visible ≡ (visible_at job rows s).values → All (FitsSigned w64) visible
    → stats ≡ stats_of_all (aggregators_of registered) visible (map (λ p. stats_at job rows n p (s + 1)) (range_with_len 0 n))
    → AreStatsBetween (configuration job rows s) (configuration job rows (s + 1)) stats
stats_between job rows n some registered are s visible stats shows fit is =
    let combined_stats = is ∙ (λ i. stats_of_all (sym are i) (shows i) (map (λ p. stats_at job rows n p (s + 1)) (range_with_len 0 n))) in
    subst (AreStatsBetween (configuration job rows s) (configuration job rows (s + 1))) (sym combined_stats)
    (are_stats_after job rows n some registered are s (subst (All (FitsSigned w64)) shows fit))
