-- What a run over partitions gives once it has ended.
use Rattle.std.proofs.Common.{◌≡◌, ℕ, ◌+◌, ◌-◌, ◌<◌, ◌≤◌, Bool, true, false, cond, List, [], ◌∷◌, ◌++◌, length, get_or, Option, None}
use Rattle.std.proofs.Common.{Some, option_map, is_some, refl, ap, sym, ◌∙◌, subst, arith, inl, inr, eq-or-lt_of_le}
use Rattle.std.specs.List.{list_all, slice_get}
use Rattle.std.specs.Option.{IsSome, unwrap_or}
use Rattle.std.proofs.lemmas.Bool.{lt-ltb, true≢false}
use Rattle.std.proofs.lemmas.List.FromFn.{length-map-range_with_len}
use Rattle.std.proofs.lemmas.List.Sums.{AllPass-from_list_all}
use Rattle.pg_core_machine.specs.Machine.{place_at}
use Rattle.pg_core.specs.Progress.{HoldsAt, IsRight, Progress, has_lost, is_past, kept_for, part_at, run_totals_at}
use Rattle.pg_core.specs.Traces.{RetainedRun, HasRetained, HaveRetained, IsRetainedBy, KeepsRetainedRun, ended_by, shown_below}
use Rattle.pg_core_values.specs.Values.{HasEnded, HaveEnded, KeepsEnd, is_warm}
use Rattle.pg_core.specs.declared.run_totals.RunTotals.{RunTotals}
use Rattle.pg_graph.specs.Rows.{Rows}
use Rattle.pg_inbox.specs.LoggedBundle.{Slots, slot_at}
use Rattle.pg_inbox.specs.Handed.{LoggedBundle}
use Rattle.pg_model.specs.Job.{Job}
use Rattle.pg_model.specs.Run.{answer, configuration, ending_after, run_length, values_of, visible_at}
use Rattle.pg_model.specs.declared.run.Ending.{Ending}
use Rattle.pg_model.specs.declared.run.Ending.TheVariants.{LimitReached}
use Rattle.pg_model.specs.declared.view.Visible.{Visible}
use Rattle.pg_part.specs.Handed.{bundle_in, bundle_sent}
use Rattle.pg_part.specs.PartRun.{IsSentTo}
use Rattle.pg_part.specs.Part.{HoldsShare, IsRetained, RetainedPartOf, PartState}
use Rattle.pg_core.proofs.Putting.{slice_get_before, slice_get_pushed}

-- ---- the answer

module _ {V M : Type 0} (job : Job V M) (rows : Rows) (s : ℕ) (last : s + 1 ≡ run_length job rows) where
  pub answer_is : (values : List (ℕ × V)) (run_totals : RunTotals) (ending : Ending) (supersteps : ℕ)
      → values ≡ values_of job rows (configuration job rows (s + 1)) → run_totals ≡ run_totals_at job rows (s + 1)
      → ending ≡ unwrap_or (ending_after job rows s) LimitReached → supersteps ≡ s + 1
      → record {
        values = values;
        aggregates = run_totals.gathered;
        ending = ending;
        supersteps = supersteps;
        sent = run_totals.sent;
        dropped = run_totals.dropped;
      } ≡ answer job rows
  unfolding answer
  answer_is values run_totals ending supersteps are counts ends many =
      let before : s ≡ run_length job rows - 1 = omega (arith, last) in
      let counted : run_totals ≡ run_totals_at job rows (run_length job rows) = counts ∙ ap (run_totals_at job rows) last in
      λ i. record {
        values = (are ∙ ap (λ (k : ℕ). values_of job rows (configuration job rows k)) last) i;
        aggregates = (counted i).gathered;
        ending = (ends ∙ ap (λ (k : ℕ). unwrap_or (ending_after job rows k) LimitReached) before) i;
        supersteps = (many ∙ last) i;
        sent = (counted i).sent;
        dropped = (counted i).dropped;
      }

-- ---- what the parts leave

-- the element between those before it and those after it
pub get_or_at : {X : Type 0} (xs ys : List X) (x d : X) → get_or (xs ++ x ∷ ys) (length xs) d ≡ x
get_or_at [] ys x d = refl
get_or_at (y ∷ xs) ys x d = get_or_at xs ys x d

module _ {V M : Type 0} (s : ℕ) (parts : List (Option (PartState V M))) where
  -- one part more has left this
  pub left_more : (before after : List (RetainedPartOf V M)) (retained : RetainedPartOf V M) (part : PartState V M) (k : ℕ) → length before ≡ k
      → get_or parts k None ≡ Some part → HaveRetained s parts k before → after ≡ before ++ retained ∷ []
      → ((job : Job V M) (kept : Option Rows) (rows : Rows) (n p : ℕ) → s ≡ run_length job rows → HoldsShare job kept rows n p s part
      → IsRetained job rows n p retained) → HaveRetained s parts (k + 1) after
  left_more before after retained part k many at so_far pushed leaves job keeps rows n ends held p within =
      subst (λ (l : List (RetainedPartOf V M)). HasRetained job rows n p (slice_get l p)) (sym pushed)
      (elim (eq-or-lt_of_le (let le : p ≤ k = omega (arith, within) in le)) [
        | inl same ↦ subst (λ (q : ℕ). HasRetained job rows n q (slice_get (before ++ retained ∷ []) q)) (sym same)
            (subst (HasRetained job rows n k) (sym (ap (slice_get (before ++ retained ∷ [])) (sym many) ∙ slice_get_pushed before retained))
            (leaves job (keeps k) rows n k ends
            (subst (λ (r : ℕ). HoldsShare job (keeps k) rows n k r part) (sym ends) (subst (HasEnded job (keeps k) rows n k) at (held k (omega arith))))))
        | inr less ↦ subst (HasRetained job rows n p) (sym (slice_get_before before retained p (omega (arith, less, many))))
            (so_far job keeps rows n ends (λ q inside. held q (omega (arith, inside))) p less)
      ])

-- how the kept run ended, of what is kept of it, where that run is kept for each partition
keeps_end : {V M : Type 0} (job : Job V M) (old : Option Rows) (keeps : ℕ → Option Rows) (n : ℕ) (retained_run : Option (RetainedRun V M))
    → KeepsRetainedRun job old n retained_run → ((p : ℕ) → p < n → keeps p ≡ old) → KeepsEnd job keeps n (option_map ended_by retained_run)
keeps_end job old keeps n None retained_run all = tt
keeps_end job None keeps n (Some retained_run) none all = absurd (let k : Some retained_run ≡ None = none in cc)
keeps_end job (Some rows) keeps n (Some retained_run) is all = record {
  old = rows;
  for_all = all;
  answered = record {
    values_are = is.values;
    supersteps_are = ap length is.shown ∙ length-map-range_with_len (visible_at job rows) 0 (run_length job rows);
  };
}

-- a warm part holds no share of a cold one
no_warm_share : {V M : Type 0} (job : Job V M) (old : Option Rows) (rows : Rows) (n p r : ℕ) (lost : Bool) (part : PartState V M)
    → HoldsShare job (cond lost None old) rows n p r part → is_some part.part_run.kept ≡ true → cond lost None old ≡ old
no_warm_share job old rows n p r true part holds warm = absurd (true≢false (sym warm ∙ ap is_some holds.part_run.warm))
no_warm_share job old rows n p r false part holds warm = refl

-- ---- a core that has ended

bundle_in-sent : {V M : Type 0} (job : Job V M) (kept : Option Rows) (rows : Rows) (n p q s : ℕ) (slot : Option (LoggedBundle M))
    → IsSentTo job kept rows n p q s slot → bundle_in slot ≡ Some (bundle_sent job rows n p q s)
bundle_in-sent job kept rows n p q s None h = absurd h
bundle_in-sent job kept rows n p q s (Some logged) h = ap Some h.0

module _ {P C A V M : Type 0} (job : Job V M) (kept : Option Rows) (core : Progress P C A V M) (right : IsRight job kept core)
    (ended : core.state.ended ≡ true)
    (places : (p : ℕ) → p < core.limits.partitions → place_at p core.state ≡ Some (core.state.current + 1))
    (here : (p : ℕ) → p < core.limits.partitions → IsSome (part_at p core)) (each : length core.parts ≡ core.limits.partitions) where
  abbrev end : ℕ
  end = core.state.current + 1

  last : end ≡ run_length job core.graph
  last = right.at_end ended

  abbrev HoldsLast : ℕ → Option (PartState V M) → Type 0
  HoldsLast p None = ⊥
  HoldsLast p (Some part) = HoldsShare job (kept_for kept core p) core.graph core.limits.partitions p end part

  held : (p : ℕ) → p < core.limits.partitions → HoldsLast p (part_at p core)
  held p within = by (part_at p core) refl (here p within)
    where
      by : (part : Option (PartState V M)) → part_at p core ≡ part → is_some part ≡ true → HoldsLast p part
      by None at is = absurd (true≢false (sym is))
      by (Some part) at is =
          subst (λ place. HoldsAt job core.graph (kept_for kept core p) core.limits.partitions p place part) (places p within) (right.parts p part at)

  pub run_totals_last : core.run_totals ≡ run_totals_at job core.graph end
  run_totals_last = right.run_totals ∙ ap (λ b. run_totals_at job core.graph (cond b end core.state.current)) ended

  pub ending_last : core.ending ≡ ending_after job core.graph core.state.current
  ending_last = right.ending ∙ ap (λ b. cond b (ending_after job core.graph core.state.current) None) ended

  -- all parts have come to the end
  have_ended : (p : ℕ) → p < core.limits.partitions → HasEnded job (kept_for kept core p) core.graph core.limits.partitions p (part_at p core)
  have_ended p within = by (part_at p core) (held p within)
    where
      by : (part : Option (PartState V M)) → HoldsLast p part → HasEnded job (kept_for kept core p) core.graph core.limits.partitions p part
      by None h = absurd h
      by (Some part) h = subst (λ (r : ℕ). HoldsShare job (kept_for kept core p) core.graph core.limits.partitions p r part) last h

  pub have_all_ended : 0 < core.limits.partitions → HaveEnded job (kept_for kept core) core.graph core.limits.partitions end core.parts
  have_all_ended some = record { parts_are = have_ended; some = some; last = last }

  -- where all of them are warm, how the kept run ended may be borrowed
  end_kept : list_all is_warm core.parts ≡ true → KeepsEnd job (kept_for kept core) core.limits.partitions (option_map ended_by core.kept)
  end_kept warm = keeps_end job kept (kept_for kept core) core.limits.partitions core.kept right.warm all
    where
      all : (p : ℕ) → p < core.limits.partitions → kept_for kept core p ≡ kept
      all p within = by (part_at p core) (held p within)
          (AllPass-from_list_all is_warm core.parts warm p None (omega (arith, within, each)))
        where
          by : (part : Option (PartState V M)) → HoldsLast p part → is_warm part ≡ true → kept_for kept core p ≡ kept
          by None h is = absurd h
          by (Some part) h is = no_warm_share job kept core.graph core.limits.partitions p end (has_lost core p) part h is

  -- else nothing is borrowed
  pub end_borrowed : KeepsEnd job (kept_for kept core) core.limits.partitions (cond (list_all is_warm core.parts) (option_map ended_by core.kept) None)
  end_borrowed = by (list_all is_warm core.parts) refl
    where
      by : (b : Bool) → list_all is_warm core.parts ≡ b
          → KeepsEnd job (kept_for kept core) core.limits.partitions (cond b (option_map ended_by core.kept) None)
      by true warm = end_kept warm
      by false warm = tt

  -- so what they left is what the run leaves
  pub left_as : (retained_parts : List (RetainedPartOf V M)) (graph : Rows) (logs : Slots M) (shown : List Visible) (values : List (ℕ × V))
      → length retained_parts ≡ core.limits.partitions → HaveRetained end core.parts core.limits.partitions retained_parts
      → graph ≡ core.graph → logs ≡ core.logs → shown ≡ core.shown → values ≡ values_of job core.graph (configuration job core.graph end)
      → IsRetainedBy job core.graph core.limits.partitions
      (record { retained_parts = retained_parts; graph = graph; retained_run = record { logs = logs; shown = shown; values = values } })
  left_as retained_parts graph logs shown values many retained graph_is same shows are = record {
    each = many;
    whole = retained job (kept_for kept core) core.graph core.limits.partitions last have_ended;
    graph_is = graph_is;
    retained_run = record {
      sent = λ s p q before mine theirs.
          let sent_is = bundle_in-sent job (kept_for kept core p) core.graph core.limits.partitions p q s (slot_at core.logs s p q)
          (right.logs.sent s p q (ap (is_past s) (places p mine) ∙ lt-ltb s end (omega (arith, before, last))) theirs) in
          subst (λ (l : Slots M). bundle_in (slot_at l s p q) ≡ Some (bundle_sent job core.graph core.limits.partitions p q s)) (sym same) sent_is;
      shown = shows ∙ (right.shown ∙ ap (shown_below job core.graph) last);
      values = are ∙ ap (λ (k : ℕ). values_of job core.graph (configuration job core.graph k)) last;
    };
  }
