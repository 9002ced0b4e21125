-- A partition begins against an old run with its share of the run.
use Rattle.std.proofs.Common.{◌≡◌, ℕ, false, List, [], map, length, Some, refl, sym, ap, ◌∙◌, arith, subst, true≢false}
use Rattle.std.specs.List.Sorted.{IsStrictlySortedBy}
use Rattle.std.specs.Ordering.{nat_cmp}
use Rattle.pg_graph.specs.Rows.{HasRisingIds, Rows}
use Rattle.pg_graph.specs.declared.missing.Missing.{Missing}
use Rattle.pg_model.specs.ByIds.{state_at, state_first}
use Rattle.pg_model.specs.Job.{Job, Program}
use Rattle.pg_model.specs.Run.{run_length}
use Rattle.pg_model.specs.Superstep.{has_id}
use Rattle.pg_model.proofs.LawsAffected.{StandsAlike-first}
use Rattle.pg_part_routing.specs.Starting.{own, first_changes}
use Rattle.pg_part.specs.PartRun.{AreTouched, PartRunState, Holds, IsWhole, diverged}
use Rattle.pg_part_compute.proofs.Coverage.{records_held}
use Rattle.pg_inbox.proofs.Among.{in_neither}
use Rattle.pg_part_routing.proofs.Beginning.{begun_holds, first_again}
use Rattle.pg_trace.specs.Beginning.{with_first}
use Rattle.pg_trace.specs.OfRun.{HoldsRun}
use Rattle.pg_trace.specs.Trace.{Trace, begun, records_of}

-- one with the trace of an old run as well holds it against that, where the graphs have the same rows at all ids but these
pub holds_warm : {V M : Type 0} (job : Job V M) (kept rows : Rows) (n p : ℕ) → HasRisingIds rows → (program : Program V M) → job.program ≡ program
    → (missing : Missing) → missing ≡ job.missing → (old : Trace V M) → IsWhole job kept n p old → (touched : List ℕ) → IsStrictlySortedBy nat_cmp touched
    → AreTouched touched kept rows → (part_run : PartRunState V M)
    → part_run.partition ≡ p → part_run.partitions ≡ n → part_run.missing ≡ missing → part_run.place ≡ 0
    → part_run.trace ≡ record old { initial = with_first (first_changes program rows n p touched) old.initial } → part_run.kept ≡ Some old
    → part_run.live ≡ touched → part_run.quiescent ≡ []
    → Holds job (Some kept) rows n p 0 part_run
holds_warm job kept rows n p rise program is missing missing_is old whole touched ordered same part_run at_partition
    of_all at_missing here trace_is is_kept touched_are none_rest = record {
      partition_is = at_partition;
      partitions_are = of_all;
      missing_is = at_missing ∙ missing_is;
      place_is = here;
      run = subst (HoldsRun job rows n p 0) (sym trace_is) (record { rise = rise; initial = begun_as ∙ fresh.initial; records = fresh.records });
      supersteps = let long = ap (λ t. length t.records) trace_is in let all = whole.supersteps in omega (arith, long, all);
      warm = record {
        trace = old;
        is = is_kept;
        whole = whole.run;
        later = λ s low high. ap (records_of s) trace_is ∙ records_held job kept n p old s (run_length job kept) whole.run high;
        others = λ id mine other high. alike id other;
        as_ended = λ id mine other none.
            subst (λ k. state_at job kept k id ≡ state_at job rows 0 id) (let e : 0 ≡ run_length job kept = omega (arith, none) in e) (alike id other);
        rest = λ id mine among _. absurd (true≢false (sym among ∙ ap (λ l. has_id l id) none_rest));
      };
    }
  where
    alike : (id : ℕ) → has_id (diverged part_run) id ≡ false → state_at job kept 0 id ≡ state_at job rows 0 id
    alike id other =
        let apart = (in_neither part_run.live part_run.quiescent _ refl id other).0 in
        (StandsAlike-first job kept rows id (same id (sym (ap (λ l. has_id l id) touched_are) ∙ apart))).state

    fresh : HoldsRun job rows n p 0 (begun (map (λ r. state_first program r.0 r.1) (own n p rows)))
    fresh = begun_holds job rows n p rise program is

    before : HoldsRun job kept n p 0 (begun (map (λ r. state_first program r.0 r.1) (own n p kept)))
    before = begun_holds job kept n p whole.run.rise program is

    begun_as : with_first (first_changes program rows n p touched) old.initial ≡ map (λ r. state_first program r.0 r.1) (own n p rows)
    begun_as =
        ap (with_first (first_changes program rows n p touched)) (whole.run.initial ∙ sym before.initial)
        ∙ first_again program n p kept rows whole.run.rise rise touched ordered same
