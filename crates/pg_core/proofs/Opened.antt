-- A run over partitions that has just opened is lawful, and right.
use Rattle.std.proofs.Common.{◌≡◌, ℕ, ◌<◌, true, List, [], length, map, ℤ, get_or, Option, None, Some, is_some, refl, ap, sym, ◌∙◌, subst, arith}
use Rattle.std.specs.Option.{IsSome}
use Rattle.std.proofs.lemmas.Bool.{ltb-true, true≢false}
use Rattle.std.proofs.lemmas.List.{length-map}
use Rattle.pg_core.specs.Beginning.{AreFirst, HasBegun, HasStarted, IsFirst, IsHereFirst, HaveBegun, HaveBegunWarm, first_visible}
use Rattle.pg_core.specs.declared.beginning.InitialCore.{InitialCore}
use Rattle.pg_core_machine.specs.Limits.{AreLimits, Limits}
use Rattle.pg_core_machine.specs.Machine.{State, first_state, place_at}
use Rattle.pg_core.specs.Progress.{HoldsAt, IsLawful, IsOpened, IsRight, Progress, job_of_core, is_past, run_totals_at}
use Rattle.pg_core.specs.Traces.{IsRetainedBy, KeepsRetainedRun, Traces, shown_below}
use Rattle.pg_core.specs.declared.run_totals.RunTotals.{RunTotals}
use Rattle.pg_core_machine.proofs.LawsMachine.{Reaches-none, length-first, some_within, starts_at}
use Rattle.pg_core.proofs.Opening.{beginning-edges}
use Rattle.pg_global.specs.Master.{Master, is_registered, job_of}
use Rattle.pg_global.specs.Registry.{Registered}
use Rattle.pg_graph.specs.Rows.{Rows, edge_count}
use Rattle.pg_inbox.specs.LoggedBundle.{slot_at}
use Rattle.pg_model.proofs.LawsLength.{run_length_pos}
use Rattle.pg_model.specs.Job.{Combining, Job, Program}
use Rattle.pg_model.specs.Run.{beginning, configuration, first, visible_at}
use Rattle.pg_model.specs.Superstep.{capped, edges_of, visible_in}
use Rattle.pg_model.specs.declared.view.Visible.{Visible}
use Rattle.pg_part.specs.PartRun.{AreTouched}
use Rattle.pg_part.specs.Part.{HoldsShare, PartState}
use Rattle.pg_stats.specs.GlobalStats.{aggregators_of}

module _ {V M : Type 0} (job : Job V M) (rows : Rows) where
  -- what the master shows first
  pub visible_first : (gathered : List ℤ) → gathered ≡ map (λ a. a.initial) job.aggregators → first_visible job.deciding rows gathered ≡ visible_at job rows 0
  unfolding configuration first
  visible_first gathered are =
      let with_inboxes = map (beginning job.program) rows in
      let edges : ℕ = capped (edges_of with_inboxes) in
      let totals : record { vertices = length rows; edges = capped (edge_count rows) } ≡ record { vertices = length with_inboxes; edges = edges } =
      (λ i. record { vertices = sym (length-map rows (beginning job.program)) i; edges = capped (sym (beginning-edges job.program rows) i) }) in
      (λ i. visible_in job.deciding (totals i) 0 (are i))

  -- and what is counted
  pub run_totals_first : (run_totals : RunTotals) → run_totals ≡ record { gathered = map (λ a. a.initial) job.aggregators; sent = 0; dropped = 0 } → run_totals ≡ run_totals_at job rows 0
  unfolding configuration first
  run_totals_first run_totals is = is

-- where a run begins
first_place : (limits : Limits) (p r : ℕ) → place_at p (first_state limits.partitions limits.workers) ≡ Some r → (p < limits.partitions) × (r ≡ 0)
first_place limits p r at =
    let within : p < limits.partitions =
    subst (λ (n : ℕ). p < n) (length-first limits.partitions limits.workers) (some_within (first_state limits.partitions limits.workers).places p r at) in
    let zero_there : Some r ≡ Some 0 = sym at ∙ starts_at limits.partitions limits.workers p within in
    (within, cc)

-- parts that are here, at superstep 0
module _ {V M : Type 0} (program : Program V M) (master : Master) (limits : Limits) (rows : Rows) (parts : List (Option (PartState V M)))
    (each : length parts ≡ limits.partitions) (first : AreFirst limits.partitions limits.partitions parts) where
  first_part : (p : ℕ) (part : PartState V M) → get_or parts p None ≡ Some part → IsFirst limits.partitions p part
  first_part p part is =
      let within : p < limits.partitions = subst (λ (n : ℕ). p < n) each (some_within parts p part is) in
      subst (IsHereFirst limits.partitions p) is (first p within)

  pub are_here : (p : ℕ) → p < limits.partitions → IsSome (get_or parts p None)
  are_here p within = by (get_or parts p None) (first p within)
    where
      by : (part : Option (PartState V M)) → IsHereFirst limits.partitions p part → is_some part ≡ true
      by None h = absurd h
      by (Some part) h = refl

  pub IsLawful-opened : (start : InitialCore) → HasStarted master rows limits start → is_registered program master ≡ true
      → IsLawful limits program.declared master.registrations start.registry start.state [] parts start.shown.items start.run_totals
  IsLawful-opened start started registered =
      let n : ℕ = limits.partitions in
      let start_state : State = first_state n limits.workers in
      let lawful : IsLawful limits program.declared master.registrations start.registry start_state [] parts start.shown.items start.run_totals = record {
        limits_are = started.limits_are;
        registry_is = started.registry_is;
        few = started.few;
        declared_are = registered;
        events = Reaches-none start_state;
        each = each;
        here = λ p part at.
            let here = first_part p part at in
            let within : p < n = subst (λ (n : ℕ). p < n) each (some_within parts p part at) in
            record {
              partition_is = here.partition_is;
              partitions_are = here.partitions_are;
              place_is = starts_at n limits.workers p within ∙ ap Some (sym here.place_is);
            };
        stays = λ p r at past. let none = (first_place limits p r at).1 in absurd (omega (arith, none, past));
        within = started.limits_are.limit_least;
        shown_so_far = subst (λ (l : List Visible). 0 < length l) (sym started.shown_is) (omega arith);
        shown_places = started.places;
        gathered_places = ap (λ (t : RunTotals). length t.gathered) started.run_totals_is ∙ (length-map _ _ ∙ length-map _ _);
      } in
      subst (λ (s : State). IsLawful limits program.declared master.registrations start.registry s [] parts start.shown.items start.run_totals)
      (sym started.state_is) lawful

-- a part that is among those that have begun
module _ {V M : Type 0} (program : Program V M) (master : Master) (combining : Option (Combining M)) (limits : Limits) (rows : Rows)
    (parts : List (Option (PartState V M))) (each : length parts ≡ limits.partitions) (old : Option Rows)
    (begun : (p : ℕ) → p < limits.partitions
    → HasBegun (job_of program combining master limits.missing limits.limit) old rows limits.partitions p (get_or parts p None)) where
  begun_part : (p : ℕ) (part : PartState V M) → get_or parts p None ≡ Some part
      → HoldsShare (job_of program combining master limits.missing limits.limit) old rows limits.partitions p 0 part
  begun_part p part is =
      let within : p < limits.partitions = subst (λ (n : ℕ). p < n) each (some_within parts p part is) in
      subst (HasBegun (job_of program combining master limits.missing limits.limit) old rows limits.partitions p) is (begun p within)

  pub IsRight-opened : {P C A : Type 0} (core : Progress P C A V M) → AreLimits limits → core.graph ≡ rows → core.limits ≡ limits
      → core.parts ≡ parts → core.state ≡ first_state limits.partitions limits.workers → core.history ≡ [] → ((s p q : ℕ) → slot_at core.logs s p q ≡ None)
      → core.shown ≡ shown_below (job_of program combining master limits.missing limits.limit) rows 1
      → core.run_totals ≡ run_totals_at (job_of program combining master limits.missing limits.limit) rows 0 → core.ending ≡ None
      → KeepsRetainedRun (job_of program combining master limits.missing limits.limit) old limits.partitions core.kept
      → IsRight (job_of program combining master limits.missing limits.limit) old core
  IsRight-opened {P} {C} {A} core are graph_is limits_are parts_are state_is history_is empty shows counts goes_on keeps =
      let job : Job V M = job_of program combining master limits.missing limits.limit in
      let n : ℕ = limits.partitions in
      let start : State = first_state n limits.workers in
      let is : core ≡ record core { graph = rows; limits = limits; parts = parts; state = start; history = [] } =
      (λ i. record core { graph = graph_is i; limits = limits_are i; parts = parts_are i; state = state_is i; history = history_is i }) in
      let not_past : (s p : ℕ) → is_past s (place_at p start) ≡ true → ⊥ = λ s p past. by_place s p (place_at p start) refl past in
      subst (IsRight job old) (sym is) (record {
        within = run_length_pos job rows are.limit_least;
        parts = λ p part at.
            let within : p < n = subst (λ (n : ℕ). p < n) each (some_within parts p part at) in
            subst (λ place. HoldsAt job rows old n p place part) (sym (starts_at n limits.workers p within)) (begun_part p part at);
        logs = record { sent = λ s p q past within. absurd (not_past s p past); no_more = λ s p q not_yet. empty s p q };
        shown = shows;
        run_totals = counts;
        ending = goes_on;
        at_end = λ ended. absurd (true≢false (sym ended));
        warm = keeps;
      })
    where
      by_place : (s p : ℕ) (place : Option ℕ) → place_at p (first_state limits.partitions limits.workers) ≡ place → is_past s place ≡ true → ⊥
      by_place s p None at past = true≢false (sym past)
      by_place s p (Some r) at past = let none = (first_place limits p r at).1 in let less : s < r = ltb-true s r past in omega (arith, none, less)

-- a core that has just opened is of the job that it was opened with
pub job_as_opened : {P C A V M : Type 0} (program_of : P → Program V M) (combining_of : C → Option (Combining M)) (master_of : A → Master)
    {core : Progress P C A V M} {program : P} {combiner : C} {master : A} {graph : Rows} {limits : Limits} {run : ℕ}
    → IsOpened core program combiner master graph limits run
    → job_of (program_of program) (combining_of combiner) (master_of master) limits.missing limits.limit ≡ job_of_core program_of combining_of master_of core
job_as_opened program_of combining_of master_of opened = λ i.
    let l : Limits = sym opened.limits_are i in
    job_of (program_of (sym opened.program_is i)) (combining_of (sym opened.combiner_is i)) (master_of (sym opened.master_is i)) l.missing l.limit

module _ {V M : Type 0} (program : Program V M) (combining : Option (Combining M)) (master : Master) (limits : Limits) (rows : Rows)
    (registered : Registered) (same : registered ≡ master.registrations) (parts : List (Option (PartState V M))) where
  -- all parts have begun the run of this job
  pub have_begun : HaveBegun program limits.missing registered rows limits.partitions limits.partitions parts → (p : ℕ)
      → p < limits.partitions
      → HasBegun (job_of program combining master limits.missing limits.limit) None rows limits.partitions p (get_or parts p None)
  have_begun begun = begun (job_of program combining master limits.missing limits.limit) refl refl (ap aggregators_of (sym same))

  -- the same against the run on the kept rows
  pub have_begun_warm : (touched : List ℕ) (old : Traces V M) (kept : Rows)
      → HaveBegunWarm program limits.missing registered rows touched old.graph old.retained_parts limits.partitions limits.partitions parts
      → IsRetainedBy (job_of program combining master limits.missing limits.limit) kept limits.partitions old → AreTouched touched kept rows
      → (p : ℕ) → p < limits.partitions → HasBegun (job_of program combining master limits.missing limits.limit)
      (Some kept) rows limits.partitions p (get_or parts p None)
  have_begun_warm touched old kept begun retained untouched =
      let job : Job V M = job_of program combining master limits.missing limits.limit in
      let begins = subst (λ (r : Rows). HaveBegunWarm program limits.missing registered rows touched r old.retained_parts limits.partitions limits.partitions parts)
      retained.graph_is begun in
      begins job refl refl (ap aggregators_of (sym same)) untouched retained.whole
