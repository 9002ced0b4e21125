-- A run from its first superstep to its last.
use Rattle.std.proofs.Common.{◌≡◌, ℕ, zero, suc, ◌+◌, ◌-◌, ◌^◌, ◌<◌, ◌≤◌, Bool, true, false, cond, ◌||◌, List, [], ◌∷◌, ◌++◌, length, map, Option}
use Rattle.std.proofs.Common.{None, Some, is_some, ⊎_elim, refl, sym, ap, ◌∙◌, subst, arith, rules, tests}
use Rattle.std.specs.Prelude.{◌==◌}
use Rattle.std.specs.List.{count_by, range_with_len, AllByRecursion}
use Rattle.std.specs.List.Sorted.{IsStrictlySortedBy}
use Rattle.std.specs.Option.{unwrap_or}
use Rattle.std.specs.Ordering.{nat_cmp}
use Rattle.std.specs.declared.cmp.Ordering.TheVariants.{Less}
use Rattle.std.proofs.lemmas.Bool.{cases_lt, or_right}
use Rattle.std.proofs.lemmas.Bool.Decides.{nat_tests}
use Rattle.std.proofs.lemmas.List.{length-map}
use Rattle.std.proofs.lemmas.Option.{slice_get_within}
use Rattle.std.proofs.lemmas.List.Sums.{sum_by-cons}
use Rattle.pg_graph.specs.Rows.{Rows, HasRisingIds, edge_count}
use Rattle.pg_graph.specs.Handed.{Row}
use Rattle.pg_graph.specs.declared.missing.Missing.{Missing}
use Rattle.pg_model.proofs.LawsLists.{by_bool}
use Rattle.pg_model.specs.InOrder.{IsInOrder}
use Rattle.pg_model.specs.Job.{Program, Combining, Job}
use Rattle.pg_model.specs.Run.{beginning, first, configuration, present_at, ending_after, run_length, executions_below, executions, executed, answer, values_of}
use Rattle.pg_model.specs.Superstep.{is_active, is_all_idle, ids, has_id, edges_of, present, visible, next, capped}
use Rattle.pg_model.specs.declared.configuration.VertexWithInbox.{VertexWithInbox}
use Rattle.pg_model.specs.declared.configuration.Configuration.{Configuration}
use Rattle.pg_model.specs.declared.run.Ending.{Ending}
use Rattle.pg_model.specs.declared.run.Ending.TheVariants.{MasterHalted, Finished, LimitReached}
use Rattle.pg_model.specs.declared.run.Run.{Run}
use Rattle.pg_model.proofs.LawsIds.{in_order}
use Rattle.pg_model.proofs.LawsLength.{run_length_is, ends_at_limit}
use Rattle.pg_global.specs.Master.{Master, job_of}
use Rattle.pg_global.specs.Registry.{Registered, aggregating_of}
use Rattle.pg_global.specs.declared.registry.Registration.{Registration}
use Rattle.pg_scratch.specs.Running.{IsRunning}
use Rattle.pg_scratch.specs.Stages.{HasStepped, IsPrepared}
use Rattle.pg_scratch.specs.Worklist.{ListsActive}
use Rattle.pg_scratch.specs.declared.superstep.Progress.{Progress}

less_at : (a b : ℕ) → a < b → nat_cmp a b ≡ Less
less_at a b h = grind (arith, nat_tests)

-- ---- all places in order
pub range-push : (a n : ℕ) → range_with_len a (n + 1) ≡ range_with_len a n ++ (a + n) ∷ []
range-push a zero = let e : a ≡ a + 0 = omega arith in ap (λ (x : ℕ). x ∷ []) e
range-push a (suc n) =
    let e : (a + 1) + n ≡ a + suc n = omega arith in
    let s : suc n + 1 ≡ suc (n + 1) = omega arith in
    ap (range_with_len a) s ∙ ap (λ l. a ∷ l) (range-push (a + 1) n ∙ ap (λ (x : ℕ). range_with_len (a + 1) n ++ x ∷ []) e)

range-within : (a n place : ℕ) → has_id (range_with_len a n) place ≡ true → (a ≤ place) × (place < a + n)
range-within a zero place h = let k : false ≡ true = h in cc
range-within a (suc n) place h =
    by_bool (a == place)
    (λ t. let same : a ≡ place = search (tests, rules) in (omega arith, omega arith))
    (λ t. let w = range-within (a + 1) n place (sym (ap (λ b. b || has_id (range_with_len (a + 1) n) place) t) ∙ h) in (omega (arith, w.0), omega (arith, w.1)))

range-has : (a n place : ℕ) → a ≤ place → place < a + n → has_id (range_with_len a n) place ≡ true
range-has a zero place low high = absurd (omega arith)
range-has a (suc n) place low high =
    ⊎_elim
    (λ (l : a < place). or_right (a == place) (has_id (range_with_len (a + 1) n) place) (range-has (a + 1) n place (omega arith) (omega arith)))
    (λ (l : place ≤ a). let same : a ≡ place = omega arith in let t : (a == place) ≡ true = search (tests, rules)
    in ap (λ b. b || has_id (range_with_len (a + 1) n) place) t)
    (cases_lt a place)

range-above : (low a n : ℕ) → low < a → AllByRecursion (λ y. nat_cmp low y ≡ Less) (range_with_len a n)
range-above low a zero h = tt
range-above low a (suc n) h = (less_at low a h, range-above low (a + 1) n (omega arith))

pub range-rising : (a n : ℕ) → IsStrictlySortedBy nat_cmp (range_with_len a n)
unfolding IsStrictlySortedBy
range-rising a zero = tt
range-rising a (suc n) = (range-above a (a + 1) n (omega arith), range-rising (a + 1) n)

pub ListsActive-all : {V M : Type 0} (xs : List (VertexWithInbox V M)) (n : ℕ) → length xs ≡ n → ListsActive xs (range_with_len 0 n)
ListsActive-all xs n same =
    record {
      within = λ place h. let w = range-within 0 n place h in omega (arith, w.1);
      covers = λ place x at active. let l = slice_get_within xs place x at in range-has 0 n place (omega arith) (omega arith);
    }

-- ---- as the run begins
initial_from : (rs : Registered) → map (λ r. (aggregating_of r).initial) (map (λ e. e.1) rs) ≡ map (λ a. a.initial) (map (λ e. aggregating_of e.1) rs)
initial_from [] = refl
initial_from (r ∷ rs) = ap (λ l. (aggregating_of r.1).initial ∷ l) (initial_from rs)

beginning-edges : {V M : Type 0} (program : Program V M) (rows : Rows) → edges_of (map (beginning program) rows) ≡ edge_count rows
beginning-edges program [] = refl
beginning-edges program (row ∷ rows) =
    sum_by-cons (λ x. length x.state.edges) (beginning program row) (map (beginning program) rows)
    ∙ (ap (λ n. length row.1.edges + n) (beginning-edges program rows) ∙ sym (sum_by-cons (λ (e : ℕ × Row). length e.1.edges) row rows))

-- a run before its first superstep
pub record IsBeginning {V M : Type 0} (program : Program V M) (registrations : List Registration) (rows : Rows) (count : ℕ) (p : Progress V M) : Type 0 where
  pub configuration : p.configuration ≡ record {
    with_inboxes = map (beginning program) rows;
    waiting = [];
    gathered = map (λ r. (aggregating_of r).initial) registrations;
    sent = 0;
    dropped = 0;
  }
  pub ids : p.ids ≡ ids p.configuration.with_inboxes
  pub work : p.work.items ≡ range_with_len 0 (length rows)
  pub edges : p.edges ≡ edge_count rows
  pub meter : p.meter ≡ count

module _ {V M : Type 0} (program : Program V M) (combining : Option (Combining M)) (master : Master) (missing : Missing) (limit : ℕ) where
  first_is : (rows : Rows) (registrations : List Registration) → registrations ≡ map (λ e. e.1) master.registrations → record {
    with_inboxes = map (beginning program) rows;
    waiting = [];
    gathered = map (λ r. (aggregating_of r).initial) registrations;
    sent = 0;
    dropped = 0;
  } ≡ first (job_of program combining master missing limit) rows
  unfolding first
  first_is rows registrations registered =
      let gathered = ap (map (λ r. (aggregating_of r).initial)) registered ∙ initial_from master.registrations in
      λ i. record { with_inboxes = map (beginning program) rows; waiting = []; gathered = gathered i; sent = 0; dropped = 0 }

  pub running_first : (rows : Rows) (registrations : List Registration) (count : ℕ) (p : Progress V M)
      → IsPrepared program master registrations → HasRisingIds rows → p.edges < 2 ^ 64 → count < 2 ^ 64
      → IsBeginning program registrations rows count p
      → IsRunning (job_of program combining master missing limit) rows (length registrations) count 0 p
  unfolding configuration executions_below
  running_first rows registrations count p prepared rising small fits begins =
      let job : Job V M = job_of program combining master missing limit in
      let many : length (map (beginning program) rows) ≡ length rows = simp length-map in
      let stands = begins.configuration ∙ first_is rows registrations prepared.registered in
      let vertices = ap (λ (x : Configuration V M). x.with_inboxes) begins.configuration in
      let total : edges_of p.configuration.with_inboxes ≡ edge_count rows = ap (λ (xs : List (VertexWithInbox V M)). edges_of xs) vertices
      ∙ beginning-edges program rows in
      record {
        stands = stands;
        ready = record {
          in_order = subst (λ (c : Configuration V M). IsInOrder c) (sym stands) (in_order job rows rising 0);
          ids_are = begins.ids;
          lists = subst (λ (xs : List (VertexWithInbox V M)). ListsActive xs p.work.items) (sym vertices)
              (subst (λ l. ListsActive (map (beginning program) rows) l) (sym begins.work)
              (ListsActive-all (map (beginning program) rows) (length rows) many));
          work_rises = subst (IsStrictlySortedBy nat_cmp) (sym begins.work) (range-rising 0 (length rows));
          edges = omega (arith, begins.edges, total, small);
          gathered = ap (λ (x : Configuration V M). length x.gathered) begins.configuration ∙ length-map registrations _;
        };
        goes_on = λ before h. absurd (omega arith);
        counted = omega (arith, begins.meter, fits);
      }

-- ---- one superstep more
one_less : (s : ℕ) → s + 1 - 1 ≡ s
one_less s = omega arith

above : (s : ℕ) → s + 1 ≡ suc s
above s = omega arith

module _ {V M : Type 0} (job : Job V M) (rows : Rows) (places first_count s : ℕ) (before after : Progress V M)
    (halt : Bool) (running : IsRunning job rows places first_count s before)
    (step : HasStepped job places s before after halt) where
  -- what stands after superstep s
  stands_next : after.configuration ≡ configuration job rows (s + 1)
  unfolding configuration
  stands_next =
      let P : ℕ → Configuration V M = λ n. configuration job rows n in
      step.configuration ∙ (ap (next job s) running.stands ∙ sym (ap P (above s)))

  counted_next : after.meter ≡ capped (first_count + executions_below job rows (s + 1))
  unfolding executions_below
  counted_next =
      let more : executions_below job rows (s + 1) ≡ executions_below job rows s + executed job rows (present_at job rows s) =
      (let P : ℕ → ℕ = λ n. executions_below job rows n in ap P (above s)) in
      let same : count_by is_active (present job.program before.configuration) ≡ executed job rows (present_at job rows s) =
      (λ i. count_by is_active (present job.program (running.stands i))) in
      omega (arith, step.counted, running.counted, more, same)

  -- the test after superstep s
  pub ending_is : (found : Option Ending)
      → found ≡ cond halt (Some MasterHalted)
      (cond (is_all_idle after.configuration) (Some Finished) (cond (s + 1 == job.limit) (Some LimitReached) None))
      → found ≡ ending_after job rows s
  ending_is found finds =
      let P : Bool → Configuration V M → Option Ending =
      λ h x. cond h (Some MasterHalted) (cond (is_all_idle x) (Some Finished) (cond (s + 1 == job.limit) (Some LimitReached) None)) in
      finds ∙ (λ i. P ((step.halts ∙ (λ j. (visible job s (running.stands j)).halt)) i) (stands_next i))

  pub running_on : ending_after job rows s ≡ None → IsRunning job rows places first_count (s + 1) after
  running_on none =
      record {
        stands = stands_next;
        ready = step.ready;
        goes_on = λ earlier less. ⊎_elim (λ (l : earlier < s). running.goes_on earlier l)
            (λ (l : s ≤ earlier). let e : s ≡ earlier = omega arith in let P : ℕ → Type 0 = λ n. is_some
            (ending_after job rows n) ≡ false in subst P e (ap is_some none)) (cases_lt earlier s);
        counted = counted_next;
      }

  module _ (within : s < job.limit) (ending : Ending) (ends : Some ending ≡ ending_after job rows s) where
    length_now : run_length job rows ≡ s + 1
    length_now =
        let P : ℕ → Type 0 = λ n. is_some (ending_after job rows n) ≡ true in
        run_length_is job rows (s + 1) (omega arith) (omega arith)
        (subst P (sym (one_less s)) (ap is_some (sym ends))) (λ earlier less. running.goes_on earlier (omega arith))

    pub answers : (run : Run V) → run ≡ record {
      values = values_of job rows after.configuration;
      aggregates = after.configuration.gathered;
      ending = ending;
      supersteps = s + 1;
      sent = after.configuration.sent;
      dropped = after.configuration.dropped;
    } → run ≡ answer job rows
    unfolding answer
    answers run finds =
        let P : Configuration V M → Ending → ℕ → Run V = λ x e n. record {
          values = values_of job rows x;
          aggregates = x.gathered;
          ending = e;
          supersteps = n;
          sent = x.sent;
          dropped = x.dropped;
        } in
        let Q : ℕ → Run V = λ n. P (configuration job rows n) (unwrap_or (ending_after job rows (n - 1)) LimitReached) n in
        let R : ℕ → Ending = λ n. unwrap_or (ending_after job rows n) LimitReached in
        let found : ending ≡ R (s + 1 - 1) = ap (λ (o : Option Ending). unwrap_or o LimitReached) ends ∙ sym (ap R (one_less s)) in
        finds ∙ ((λ i. P (stands_next i) (found i) (s + 1)) ∙ sym (ap Q length_now))

    pub counts : after.meter ≡ capped (first_count + executions job rows)
    counts =
        let P : ℕ → ℕ = λ n. capped (first_count + executions_below job rows n) in
        counted_next ∙ sym (ap P length_now)

-- a run is past none of its ends
pub ends_by_limit : {V M : Type 0} (job : Job V M) (rows : Rows) (places first_count s : ℕ) (p : Progress V M)
    → IsRunning job rows places first_count s p → 0 < s → s ≡ job.limit → ⊥
ends_by_limit job rows places first_count s p running some limit_is =
    let t = ends_at_limit job rows (s - 1) (omega arith) in
    let f = running.goes_on (s - 1) (omega arith) in
    let k : true ≡ false = sym t ∙ f in cc
