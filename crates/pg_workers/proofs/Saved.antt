-- Partitions that are lost go on elsewhere, and those that are here are saved.
use Rattle.std.proofs.Common.{◌≡◌, ◌≢◌, ℕ, zero, suc, ◌+◌, ◌<◌, ◌≤◌, ◌^◌, Bool, true, false, List, [], ◌∷◌, ◌++◌, length}
use Rattle.std.proofs.Common.{map, take, refl, ap, sym, ◌∙◌, subst, subst₂, arith, Option, None, Some, Result, Ok, inl, inr}
use Rattle.std.specs.Prelude.{◌==◌}
use Rattle.std.specs.List.{list_all}
use Rattle.std.proofs.lemmas.Bool.{and_parts, cases_eq, eqb-true}
use Rattle.std.proofs.lemmas.Fmt.{decimal_injective}
use Rattle.std.proofs.lemmas.List.{append-nil, get_or-set_other, get_or-set_same, length-set}
use Rattle.std.proofs.lemmas.List.FromFn.{length-map-range_with_len}
use Rattle.std.proofs.lemmas.List.Folds.{list_all-append}
use Rattle.std.proofs.lemmas.Option.{same_Some}
use Rattle.pg_checkpoint.specs.Loading.{Asked, IsLoaded, key_of, part_coding}
use Rattle.pg_checkpoint.specs.declared.loading.Loaded.TheVariants.{Found}
use Rattle.pg_checkpoint.proofs.Recovered.{found_holds}
use Rattle.pg_checkpoint.specs.Records.{AreCodable, own_records}
use Rattle.pg_checkpoint.specs.Shelf.{Fades, IsGot, IsPut, ShelfState, at_key}
use Rattle.pg_core.specs.Closing.{ClosesRight, HasClosed}
use Rattle.pg_core.specs.Losing.{IsRestored, IsShareFound, place_found, with_event}
use Rattle.pg_core.specs.Progress.{HoldsAt, IsPartAt, IsRight, Progress, kept_for, part_at}
use Rattle.pg_graph.specs.Rows.{Rows}
use Rattle.pg_core.specs.Handed.{Limits, is_anew}
use Rattle.pg_core.specs.Handed.{Reaches, State, after, after_all, first_state, is_allowed, place_at, saved_at, Closed}
use Rattle.pg_core.specs.Handed.{Next, Ended, Event, Close, Host, Lose, Restore, Save, Step}
use Rattle.pg_core.proofs.Handed.{AreNear-from_Reaches}
use Rattle.pg_model.specs.Job.{Job}
use Rattle.pg_model.specs.Run.{run_length}
use Rattle.pg_model.specs.Superstep.{capped}
use Rattle.pg_workers_rounds.specs.Handed.{HoldsShare, PartState, PartRows}
use Rattle.pg_workers.specs.Losses.{AreFated, Fated, Trusts, as_reported}
use Rattle.pg_workers.specs.Meaning.{Meaning, job_of_meaning}
use Rattle.pg_workers.specs.Recovering.{IsFoundRight}
use Rattle.pg_workers.specs.Running.{AreSaved, Coordination, Happens, IsRunning, IsSaved}
use Rattle.pg_workers.proofs.Going.{job_stays, running_after, running_quiet}

-- ---- events that move no part

pub happens_event : {P C A V M : Type 0} (event : Event) (a b : Progress P C A V M) → b ≡ with_event event a → Happens event a b
happens_event event a b is = record {
  same = record {
    program_is = ap (λ core. core.program) is;
    combiner_is = ap (λ core. core.combiner) is;
    master_is = ap (λ core. core.master) is;
    graph_is = ap (λ core. core.graph) is;
    limits_are = ap (λ core. core.limits) is;
    run_is = ap (λ core. core.run) is;
  };
  state_is = ap (λ core. core.state) is;
  history_is = ap (λ core. core.history) is;
}

pub happens_restore : {P C A V M : Type 0} (combining : Option _) (p : ℕ) (found : Option (PartState V M)) (a b : Progress P C A V M)
    → IsRestored combining p found a b → Happens (Restore p (place_found found)) a b
happens_restore combining p found a b restored = record {
  same = record {
    program_is = ap (λ core. core.program) restored.core_is;
    combiner_is = ap (λ core. core.combiner) restored.core_is;
    master_is = ap (λ core. core.master) restored.core_is;
    graph_is = ap (λ core. core.graph) restored.core_is;
    limits_are = ap (λ core. core.limits) restored.core_is;
    run_is = ap (λ core. core.run) restored.core_is;
  };
  state_is = ap (λ core. core.state) restored.core_is;
  history_is = ap (λ core. core.history) restored.core_is;
}

pub happens_close : {P C A V M : Type 0} (closed : Closed) (a b : Progress P C A V M) → HasClosed closed a b → Happens (Close closed) a b
happens_close closed a b has = record {
  same = record {
    program_is = ap (λ core. core.program) has.core_is;
    combiner_is = ap (λ core. core.combiner) has.core_is;
    master_is = ap (λ core. core.master) has.core_is;
    graph_is = ap (λ core. core.graph) has.core_is;
    limits_are = ap (λ core. core.limits) has.core_is;
    run_is = ap (λ core. core.run) has.core_is;
  };
  state_is = ap (λ core. core.state) has.core_is;
  history_is = ap (λ core. core.history) has.core_is;
}

-- where a partition goes on from a checkpoint, a shelf that may be trusted is honest
trusts_found : (honest : Bool) (history : List Event) (p r : ℕ) → Trusts honest (history ++ Restore p r ∷ []) → r ≢ 0 → honest ≡ true
trusts_found true history p r trusts some = refl
trusts_found false history p r trusts some =
    let last : list_all is_anew (Restore p r ∷ []) ≡ true = (and_parts _ _ (sym (list_all-append is_anew history (Restore p r ∷ [])) ∙ trusts)).1 in
    absurd (some (eqb-true r 0 (and_parts (r == 0) true last).0))

-- ---- fading

take_twice : {X : Type 0} (a b : ℕ) (xs : List X) → (n : ℕ) × (take b (take a xs) ≡ take n xs)
take_twice zero zero xs = (0, refl)
take_twice zero (suc b) xs = (0, refl)
take_twice (suc a) zero xs = (0, refl)
take_twice (suc a) (suc b) [] = (0, refl)
take_twice (suc a) (suc b) (x ∷ xs) = let rest = take_twice a b xs in (suc rest.0, ap (λ l. x ∷ l) rest.1)

fades_on : (bytes : List ℕ) (once twice : Option (List ℕ)) → Fades (Some bytes) once → Fades once twice → Fades (Some bytes) twice
fades_on bytes once None a b = tt
fades_on bytes None (Some less) a b = absurd b
fades_on bytes (Some some) (Some less) a b =
    let both = take_twice a.0 b.0 bytes in
    (both.0, b.1 ∙ (ap (take b.0) a.1 ∙ both.1))

-- another partition has another key
tail_of : List ℕ → List ℕ
tail_of [] = []
tail_of (x ∷ xs) = xs

keys_apart : (p q : ℕ) → p < 2 ^ 64 → q < 2 ^ 64 → p ≢ q → key_of p ≢ key_of q
unfolding tail_of
keys_apart p q small_p small_q apart same = apart (decimal_injective p q small_p small_q (ap tail_of same))

-- ---- what was saved

module _ {P C A V M : Type 0} (own : Meaning P C A V M) (job : Job V M) (rows : Rows) (n run : ℕ) where
  abbrev Saved : ℕ → ℕ → Option (List ℕ) → Type 0
  Saved p r remaining = IsSaved own job rows n run p r remaining

  saved_fades : (p r : ℕ) (once twice : Option (List ℕ)) → Fades once twice → Saved p r once → Saved p r twice
  saved_fades p r once twice fades is = record {
    part = is.part;
    kept = is.kept;
    within = is.within;
    holds = is.holds;
    codable = is.codable;
    fits = is.fits;
    faded = fades_on (part_coding own.value own.message run is.part) once twice is.faded fades;
  }

  -- a look at the shelf leaves what is left of it
  pub all_fade : (state : State) (before now : ShelfState) → ((key : List ℕ) → Fades (at_key before key) (at_key now key))
      → AreSaved own job rows n run state before → AreSaved own job rows n run state now
  all_fade state before now fades all p r within at =
      saved_fades p r (at_key before (key_of p)) (at_key now (key_of p)) (fades (key_of p)) (all p r within at)

  -- one more is saved
  pub one_saved : n ≤ 64 → (state : State) (before now : ShelfState) (p r : ℕ) (kept : Option Rows) (part : PartState V M) → p < length state.saved
      → place_at p state ≡ Some r → r ≤ run_length job rows → HoldsShare job kept rows n p r part
      → AreCodable own.is_value own.is_message (own_records part) → length (part_coding own.value own.message run part) < 2 ^ 64
      → p < n → Fades (Some (part_coding own.value own.message run part)) (at_key now (key_of p))
      → ((other : List ℕ) → other ≢ key_of p → Fades (at_key before other) (at_key now other))
      → AreSaved own job rows n run state before → AreSaved own job rows n run (after state (Save p)) now
  one_saved few state before now p r kept part inside place within holds codable fits mine faded others all q s below at =
      elim (cases_eq q p) [
        | inl same ↦ (
            let saved : saved_at p (after state (Save p)) ≡ Some r = get_or-set_same state.saved p (place_at p state) None inside ∙ place in
            let is : r ≡ s = same_Some r s (sym saved ∙ (ap (λ (u : ℕ). saved_at u (after state (Save p))) (sym same) ∙ at)) in
            subst₂ (λ (u k : ℕ). Saved u k (at_key now (key_of u))) (sym same) is (record {
              part = part;
              kept = kept;
              within = within;
              holds = holds;
              codable = codable;
              fits = fits;
              faded = faded;
            })
            )
        | inr apart ↦ saved_fades q s (at_key before (key_of q)) (at_key now (key_of q))
            (others (key_of q) (keys_apart q p (omega (arith, below, few)) (omega (arith, mine, few)) apart))
            (all q s below (sym (get_or-set_other state.saved p q (place_at p state) None apart) ∙ at))
      ]

-- there is a place of what was saved for each partition
saved_after : (state : State) (event : Event) → length (after state event).saved ≡ length state.saved
saved_after state (Step p) = refl
saved_after state (Lose w) = refl
saved_after state (Host p w) = refl
saved_after state (Restore p r) = refl
saved_after state (Save p) = length-set state.saved p (place_at p state)
saved_after state (Close Next) = refl
saved_after state (Close Ended) = refl

saved_after_all : (state : State) (events : List Event) → length (after_all state events).saved ≡ length state.saved
saved_after_all state [] = refl
saved_after_all state (event ∷ events) = saved_after_all (after state event) events ∙ saved_after state event

saved_many : (n w : ℕ) (events : List Event) (to : State) → Reaches (first_state n w) events to → length to.saved ≡ n
saved_many n w events to leads =
    ap (λ (s : State). length s.saved) (sym leads.leads)
    ∙ (saved_after_all (first_state n w) events ∙ length-map-range_with_len (λ (p : ℕ). None) 0 n)

-- a part that holds its share somewhere does so at its place
holds_at : {V M : Type 0} (job : Job V M) (kept : Option Rows) (rows : Rows) (n p r : ℕ) (place : Option ℕ) (part : PartState V M) → place ≡ Some r
    → HoldsAt job rows kept n p place part → HoldsShare job kept rows n p r part
holds_at job kept rows n p r place part at holds = subst (λ (o : Option ℕ). HoldsAt job rows kept n p o part) at holds

module _ {P C A V M : Type 0} (own : Meaning P C A V M) (fated : Fated) (first : Progress P C A V M) where
  -- the shelf was looked at
  pub running_got : {X : Type 0} (before now : ShelfState) (result : Result X _) (c : Coordination P C A V M) → IsGot before result now
      → IsRunning own fated first before c → IsRunning own fated first now c
  running_got before now result c got runs = record {
    same = runs.same;
    leads = runs.leads;
    losses_are = runs.losses_are;
    fated_are = runs.fated_are;
    right = λ kept right trusts. runs.right kept right (subst (λ (b : Bool). Trusts b c.core.history) got.counted.honest trusts);
    calls_are = λ kept right trusts. runs.calls_are kept right (subst (λ (b : Bool). Trusts b c.core.history) got.counted.honest trusts);
    saved = λ is kept right.
        let was : before.is_honest ≡ true = sym got.counted.honest ∙ is in
        all_fade own (job_of_meaning own first) first.graph first.limits.partitions first.run c.core.state before now (got.fades was) (runs.saved was kept right);
  }

  -- a part that is here was saved, where the put was answered
  pub running_save : (before now : ShelfState) (a b : Coordination P C A V M) (p : ℕ) (part : PartState V M) {X : Type 0} (x : X)
      → is_allowed a.core.state (Save p) ≡ true → a.core.limits.partitions ≤ 64 → p < a.core.limits.partitions
      → part_at p a.core ≡ Some part → IsPartAt a.core.limits.partitions a.core.state p part
      → IsPut (key_of part.part_run.partition) (part_coding own.value own.message a.core.run part) before (Ok x) now
      → AreCodable own.is_value own.is_message (own_records part) → length (part_coding own.value own.message a.core.run part) < 2 ^ 64
      → b.core ≡ with_event (Save p) a.core
      → ((kept : Option Rows) → IsRight (job_of_meaning own a.core) kept a.core → IsRight (job_of_meaning own a.core) kept b.core)
      → b.losses ≡ a.losses → b.calls ≡ a.calls → IsRunning own fated first before a → IsRunning own fated first now b
  running_save before now a b p part x allowed few mine here there put codable fits is keeps losses calls runs =
      let happens : Happens (Save p) a.core b.core = happens_event (Save p) a.core b.core is in
      let many : length a.core.state.saved ≡ a.core.limits.partitions = saved_many a.core.limits.partitions a.core.limits.workers a.core.history a.core.state
      runs.leads in
      let near = AreNear-from_Reaches a.core.limits.partitions a.core.limits.workers a.core.history a.core.state runs.leads in
      let n_is : a.core.limits.partitions ≡ first.limits.partitions = ap (λ (l : Limits). l.partitions) runs.same.limits_are in
      let run_is : a.core.run ≡ first.run = runs.same.run_is in
      let rows_are : a.core.graph ≡ first.graph = runs.same.graph_is in
      running_after own fated first (Save p) before now a b (record {
        allowed = allowed;
        happens = happens;
        honest = put.counted.honest;
        right = λ kept right trusts is. keeps kept is;
        losses_are = ap (map as_reported) losses ∙ sym (append-nil (map as_reported a.losses));
        fated_are = λ are. subst (AreFated fated 0) (sym losses) are;
        calls_are = λ kept x right trusts was. let none : x ≡ x + 0 = omega arith in calls ∙ (was ∙ ap (λ (k : ℕ). capped k) none);
        saved = λ honest kept first_right right all.
            let holds : HoldsShare (job_of_meaning own first) (kept_for kept a.core p) first.graph first.limits.partitions p part.part_run.place part =
            subst₂ (λ (g : Rows) (n : ℕ). HoldsShare (job_of_meaning own first) (kept_for kept a.core p) g n p part.part_run.place part) rows_are n_is
            (holds_at (job_of_meaning own first) (kept_for kept a.core p) a.core.graph a.core.limits.partitions p part.part_run.place
            (place_at p a.core.state) part there.place_is
            (right.parts p part here)) in
            let ended : a.core.state.current + 1 ≤ run_length (job_of_meaning own first) first.graph =
            subst (λ (g : Rows). a.core.state.current + 1 ≤ run_length (job_of_meaning own first) g) rows_are (omega (arith, right.within)) in
            let key : key_of part.part_run.partition ≡ key_of p = ap key_of there.partition_is in
            let coding : part_coding own.value own.message a.core.run part ≡ part_coding own.value own.message first.run part =
            ap (λ (run : ℕ). part_coding own.value own.message run part) run_is in
            let faded : Fades (Some (part_coding own.value own.message first.run part)) (at_key now (key_of p)) =
            subst₂ (λ (bytes key : List ℕ). Fades (Some bytes) (at_key now key)) coding key (put.kept honest) in
            let others : (other : List ℕ) → other ≢ key_of p → Fades (at_key before other) (at_key now other) =
            λ other apart. put.others honest other (λ e. apart (e ∙ key)) in
            subst (λ (s : State). AreSaved own (job_of_meaning own first) first.graph first.limits.partitions first.run s now) (sym happens.state_is)
            (one_saved own (job_of_meaning own first) first.graph first.limits.partitions first.run
            (omega (arith, n_is, few)) a.core.state before now p part.part_run.place
            (kept_for kept a.core p) part (omega (arith, mine, many)) there.place_is
            (omega (arith, near.places p part.part_run.place there.place_is, ended)) holds codable
            (subst (λ (l : List ℕ). length l < 2 ^ 64) coding fits) (omega (arith, mine, n_is)) faded others all);
      }) runs

  -- the open superstep was closed
  pub running_close : (shelf : ShelfState) (a b : Coordination P C A V M) (closed : Closed) → is_allowed a.core.state (Close closed) ≡ true
      → HasClosed closed a.core b.core
      → ((kept : Option Rows) → IsRight (job_of_meaning own a.core) kept a.core → ClosesRight (job_of_meaning own a.core) kept closed a.core b.core)
      → b.losses ≡ a.losses → b.calls ≡ a.calls → IsRunning own fated first shelf a → IsRunning own fated first shelf b
  running_close shelf a b closed allowed has keeps losses calls runs =
      running_quiet own fated first (Close closed) shelf a b allowed (happens_close closed a.core b.core has)
      (λ kept right trusts is. (keeps kept is).right) losses calls refl (λ needs lost. refl) (unsaved closed) runs
    where
      unsaved : (closed : Closed) → (after a.core.state (Close closed)).saved ≡ a.core.state.saved
      unsaved Next = refl
      unsaved Ended = refl

  -- a partition goes on at a worker
  pub running_host : (shelf : ShelfState) (a b : Coordination P C A V M) (p w : ℕ) → is_allowed a.core.state (Host p w) ≡ true
      → b.core ≡ with_event (Host p w) a.core
      → ((kept : Option Rows) → IsRight (job_of_meaning own a.core) kept a.core → IsRight (job_of_meaning own a.core) kept b.core)
      → b.losses ≡ a.losses → b.calls ≡ a.calls → IsRunning own fated first shelf a → IsRunning own fated first shelf b
  running_host shelf a b p w allowed is keeps losses calls runs =
      running_quiet own fated first (Host p w) shelf a b allowed (happens_event (Host p w) a.core b.core is)
      (λ kept right trusts is. keeps kept is) losses calls refl (λ needs lost. refl) refl runs

  -- it goes on from what was found of it
  pub running_restore : (shelf : ShelfState) (a b : Coordination P C A V M) (p : ℕ) (found : Option (PartState V M))
      → is_allowed a.core.state (Restore p (place_found found)) ≡ true → IsRestored (own.combining a.core.combiner) p found a.core b.core
      → ((kept : Option Rows) → IsRight (job_of_meaning own a.core) kept a.core → IsShareFound (job_of_meaning own a.core) a.core p found
      → IsRight (job_of_meaning own a.core) kept b.core)
      → b.losses ≡ a.losses → b.calls ≡ a.calls → IsRunning own fated first shelf a → IsFoundRight own first shelf a.core p found
      → IsRunning own fated first shelf b
  running_restore shelf a b p found allowed restored keeps losses calls runs found_right =
      running_quiet own fated first (Restore p (place_found found)) shelf a b allowed
      (happens_restore (own.combining a.core.combiner) p found a.core b.core restored)
      (λ kept right trusts is. keeps kept is
      (subst (λ (j : Job V M). IsShareFound j a.core p found) (sym (job_stays own runs.same)) (found_right kept right trusts)))
      losses calls refl (λ needs lost. refl) refl runs

  -- what a shelf gave of a partition is right, if it may be trusted once the partition goes on from it
  pub found_right : (shelf : ShelfState) (c : Coordination P C A V M) (asked : Asked V M) (p r : ℕ) (part : PartState V M) → IsRunning own fated first shelf c
      → asked.run ≡ c.core.run → asked.rows ≡ record { graph = c.core.graph; partition = p; partitions = c.core.limits.partitions }
      → (job_of_meaning own c.core).program ≡ asked.program → (job_of_meaning own c.core).missing ≡ asked.missing → (job_of_meaning own c.core).aggregators ≡ asked.aggregators
      → p < c.core.limits.partitions → saved_at p c.core.state ≡ Some r → 0 < r → part.part_run.place ≡ r
      → IsLoaded own.is_value own.value own.is_message own.message asked (at_key shelf (key_of p)) (Found part)
      → IsFoundRight own first shelf c.core p (Some part)
  found_right shelf c asked p r part runs run rows program missing aggregators mine at some place loaded kept right trusts =
      let job : Job V M = job_of_meaning own first in
      let same : job ≡ job_of_meaning own c.core = sym (job_stays own runs.same) in
      let honest : shelf.is_honest ≡ true = trusts_found shelf.is_honest c.core.history p part.part_run.place trusts (λ none. omega (arith, none, place, some)) in
      let was : IsSaved own job first.graph first.limits.partitions first.run p r (at_key shelf (key_of p)) =
      runs.saved honest kept right p r (omega (arith, mine, ap (λ (l : Limits). l.partitions) runs.same.limits_are)) at in
      by (at_key shelf (key_of p)) refl was loaded same
    where
      by : (remaining : Option (List ℕ)) → at_key shelf (key_of p) ≡ remaining
          → IsSaved own (job_of_meaning own first) first.graph first.limits.partitions first.run p r (at_key shelf (key_of p))
          → IsLoaded own.is_value own.value own.is_message own.message asked (at_key shelf (key_of p)) (Found part) → job_of_meaning own first ≡ job_of_meaning own c.core
          → HoldsShare (job_of_meaning own first) None c.core.graph c.core.limits.partitions p part.part_run.place part
      by None is was loaded same = absurd
          (subst (λ (o : Option (List ℕ)). IsLoaded own.is_value own.value own.is_message own.message asked o (Found part)) is loaded)
      by (Some bytes) is was loaded same =
          let job : Job V M = job_of_meaning own first in
          let found = subst (λ (o : Option (List ℕ)). IsLoaded own.is_value own.value own.is_message own.message asked o (Found part)) is loaded in
          let rows_are : asked.rows ≡ record { graph = first.graph; partition = p; partitions = first.limits.partitions } =
          rows ∙ (λ i. record { graph = runs.same.graph_is i; partition = p; partitions = (runs.same.limits_are i).partitions }) in
          let held : HoldsShare job was.kept asked.rows.graph asked.rows.partitions asked.rows.partition r was.part =
          subst (λ (o : PartRows). HoldsShare job was.kept o.graph o.partitions o.partition r was.part) (sym rows_are) was.holds in
          let within : r ≤ run_length job asked.rows.graph = subst (λ (o : PartRows). r ≤ run_length job o.graph) (sym rows_are) was.within in
          let run_is : first.run ≡ asked.run = sym runs.same.run_is ∙ sym run in
          let fits : length (part_coding own.value own.message asked.run was.part) < 2 ^ 64 =
          subst (λ (k : ℕ). length (part_coding own.value own.message k was.part) < 2 ^ 64) run_is was.fits in
          let faded : Fades (Some (part_coding own.value own.message asked.run was.part)) (Some bytes) =
          subst₂ (λ (k : ℕ) (o : Option (List ℕ)). Fades (Some (part_coding own.value own.message k was.part)) o) run_is is was.faded in
          let holds : HoldsShare job None asked.rows.graph asked.rows.partitions asked.rows.partition r part =
          found_holds own.is_value own.value own.is_message own.message asked job was.kept r was.part part bytes
          (ap (λ (j : Job V M). j.program) same ∙ program) (ap (λ (j : Job V M). j.missing) same ∙ missing)
          (ap (λ (j : Job V M). j.aggregators) same ∙ aggregators)
          within held was.codable fits faded found in
          subst₂ (λ (o : PartRows) (k : ℕ). HoldsShare job None o.graph o.partitions o.partition k part) rows (sym place) holds
