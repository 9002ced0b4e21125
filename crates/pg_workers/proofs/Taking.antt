-- Parts that are taken for a round, and what workers are assigned.
use Rattle.std.proofs.Common.{◌≡◌, ℕ, ◌+◌, ◌<◌, ◌≤◌, true, List, [], ◌∷◌, ◌++◌, length, get_or, refl, ap, sym, ◌∙◌, subst, arith, Option, Some}
use Rattle.std.specs.Prelude.{All}
use Rattle.std.proofs.lemmas.Bool.{and_parts}
use Rattle.std.proofs.lemmas.List.Elements.{All-nil, All-push, All-weaker}
use Rattle.std.proofs.lemmas.List.Quantifiers.{all_pairs_push}
use Rattle.std.proofs.lemmas.Option.{same_Some}
use Rattle.pg_core.specs.Progress.{IsPartAt, IsRight, HasStepInput, Progress, is_ready, without_part}
use Rattle.pg_graph.specs.Rows.{Rows}
use Rattle.pg_core.specs.Handed.{host_of, is_allowed, place_at, Step}
use Rattle.pg_model.specs.Job.{Job}
use Rattle.pg_workers_rounds.specs.Handed.{PartState}
use Rattle.pg_workers.specs.Meaning.{Meaning, job_of_meaning}
use Rattle.pg_workers.specs.Rounds.{AreAssigned, IsAssigned, IsEarlier, IsRest, IsTaken, Borrows, TakesParts}
use Rattle.pg_workers_rounds.specs.Round.{RoundOf}
use Rattle.pg_workers_rounds.specs.declared.threads.Assignment.{Assignment}

module _ {P C A V M : Type 0} (own : Meaning P C A V M) where
  -- ---- what is left of a core

  pub rest_first : (core : Progress P C A V M) → IsRest own core core
  rest_first core = record { core_is = refl; right = λ kept right. right }

  pub rest_then : (before mid now : Progress P C A V M) → IsRest own before mid → IsRest own mid now → IsRest own before now
  rest_then before mid now a b = record {
    core_is = b.core_is ∙ ap (λ (c : Progress P C A V M). record c { parts = now.parts }) a.core_is;
    right = λ kept right.
        subst (λ (j : Job V M). IsRight j kept mid → IsRight j kept now) (ap (job_of_meaning own) a.core_is) (b.right kept) (a.right kept right);
  }

  -- a core stays right with these parts
  abbrev StaysRight : Progress P C A V M → List (Option (PartState V M)) → Type 0
  StaysRight core parts =
      (kept : Option Rows) → IsRight (job_of_meaning own core) kept core → IsRight (job_of_meaning own core) kept (record core { parts = parts })

  stays_right : (before rest : Progress P C A V M) → IsRest own before rest → StaysRight before rest.parts
  stays_right before rest remaining kept right =
      subst (λ (c : Progress P C A V M). IsRight (job_of_meaning own before) kept c) remaining.core_is (remaining.right kept right)

  -- a part that was taken from what is left was so from the whole
  taken_whole : (before : Progress P C A V M) (parts : List (Option (PartState V M))) (superstep worker : ℕ) (part : PartState V M)
      → StaysRight before parts → IsTaken own (record before { parts = parts }) superstep worker part → IsTaken own before superstep worker part
  taken_whole before parts superstep worker part rightly is = record {
    within = is.within;
    host_is = is.host_is;
    allowed = is.allowed;
    at = is.at;
    place_is = is.place_is;
    small = is.small;
    step_input = λ kept right.
        let step_input = is.step_input kept (rightly kept right) in
        record { holds = step_input.holds; step_input = step_input.step_input; warm = step_input.warm; open_or_before = step_input.open_or_before };
  }

  pub taken_before : (before rest : Progress P C A V M) (superstep worker : ℕ) (part : PartState V M) → IsRest own before rest
      → IsTaken own rest superstep worker part → IsTaken own before superstep worker part
  taken_before before rest superstep worker part remaining is =
      taken_whole before rest.parts superstep worker part (stays_right before rest remaining)
      (subst (λ (c : Progress P C A V M). IsTaken own c superstep worker part) remaining.core_is is)

  -- ---- one worker's parts

  pub takes_none : (core : Progress P C A V M) (superstep worker : ℕ) → TakesParts own core core superstep worker []
  takes_none core superstep worker = record { taken = rest_first core; each = All-nil (IsTaken own core superstep worker) }

  pub takes_more : (first core now : Progress P C A V M) (p superstep worker : ℕ) (part : PartState V M) (parts : List (PartState V M))
      → TakesParts own first core superstep worker parts → p < core.limits.partitions → host_of p core.state ≡ worker
      → place_at p core.state ≡ Some superstep → is_ready core p ≡ true
      → now ≡ without_part p core → part.part_run.place ≤ core.state.current → core.state.current < 10000
      → IsPartAt core.limits.partitions core.state p part
      → ((kept : Option Rows) → IsRight (job_of_meaning own core) kept core → IsRight (job_of_meaning own core) kept now
      × HasStepInput (job_of_meaning own core) kept core p part.part_run.place part)
      → TakesParts own first now superstep worker (parts ++ part ∷ [])
  takes_more first core now p superstep worker part parts was within host place ready is reached small at borrows =
      let mine : part.part_run.partition ≡ p = at.partition_is in
      let there : part.part_run.place ≡ superstep = same_Some part.part_run.place superstep (sym at.place_is ∙ place) in
      let remaining : IsRest own core now = record {
        core_is = is ∙ ap (λ l. record core { parts = l }) (sym (ap (λ (c : Progress P C A V M). c.parts) is));
        right = λ kept right. (borrows kept right).0;
      } in
      let one : IsTaken own core superstep worker part = record {
        within = subst (λ (q : ℕ). q < core.limits.partitions) (sym mine) within;
        host_is = ap (λ (q : ℕ). host_of q core.state) mine ∙ host;
        allowed = ap (λ (q : ℕ). is_allowed core.state (Step q)) mine ∙ (and_parts (is_allowed core.state (Step p)) _ ready).0;
        at = subst (λ (q : ℕ). IsPartAt core.limits.partitions core.state q part) (sym mine) at;
        place_is = there;
        small = omega (arith, reached, small, there);
        step_input = λ kept right.
            subst (λ (q : ℕ). HasStepInput (job_of_meaning own core) kept core q part.part_run.place part) (sym mine) (borrows kept right).1;
      } in
      record {
        taken = rest_then first core now was.taken remaining;
        each = All-push (IsTaken own first superstep worker) parts part was.each (taken_before first core superstep worker part was.taken one);
      }

  -- ---- all workers'

  pub assigned_first : (core : Progress P C A V M) (superstep : ℕ) → AreAssigned own core superstep 0 core []
  assigned_first core superstep = record {
    taken = rest_first core;
    rise = λ i j d less within. absurd (omega (arith, within));
    each = All-nil (IsAssigned own core superstep);
    workers = All-nil (λ (a : Assignment V M). a.worker < 0);
  }

  below_more : (k : ℕ) (assignments : List (Assignment V M)) → All (λ (a : Assignment V M). a.worker < k) assignments
      → All (λ (a : Assignment V M). a.worker < k + 1) assignments
  below_more k assignments below =
      All-weaker (λ (a : Assignment V M). a.worker < k) (λ (a : Assignment V M). a.worker < k + 1) (λ a less. omega (arith, less)) assignments below

  pub assigned_none : (first core now : Progress P C A V M) (superstep k : ℕ) (assignments : List (Assignment V M))
      → AreAssigned own first superstep k core assignments → IsRest own core now → AreAssigned own first superstep (k + 1) now assignments
  assigned_none first core now superstep k assignments was remaining = record {
    taken = rest_then first core now was.taken remaining;
    rise = was.rise;
    each = was.each;
    workers = below_more k assignments was.workers;
  }

  pub assigned_more : (first core now : Progress P C A V M) (superstep k : ℕ) (assignments : List (Assignment V M)) (one : Assignment V M)
      → AreAssigned own first superstep k core assignments → TakesParts own core now superstep one.worker one.parts.items → one.worker ≡ k
      → 0 < length one.parts.items → AreAssigned own first superstep (k + 1) now (assignments ++ one ∷ [])
  assigned_more first core now superstep k assignments one was takes worker some = record {
    taken = rest_then first core now was.taken takes.taken;
    rise = all_pairs_push IsEarlier assignments one was.rise
        (λ i d within. subst (λ (w : ℕ). (get_or assignments i d).worker < w) (sym worker) (was.workers i d within));
    each = All-push (IsAssigned own first superstep) assignments one was.each (record {
      some = some;
      parts = All-weaker (IsTaken own core superstep one.worker) (IsTaken own first superstep one.worker)
          (λ part is. taken_before first core superstep one.worker part was.taken is) one.parts.items takes.each;
    });
    workers = All-push (λ (a : Assignment V M). a.worker < k + 1) assignments one (below_more k assignments was.workers) (omega (arith, worker));
  }

  -- ---- what a round borrows

  borrows_whole : (before : Progress P C A V M) (parts : List (Option (PartState V M))) (superstep attempt : ℕ) (round : RoundOf M)
      → StaysRight before parts → Borrows own (record before { parts = parts }) superstep attempt round → Borrows own before superstep attempt round
  borrows_whole before parts superstep attempt round rightly borrows = record {
    superstep_is = borrows.superstep_is;
    attempt_is = borrows.attempt_is;
    registry_is = borrows.registry_is;
    logs_are = borrows.logs_are;
    old_logs_are = borrows.old_logs_are;
    old_visible_is = borrows.old_visible_is;
    shows = λ kept right. borrows.shows kept (rightly kept right);
  }

  pub borrows_before : (before rest : Progress P C A V M) (superstep attempt : ℕ) (round : RoundOf M) → IsRest own before rest
      → Borrows own rest superstep attempt round → Borrows own before superstep attempt round
  borrows_before before rest superstep attempt round remaining borrows =
      borrows_whole before rest.parts superstep attempt round (stays_right before rest remaining)
      (subst (λ (c : Progress P C A V M). Borrows own c superstep attempt round) remaining.core_is borrows)
