-- Workers that fell are recorded: each at the superstep of its round, which is the least one of what it hosted.
use Rattle.std.proofs.Common.{◌≡◌, ◌≢◌, ℕ, zero, suc, ◌+◌, ◌≤◌, Bool, true, false, cond, List, [], ◌∷◌, ◌++◌}
use Rattle.std.proofs.Common.{length, map, get_or, refl, ap, sym, ◌∙◌, subst, arith, Option, None, Some, inl, inr}
use Rattle.std.specs.Prelude.{◌==◌, nat_le, slice_index_or}
use Rattle.std.proofs.lemmas.Bool.{and_parts, cases_eq, eq-eqb, eqb-true, le-leb, leb-true, true≢false}
use Rattle.std.proofs.lemmas.List.{get_or-set_other, get_or-set_same, length-append, map-append}
use Rattle.std.proofs.lemmas.List.Elements.{All-head, All-tail, All-weaker}
use Rattle.pg_checkpoint.specs.Shelf.{ShelfState}
use Rattle.pg_core.specs.Losing.{HasFallen as HasLost}
use Rattle.pg_core.specs.Progress.{IsRight, Progress}
use Rattle.pg_graph.specs.Rows.{Rows}
use Rattle.pg_core.specs.Handed.{least_hosted, lesser, lost_by}
use Rattle.pg_core.specs.Handed.{Reaches, State, after, first_state, host_of, is_alive, is_allowed, place_at, Lose}
use Rattle.pg_core.proofs.Handed.{alive_within}
use Rattle.pg_core.proofs.Handed.{length-first, length-hosts_all, length-hosts_first, length-places_all, place_after_lose}
use Rattle.pg_model.specs.Superstep.{capped}
use Rattle.pg_workers.specs.Losses.{AreFated, Fated, WasFated, as_reported}
use Rattle.pg_workers.specs.Meaning.{Meaning, job_of_meaning}
use Rattle.pg_workers.specs.Recovering.{AreFalls, IsFall, LosesOn, Stands}
use Rattle.pg_workers.specs.Running.{Coordination, Happens}
use Rattle.pg_workers.specs.declared.counts.Loss.{Loss}
use Rattle.pg_workers.proofs.Going.{running_after}
use Rattle.pg_workers_rounds.specs.declared.cause.Cause.TheVariants.{Fate}

-- ---- the least place that a worker hosts

abbrev NoneBelow : ℕ → List (Option ℕ) → Type 0
NoneBelow s places = (q r : ℕ) → get_or places q None ≡ Some r → s ≤ r

lesser_first : (s : ℕ) (other : Option ℕ) → ((r : ℕ) → other ≡ Some r → s ≤ r) → lesser (Some s) other ≡ Some s
lesser_first s None least = refl
lesser_first s (Some r) least = by (nat_le s r) refl
  where
    by : (b : Bool) → nat_le s r ≡ b → Some (cond b s r) ≡ Some s
    by true is = refl
    by false is = absurd (true≢false (sym (le-leb s r (least r refl)) ∙ is))

lesser_last : (s : ℕ) (place : Option ℕ) → ((r : ℕ) → place ≡ Some r → s ≤ r) → lesser place (Some s) ≡ Some s
lesser_last s None least = refl
lesser_last s (Some r) least = by (nat_le r s) refl
  where
    by : (b : Bool) → nat_le r s ≡ b → Some (cond b r s) ≡ Some s
    by true is = let same : r ≡ s = omega (arith, leb-true r s is, least r refl) in ap Some same
    by false is = refl

lesser_from : (s : ℕ) (a b : Option ℕ) → ((r : ℕ) → a ≡ Some r → s ≤ r) → ((r : ℕ) → b ≡ Some r → s ≤ r) → (r : ℕ) → lesser a b ≡ Some r → s ≤ r
lesser_from s None b la lb r at = lb r at
lesser_from s (Some x) None la lb r at = la r at
lesser_from s (Some x) (Some y) la lb r at = by (nat_le x y) at
  where
    by : (t : Bool) → Some (cond t x y) ≡ Some r → s ≤ r
    by true at = la r at
    by false at = lb r at

least_from : (w s : ℕ) (hosts : List ℕ) (places : List (Option ℕ)) → NoneBelow s places → (r : ℕ) → least_hosted w hosts places ≡ Some r → s ≤ r
least_from w s [] places low r at = absurd (let k : None ≡ Some r = at in cc)
least_from w s (host ∷ hosts) [] low r at = absurd (let k : None ≡ Some r = at in cc)
least_from w s (host ∷ hosts) (place ∷ places) low r at = by (host == w) (least_from w s hosts places (λ q. low (suc q))) at
  where
    by : (b : Bool) → ((r : ℕ) → least_hosted w hosts places ≡ Some r → s ≤ r)
        → cond b (lesser place (least_hosted w hosts places)) (least_hosted w hosts places) ≡ Some r → s ≤ r
    by true rest at = lesser_from s place (least_hosted w hosts places) (low 0) rest r at
    by false rest at = rest r at

-- it is the place of a partition of the worker, where no partition is before that
least_is : (w s p : ℕ) (hosts : List ℕ) (places : List (Option ℕ)) → length hosts ≡ length places → slice_index_or hosts p 0 ≡ w
    → get_or places p None ≡ Some s → NoneBelow s places → least_hosted w hosts places ≡ Some s
least_is w s p [] [] each host at low = absurd (let k : None ≡ Some s = at in cc)
least_is w s p [] (place ∷ places) each host at low = absurd (omega (arith, each))
least_is w s p (first ∷ hosts) [] each host at low = absurd (omega (arith, each))
least_is w s zero (first ∷ hosts) (place ∷ places) each host at low =
    ap (λ (b : Bool). cond b (lesser place (least_hosted w hosts places)) (least_hosted w hosts places)) (eq-eqb first w host)
    ∙ (ap (λ (place : Option ℕ). lesser place (least_hosted w hosts places)) at
    ∙ lesser_first s (least_hosted w hosts places) (least_from w s hosts places (λ q. low (suc q))))
least_is w s (suc p) (first ∷ hosts) (place ∷ places) each host at low =
    by (first == w) (least_is w s p hosts places (omega (arith, each)) host at (λ q. low (suc q)))
  where
    by : (b : Bool) → least_hosted w hosts places ≡ Some s → cond b (lesser place (least_hosted w hosts places)) (least_hosted w hosts places) ≡ Some s
    by true rest = ap (lesser place) rest ∙ lesser_last s place (low 0)
    by false rest = rest

-- ---- fates

later_fated : (fated : Fated) (a b : ℕ) (loss : Loss) → a ≤ b → WasFated fated a loss → WasFated fated b loss
later_fated fated a b loss later was = record {
  attempt = was.attempt;
  partition = was.partition;
  early = omega (arith, was.early, later);
  falls = was.falls;
}

fated_more : (fated : Fated) (place : ℕ) (losses : List Loss) (loss : Loss) → AreFated fated place losses
    → (loss.cause ≡ Fate → WasFated fated (place + length losses) loss) → AreFated fated place (losses ++ loss ∷ [])
fated_more fated place [] loss before last = (λ is. later_fated fated (place + 0) place loss (omega arith) (last is), tt)
fated_more fated place (l ∷ losses) loss before last = (
  before.0,
  fated_more fated (place + 1) losses loss before.1
      (λ is. later_fated fated (place + suc (length losses)) (place + 1 + length losses) loss (omega arith) (last is)),
)

-- ---- one loss

module _ {P C A V M : Type 0} (core : Progress P C A V M)
    (leads : Reaches (first_state core.limits.partitions core.limits.workers) core.history core.state) where
  -- each partition has a host
  each_hosted : length core.state.hosts ≡ length core.state.places
  each_hosted =
      let first : State = first_state core.limits.partitions core.limits.workers in
      ap (λ (s : State). length s.hosts) (sym leads.leads)
      ∙ (length-hosts_all first core.history ∙ (length-hosts_first core.limits.partitions core.limits.workers
      ∙ (sym (length-first core.limits.partitions core.limits.workers)
      ∙ (sym (length-places_all first core.history) ∙ ap (λ (s : State). length s.places) leads.leads))))

  -- a loss leaves those that are to be recorded with it
  fall_still : (fated : Fated) (attempt w : ℕ) (loss : Loss) → is_allowed core.state (Lose w) ≡ true → IsFall fated attempt core.state loss
      → IsFall fated attempt (after core.state (Lose w)) loss
  fall_still fated attempt w loss allowed fall = record {
    lowest = λ q r at. fall.lowest q r (was q r (host_of q core.state == w) (sym (place_after_lose core.state w q each_hosted) ∙ at));
    there = λ alive. elim (cases_eq loss.worker w) [
      | inl same ↦ (
          let gone : is_alive w (after core.state (Lose w)) ≡ false =
          get_or-set_same core.state.alive w false false (alive_within core.state.alive w (and_parts _ _ allowed).1) in
          absurd (true≢false (sym alive ∙ (ap (λ (u : ℕ). is_alive u (after core.state (Lose w))) same ∙ gone)))
          )
      | inr other ↦ (
          let stands : Stands core.state loss = fall.there (sym (get_or-set_other core.state.alive w loss.worker false false other) ∙ alive) in
          record {
            partition = stands.partition;
            host_is = stands.host_is;
            place_is = place_after_lose core.state w stands.partition each_hosted
                ∙ (stays stands.partition (host_of stands.partition core.state == w) refl (λ e. other (sym stands.host_is ∙ e)) ∙ stands.place_is);
          }
          )
    ];
    struck = fall.struck;
  }
    where
      was : (q r : ℕ) (b : Bool) → cond b None (place_at q core.state) ≡ Some r → place_at q core.state ≡ Some r
      was q r true at = absurd (let k : None ≡ Some r = at in cc)
      was q r false at = at

      stays : (q : ℕ) (b : Bool) → (host_of q core.state == w) ≡ b → host_of q core.state ≢ w → cond b None (place_at q core.state) ≡ place_at q core.state
      stays q true is apart = absurd (apart (eqb-true (host_of q core.state) w is))
      stays q false is apart = refl

  -- its superstep is the least one of what its worker hosted
  lost_is : (fated : Fated) (attempt : ℕ) (loss : Loss) → is_allowed core.state (Lose loss.worker) ≡ true → IsFall fated attempt core.state loss
      → lost_by core.state (Lose loss.worker) ≡ as_reported loss ∷ []
  lost_is fated attempt loss allowed fall =
      let stands : Stands core.state loss = fall.there (and_parts _ _ allowed).1 in
      let least : least_hosted loss.worker core.state.hosts core.state.places ≡ Some loss.superstep =
      least_is loss.worker loss.superstep stands.partition core.state.hosts core.state.places each_hosted stands.host_is stands.place_is fall.lowest in
      ap (λ (place : Option ℕ). (loss.worker, place) ∷ []) least

pub happens_lose : {P C A V M : Type 0} (w : ℕ) (a b : Progress P C A V M) → HasLost w a b → Happens (Lose w) a b
happens_lose w a b lost = record {
  same = record {
    program_is = ap (λ core. core.program) lost.core_is;
    combiner_is = ap (λ core. core.combiner) lost.core_is;
    master_is = ap (λ core. core.master) lost.core_is;
    graph_is = ap (λ core. core.graph) lost.core_is;
    limits_are = ap (λ core. core.limits) lost.core_is;
    run_is = ap (λ core. core.run) lost.core_is;
  };
  state_is = ap (λ core. core.state) lost.core_is;
  history_is = ap (λ core. core.history) lost.core_is;
}

module _ {P C A V M : Type 0} (own : Meaning P C A V M) (fated : Fated) (first : Progress P C A V M) (shelf : ShelfState) where
  pub loses_none : (attempt : ℕ) (now : Coordination P C A V M) (loss : Loss) (rest : List Loss) → LosesOn own fated first shelf attempt now (loss ∷ rest)
      → LosesOn own fated first shelf attempt now rest
  loses_none attempt now loss rest on = record {
    runs = on.runs;
    before = on.before;
    falls = All-tail (IsFall fated attempt now.core.state) loss rest on.falls;
  }

  pub loses_one : (attempt : ℕ) (a b : Coordination P C A V M) (loss : Loss) (rest : List Loss) → is_allowed a.core.state (Lose loss.worker) ≡ true
      → HasLost loss.worker a.core b.core
      → ((kept : Option Rows) → IsRight (job_of_meaning own a.core) kept a.core → IsRight (job_of_meaning own a.core) kept b.core)
      → b.losses ≡ a.losses ++ loss ∷ [] → b.calls ≡ a.calls → LosesOn own fated first shelf attempt a (loss ∷ rest)
      → LosesOn own fated first shelf attempt b rest
  loses_one attempt a b loss rest allowed lost keeps losses calls on =
      let happens : Happens (Lose loss.worker) a.core b.core = happens_lose loss.worker a.core b.core lost in
      let fall : IsFall fated attempt a.core.state loss = All-head (IsFall fated attempt a.core.state) loss rest on.falls in
      let others : AreFalls fated attempt a.core.state rest = All-tail (IsFall fated attempt a.core.state) loss rest on.falls in
      record {
        runs = running_after own fated first (Lose loss.worker) shelf shelf a b (record {
          allowed = allowed;
          happens = happens;
          honest = refl;
          right = λ kept right trusts is. keeps kept is;
          losses_are = ap (map as_reported) losses ∙ (map-append as_reported a.losses (loss ∷ [])
              ∙ ap (λ l. map as_reported a.losses ++ l) (sym (lost_is a.core on.runs.leads fated attempt loss allowed fall)));
          fated_are = λ are. subst (AreFated fated 0) (sym losses)
              (fated_more fated 0 a.losses loss are (λ is. later_fated fated attempt (0 + length a.losses) loss (omega (arith, on.before)) (fall.struck is)));
          calls_are = λ kept x right trusts was. let none : x ≡ x + 0 = omega arith in calls ∙ (was ∙ ap (λ (k : ℕ). capped k) none);
          saved = λ is kept first_right was all q r within at.
              all q r within (ap (λ (s : State). slice_index_or s.saved q None) (sym happens.state_is) ∙ at);
        }) on.runs;
        before = subst (λ (l : List Loss). attempt ≤ length l) (sym losses) (omega (arith, length-append a.losses (loss ∷ []), on.before));
        falls = subst (λ (s : State). AreFalls fated attempt s rest) (sym happens.state_is)
            (All-weaker (IsFall fated attempt a.core.state) (IsFall fated attempt (after a.core.state (Lose loss.worker)))
            (λ l fall. fall_still a.core on.runs.leads fated attempt loss.worker l allowed fall) rest others);
      }
