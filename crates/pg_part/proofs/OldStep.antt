-- A step against an old run that has the superstep: which vertices it may leave unread.
use Rattle.std.proofs.Common.{◌≡◌, ℕ, zero, suc, ◌+◌, ◌<◌, ◌&&◌, not, Bool, true, false, List, [], ◌∷◌, map, None, Some}
use Rattle.std.proofs.Common.{is_some, refl, sym, ap, ap₂, ◌∙◌, arith, subst, subst₂, true≢false, inl, inr, ◌⊎◌}
use Rattle.std.specs.List.{AllByRecursion, range_with_len}
use Rattle.std.specs.List.Sorted.{IsStrictlySortedBy}
use Rattle.std.specs.Ordering.{nat_cmp}
use Rattle.std.proofs.lemmas.Bool.{cases_Bool, false_from_ne_true, true_from_ne_false}
use Rattle.pg_graph.specs.Rows.{Rows}
use Rattle.pg_inbox.specs.Alike.{AllSameAt, DeliverAlike}
use Rattle.pg_inbox.specs.Handed.{AreSameAt, MessageLists}
use Rattle.pg_inbox.specs.Inboxes.{Delivers}
use Rattle.pg_inbox.specs.LoggedBundle.{Slots}
use Rattle.pg_model.specs.Affected.{AreCandidates, HaveActive, IsSeenAgain, StandsAlike}
use Rattle.pg_model.specs.ByIds.{delivered_at, inbox_at, state_at}
use Rattle.pg_model.specs.Job.{Job}
use Rattle.pg_model.specs.Needed.{inputs_at, with_inbox_at}
use Rattle.pg_model.specs.Run.{present_at, run_length, view_at}
use Rattle.pg_model.specs.Share.{belongs}
use Rattle.pg_model.specs.Superstep.{has_id}
use Rattle.pg_model.proofs.LawsAffected.{AreCandidates-from, same_inbox-next}
use Rattle.pg_model.proofs.LawsDecides.{Decides-view_eq}
use Rattle.pg_model.proofs.LawsPresent.{inbox_at-first, inbox_at-next}
use Rattle.pg_model.specs.declared.view.View.{View}
use Rattle.pg_part_compute.specs.VertexPairs.{AreWorkItems, AreDirtyIds, IsStepDelta}
use Rattle.pg_part_routing.specs.Starting.{own}
use Rattle.pg_part_compute.specs.Diverged.{is_quiescent}
use Rattle.pg_part_compute.specs.Found.{IsFound, is_same_view}
use Rattle.pg_part_routing.specs.Routes.{AreSameIn, HasMessages, as_sends, bundle_sent, bundles_at, bundles_before}
use Rattle.pg_part.specs.StepInput.{HasOldLogs}
use Rattle.pg_part.specs.PartRun.{PartRunState, Holds}
use Rattle.pg_part_compute.specs.declared.execution.StepDelta.{StepDelta}
use Rattle.pg_part_compute.specs.declared.found.VertexPair.{VertexPair}
use Rattle.pg_part_routing.proofs.Delivery.{are_all, bundles_are, delivers_in_part, lists, of_lists, to_id, to_part}
use Rattle.pg_part_compute.proofs.Finding.{arrives_in_run, arrives_nothing, found_in_run}
use Rattle.pg_inbox.proofs.Among.{both, outside}
use Rattle.pg_part_compute.proofs.ReadVertices.{IsRead, active_among, all_found, all_own, all_read, has_own, no_inputs_at_rest, own_belong}
use Rattle.pg_part_compute.proofs.Sames.{holds_shorter}
use Rattle.pg_part_routing.proofs.Beginning.{own_rise}
use Rattle.pg_trace.specs.OfRun.{HoldsRun}
use Rattle.pg_trace.specs.Trace.{Trace}

-- what is there as a warm step ends its executions
pub record IsWarmStep {V M : Type 0} (value_eq : V → V → Bool) (message_eq : M → M → Bool) (job : Job V M) (old rows : Rows) (n p s : ℕ)
    (part_run : PartRunState V M) (logs old_logs : Slots M) (old_view view : View) (bundles : List (MessageLists M)) (before : ℕ)
    (step_delta : StepDelta V M) : Type 0 where
  pub values : (a : V) → value_eq a a ≡ true
  pub messages : (a : M) → message_eq a a ≡ true
  pub some : 0 < n
  pub holds : Holds job (Some old) rows n p s part_run
  pub within : s < run_length job rows
  pub has : HasMessages job rows n p s logs
  pub has_logs : HasOldLogs job old n p s logs old_logs
  pub saw : old_view ≡ view_at job old s
  pub sees : view ≡ view_at job rows s
  pub bundled : bundles ≡ bundles_before logs n p s
  pub dirty_ids : List ℕ
  pub looked : AreDirtyIds job.combining bundles n p s part_run.trace part_run.live part_run.quiescent logs old_logs (is_same_view old_view view) dirty_ids
  pub is : IsStepDelta value_eq message_eq job.program job.missing job.combining view n p s part_run.trace bundles
      (Some (holds.warm.trace, bundles_before old_logs n p s)) dirty_ids (not (is_same_view old_view view)) (is_same_view old_view view) before step_delta
  pub alike : (id : ℕ) → DeliverAlike job.combining id (bundles_before old_logs n p s) bundles

module _ {V M : Type 0} (job : Job V M) (rows : Rows) (n p r : ℕ) where
  -- a vertex pair is found as it stands in the old run
  pub record WasRead (c : VertexPair V M) : Type 0 where
    pub mine : belongs n p c.id ≡ true
    pub old : c.old ≡ with_inbox_at c.id (present_at job rows r)

-- bundles of two runs that are the same at a target, number by number
same_by_number : {M : Type 0} (id : ℕ) (f g : ℕ → MessageLists M) (a n : ℕ) → ((q : ℕ) → q < a + n → AreSameAt (f q) (g q) id)
    → AllSameAt id (map f (range_with_len a n)) (map g (range_with_len a n))
same_by_number id f g a zero h = tt
same_by_number id f g a (suc n) h = (h a (omega arith), same_by_number id f g (a + 1) n (λ q below. h q (omega (arith, below))))

module _ {V M : Type 0} (value_eq : V → V → Bool) (message_eq : M → M → Bool) (job : Job V M) (old rows : Rows) (n p s : ℕ)
    (part_run : PartRunState V M) (logs old_logs : Slots M) (old_view view : View) (bundles : List (MessageLists M)) (before : ℕ) (step_delta : StepDelta V M)
    (w : IsWarmStep value_eq message_eq job old rows n p s part_run logs old_logs old_view view bundles before step_delta) where
  -- the trace of the old run, as it was as the superstep began
  abbrev pub kept : Trace V M
  kept = w.holds.warm.trace

  pub kept_holds : HoldsRun job old n p s kept
  kept_holds = holds_shorter job old n p kept s (run_length job old) (let there = w.has_logs.there in omega (arith, there)) w.holds.warm.whole

  abbrev pub vertex_pairs : List (VertexPair V M)
  vertex_pairs = w.is.vertex_pairs

  abbrev pub same_view : Bool
  same_view = is_same_view old_view view

  abbrev pub vertex_pair_ids : List ℕ
  vertex_pair_ids = map (λ c. c.id) vertex_pairs

  work_items_are : AreWorkItems job.combining (bundles_before logs n p s) w.dirty_ids (not same_view) w.is.work_items
  work_items_are = subst (λ bundles. AreWorkItems job.combining bundles w.dirty_ids (not same_view) w.is.work_items) w.bundled w.is.are

  pub candidates_rise : IsStrictlySortedBy nat_cmp vertex_pair_ids
  candidates_rise = subst (IsStrictlySortedBy nat_cmp) (sym w.is.ids_are) (own_rise n p w.is.work_items w.is.are.rise)

  pub all_mine : AllByRecursion (λ k. belongs n p k ≡ true) vertex_pair_ids
  all_mine = subst (AllByRecursion (λ k. belongs n p k ≡ true)) (sym w.is.ids_are) (own_belong n p w.is.work_items)

  pub all_are_read : AllByRecursion (IsRead job rows n p s) vertex_pairs
  all_are_read =
      all_read job rows n p s w.some part_run.trace logs w.holds.run w.has w.within vertex_pairs all_mine
      (all_found job.program job.missing job.combining part_run.trace s (bundles_before logs n p s) vertex_pairs (own n p w.is.work_items) w.is.ids_are w.is.new_are
      (all_own _ n p w.is.work_items work_items_are.delivered))

  pub all_were_read : AllByRecursion (WasRead job old n p s) vertex_pairs
  all_were_read = each vertex_pairs all_mine w.is.warm_are
    where
      each : (cs : List (VertexPair V M)) → AllByRecursion (λ k. belongs n p k ≡ true) (map (λ c. c.id) cs)
          → AllByRecursion (λ c. IsFound job.program job.missing job.combining kept s (bundles_before old_logs n p s) c.id c.old) cs
          → AllByRecursion (WasRead job old n p s) cs
      each [] mine found = tt
      each (c ∷ cs) mine found = (
        record {
          mine = mine.0;
          old = found_in_run job old n p w.some kept old_logs c.id mine.0 s kept_holds w.has_logs.received c.old found.0;
        },
        each cs mine.1 found.1,
      )

  -- what isn't a vertex pair wasn't to be looked at
  not_dirty_ids : (id : ℕ) → belongs n p id ≡ true → has_id vertex_pair_ids id ≡ false → has_id w.dirty_ids id ≡ false
  not_dirty_ids id mine other =
      false_from_ne_true (has_id w.dirty_ids id) (λ h.
      true≢false (sym (w.is.are.have id h) ∙ (sym (has_own n p w.is.work_items id mine) ∙ (sym (ap (λ l. has_id l id) w.is.ids_are) ∙ other))))

  -- nor may its state differ, where it isn't quiescent in both
  same_state : (id : ℕ) → belongs n p id ≡ true → has_id part_run.quiescent id ≡ false → has_id vertex_pair_ids id ≡ false
      → state_at job old s id ≡ state_at job rows s id
  same_state id mine live other =
      w.holds.warm.others id mine (outside part_run.live part_run.quiescent id (w.looked.states id (not_dirty_ids id mine other)) live)
      (omega (arith, w.has_logs.there))

  -- the same is delivered to it
  same_delivered : (r : ℕ) → suc r ≡ s → (id : ℕ) → belongs n p id ≡ true → has_id vertex_pair_ids id ≡ false
      → delivered_at job old r id ≡ delivered_at job rows r id
  same_delivered r e id mine other =
      sym (to_id job old n p r w.holds.warm.whole.rise id mine)
      ∙ (w.alike id (lists job old n p r w.holds.warm.whole.rise) (lists job rows n p r w.holds.run.rise)
      (as_sends (to_part job old n p r w.holds.warm.whole.rise)) (as_sends (to_part job rows n p r w.holds.run.rise))
      (old_are ∙ of_lists job old n p r w.holds.warm.whole.rise) (w.bundled ∙ (new_are ∙ of_lists job rows n p r w.holds.run.rise))
      (are_all job old n p r w.holds.warm.whole.rise w.some) (are_all job rows n p r w.holds.run.rise w.some) all_same
      ∙ to_id job rows n p r w.holds.run.rise id mine)
    where
      next : r + 1 ≡ s
      next = omega (arith, e)

      bundles_are_before : (slots : Slots M) → bundles_before slots n p s ≡ bundles_at slots n p r
      bundles_are_before slots = ap (bundles_before slots n p) (sym e)

      old_are : bundles_before old_logs n p s ≡ map (λ q. bundle_sent job old n q p r) (range_with_len 0 n)
      old_are =
          bundles_are_before old_logs
          ∙ bundles_are job old n p r w.holds.warm.whole.rise old_logs (λ t q i below. w.has_logs.received t q (omega (arith, i, next)) below)

      new_are : bundles_before logs n p s ≡ map (λ q. bundle_sent job rows n q p r) (range_with_len 0 n)
      new_are = bundles_are_before logs ∙ bundles_are job rows n p r w.holds.run.rise logs (λ t q i below. w.has t q (omega (arith, i, next)) below)

      one : (q : ℕ) → q < 0 + n → AreSameAt (bundle_sent job old n q p r) (bundle_sent job rows n q p r) id
      one q below =
          subst₂ (AreSameIn id) (w.has_logs.received r q next (omega (arith, below))) (w.has r q next (omega (arith, below)))
          (w.looked.messages r q id next (omega (arith, below)) (not_dirty_ids id mine other) (w.has_logs.lists_changes r q next (omega (arith, below))))

      all_same : AllSameAt id (bundles_before old_logs n p s) bundles
      all_same =
          subst₂ (AllSameAt id) (sym old_are) (sym (w.bundled ∙ new_are))
          (same_by_number id (λ q. bundle_sent job old n q p r) (λ q. bundle_sent job rows n q p r) 0 n one)

  same_inbox : (r : ℕ) → r ≡ s → (id : ℕ) → belongs n p id ≡ true → has_id part_run.quiescent id ≡ false → has_id vertex_pair_ids id ≡ false
      → inbox_at job old r id ≡ inbox_at job rows r id
  same_inbox zero e id mine live other = inbox_at-first job old id ∙ sym (inbox_at-first job rows id)
  same_inbox (suc r) e id mine live other =
      same_inbox-next job old rows r id
      (λ _. ap is_some (subst (λ k. state_at job old k id ≡ state_at job rows k id) (sym e) (same_state id mine live other)))
      (same_delivered r e id mine other)

  stands_alike : (id : ℕ) → belongs n p id ≡ true → has_id part_run.quiescent id ≡ false → has_id vertex_pair_ids id ≡ false → StandsAlike job old rows s id
  stands_alike id mine live other = record { state = same_state id mine live other; inbox = same_inbox s refl id mine live other }

  -- where it is quiescent in both, nothing is delivered to it
  module _ (id : ℕ) (mine : belongs n p id ≡ true) (quiescent : has_id part_run.quiescent id ≡ true) (other : has_id vertex_pair_ids id ≡ false) where
    nothing : Delivers job.combining id (bundles_before logs n p s) []
    nothing = subst (λ b. Delivers job.combining id b []) w.bundled (w.looked.still id (not_dirty_ids id mine other) quiescent)

    new_inbox : inbox_at job rows s id ≡ []
    new_inbox =
        sym (arrives_in_run job rows n p w.some part_run.trace logs id mine s w.holds.run w.has [] nothing)
        ∙ arrives_nothing job.missing (state_at job rows s id) [] refl

    old_inbox : (r : ℕ) → r ≡ s → inbox_at job old r id ≡ []
    old_inbox zero e = inbox_at-first job old id
    old_inbox (suc r) e =
        inbox_at-next job old r id
        ∙ arrives_nothing job.missing (state_at job old (suc r) id) (delivered_at job old r id)
        (same_delivered r e id mine other
        ∙ sym (delivers_in_part job rows n p r w.holds.run.rise w.some logs (λ t q i below. w.has t q (omega (arith, i, e)) below) id mine []
        (subst (λ k. Delivers job.combining id (bundles_before logs n p k) []) (sym e) nothing)))

    rest : (is_quiescent (state_at job old s id) ≡ true) × (is_quiescent (state_at job rows s id) ≡ true)
    rest =
        both (is_quiescent (state_at job old s id)) (is_quiescent (state_at job rows s id)) (w.holds.warm.rest id mine quiescent w.has_logs.there)

    -- so it isn't executed in either
    pub old_reads_nothing : inputs_at job old s id ≡ None
    old_reads_nothing = no_inputs_at_rest job old s id w.has_logs.there (old_inbox s refl) rest.0

    pub reads_nothing : inputs_at job rows s id ≡ None
    reads_nothing = no_inputs_at_rest job rows s id w.within new_inbox rest.1

  -- where the old run saw something else, each active vertex is a vertex pair
  active_are : same_view ≡ false → HaveActive job old rows (belongs n p) s vertex_pair_ids
  active_are off id x mine at active =
      ap (λ l. has_id l id) w.is.ids_are
      ∙ active_among job rows n p s w.some part_run.trace logs w.holds.run w.has w.within w.dirty_ids w.is.work_items
      (subst (λ b. AreWorkItems job.combining (bundles_before logs n p s) w.dirty_ids (not b) w.is.work_items) off work_items_are)
      (λ k h. true_from_ne_false (has_id w.dirty_ids k) (λ apart. true≢false (sym h ∙ w.looked.unhalted off k apart)))
      id x mine at active

  -- of the partition's vertices, those that aren't known to be quiescent in both
  abbrev pub live : ℕ → Bool
  live id = belongs n p id && not (has_id part_run.quiescent id)

  pub is_live : (id : ℕ) → belongs n p id ≡ true → has_id part_run.quiescent id ≡ false → live id ≡ true
  is_live id mine off = ap₂ (λ (a b : Bool). a && not b) mine off

  pub are_candidates : AreCandidates job old rows live s vertex_pair_ids
  are_candidates =
      AreCandidates-from job old rows live s vertex_pair_ids candidates_rise
      (λ id picked other there. let parts = both (belongs n p id) (not (has_id part_run.quiescent id)) picked in stands_alike id parts.0
      (off (has_id part_run.quiescent id) parts.1) other)
      (by (cases_Bool same_view))
    where
      off : (b : Bool) → not b ≡ true → b ≡ false
      off true h = absurd (true≢false (sym h))
      off false h = refl

      by : (same_view ≡ true) ⊎ (same_view ≡ false) → IsSeenAgain job old rows s ⊎ HaveActive job old rows live s vertex_pair_ids
      by (inl on) =
          inl (record {
            within = w.has_logs.there;
            view = sym w.saw ∙ ((Decides-view_eq (λ (x y : ℕ). true) (λ (x y : ℕ). true) old_view view).0 on ∙ w.sees);
          })
      by (inr unseen) = inr (λ id x picked at active. active_are unseen id x (both (belongs n p id) (not (has_id part_run.quiescent id)) picked).0 at active)
