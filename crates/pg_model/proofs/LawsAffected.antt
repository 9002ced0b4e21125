-- Two runs of one job: what an unaffected vertex keeps, which executions are needed, and what is delivered and gathered.
use Rattle.std.proofs.Common.{◌≡◌, ℕ, suc, ◌+◌, ◌<◌, ◌≤◌, Bool, true, false, cond, List, [], ◌∷◌, ℤ, Option, None, Some, option_map, option_and_then}
use Rattle.std.proofs.Common.{is_some, refl, ap, ap₂, sym, ◌∙◌, arith, true≢false, inl, inr, ◌⊎◌, filter, flat_map, count_by, fold}
use Rattle.std.specs.List.Sorted.{IsStrictlySortedBy}
use Rattle.std.specs.Ordering.{nat_cmp}
use Rattle.std.proofs.lemmas.Bool.{cond_both, cases_lt, cases_Bool, false_from_ne_true, true_from_ne_false}
use Rattle.std.proofs.lemmas.Option.{none-some}
use Rattle.pg_graph.specs.Rows.{Rows, HasRisingIds, row_at}
use Rattle.pg_graph.specs.declared.missing.Missing.{Missing}
use Rattle.pg_graph.specs.declared.missing.Missing.TheVariants.{Drop, Create}
use Rattle.pg_model.specs.Affected.{HaveActive, StandsAlike, IsSeenAgain, IsUnaffected, AreCandidates, IsTakenOver, SendsAlike, ContributesAlike}
use Rattle.pg_model.specs.Affected.{AllSendAlike, AllContributeAlike}
use Rattle.pg_model.specs.ByIds.{state_first, outcome_in, made_of, read_off, with_inbox_with, arriving, state_at, inbox_at, outcome_at, delivered_at}
use Rattle.pg_model.specs.ByIds.{contributions_at, picked_at, messages_of, contributions_of, IsIdleAt}
use Rattle.pg_model.specs.Job.{Job, Inputs, Aggregating}
use Rattle.pg_model.specs.Needed.{with_inbox_at, inputs_if_active, inputs_at, is_changed, IsNeeded, is_needed, needed_in}
use Rattle.pg_model.specs.Run.{configuration, present_at, visible_at, view_at, run_length}
use Rattle.pg_model.specs.Superstep.{ids, is_active, has_id, inputs_of, messages_to, combined, at_place, gathered_at, gathered_from, outcome}
use Rattle.pg_model.specs.Superstep.{state_after, sends, contributions, next}
use Rattle.pg_model.proofs.LawsAgreement.{outcome-idle, state_after-idle}
use Rattle.pg_model.proofs.LawsDelivered.{messages_to-sends}
use Rattle.pg_model.proofs.LawsIds.{ids_rise}
use Rattle.pg_model.proofs.LawsInputs.{no_inputs_past, no_inputs_missing, no_inputs_idle}
use Rattle.pg_model.proofs.LawsLists.{all_pass}
use Rattle.pg_model.proofs.LawsNeeded.{unchanged}
use Rattle.pg_model.proofs.LawsPresent.{with_inbox_at-none, with_inbox_at-state, state_at-first, inbox_at-first, IsIdleAt-from_inputs, state_at-next}
use Rattle.pg_model.proofs.LawsPresent.{inbox_at-next, inputs_within, missing_or_idle, flat_map-present}
use Rattle.pg_model.proofs.LawsRising.{flat_map-rising, count-rising}
use Rattle.pg_model.proofs.LawsShares.{at_place-contributions}
use Rattle.pg_model.specs.declared.configuration.VertexWithInbox.{VertexWithInbox}
use Rattle.pg_model.specs.declared.configuration.VertexState.{VertexState}
use Rattle.pg_model.specs.declared.record.Record.{Record}
use Rattle.pg_model.specs.declared.view.View.{View}

module _ {V M : Type 0} where
  -- ---- plain values

  -- the messages to a target, read off a record or off what it sent
  read_to : (target : ℕ) (o : Option (Record V M))
      → read_off (λ r. messages_to target r.sent) o ≡ messages_to target (read_off (λ r. r.sent) o)
  read_to target None = refl
  read_to target (Some r) = refl

  -- the contributions at a place, likewise
  read_at : (place : ℕ) (o : Option (Record V M))
      → read_off (λ r. at_place place r.contributed) o ≡ at_place place (read_off (λ r. r.contributed) o)
  read_at place None = refl
  read_at place (Some r) = refl

  -- a vertex that isn't active reads nothing
  no_inputs_if_idle : (view : View) (x : VertexWithInbox V M) → is_active x ≡ false → inputs_if_active view x ≡ None
  no_inputs_if_idle view x e = ap (λ (b : Bool). cond b (Some (inputs_of view x)) None) e

  -- what arrives depends on whether there's a state, and under `Create` not even on that
  arrives_alike : (missing : Missing) (a b : Option (VertexState V)) (messages : List M)
      → (missing ≡ Drop → is_some a ≡ is_some b) → arriving missing a messages ≡ arriving missing b messages
  arrives_alike Create a b messages h = refl
  arrives_alike Drop None None messages h = refl
  arrives_alike Drop None (Some y) messages h = absurd (true≢false (sym (h refl)))
  arrives_alike Drop (Some x) None messages h = absurd (true≢false (h refl))
  arrives_alike Drop (Some x) (Some y) messages h = refl

-- where a gathering begins
begins_alike : (persistent : Bool) (v w initial : ℤ) → (persistent ≡ true → v ≡ w) → cond persistent v initial ≡ cond persistent w initial
begins_alike true v w initial h = h refl
begins_alike false v w initial h = refl

-- all that is gathered, from the same contributions at each place
gathers_alike : (place : ℕ) (aggregators : List Aggregating) (values : List ℤ) (c d : List (ℕ × ℤ))
    → ((p : ℕ) → at_place p c ≡ at_place p d)
    → gathered_from place aggregators values c ≡ gathered_from place aggregators values d
unfolding gathered_from
gathers_alike place [] values c d h = refl
gathers_alike place (a ∷ rest) [] c d h = refl
gathers_alike place (a ∷ rest) (value ∷ values) c d h =
    ap₂ ◌∷◌ (ap (gathered_at a value) (h place)) (gathers_alike (place + 1) rest values c d h)

module _ {V M : Type 0} (job : Job V M) (old new : Rows) where
  -- ---- one vertex

  -- where an id stands alike in both runs, so does its vertex among those of the superstep
  pub same_with_inbox : (s id : ℕ) → StandsAlike job old new s id
      → with_inbox_at id (present_at job old s) ≡ with_inbox_at id (present_at job new s)
  same_with_inbox s id h =
      with_inbox_at-state job old s id
      ∙ ((λ i. with_inbox_with job.program id (h.state i) (h.inbox i)) ∙ sym (with_inbox_at-state job new s id))

  -- as the runs begin, an id stands alike where its row is the same, or there's none in both graphs
  pub StandsAlike-first : (id : ℕ) → row_at id old ≡ row_at id new → StandsAlike job old new 0 id
  StandsAlike-first id same = record {
    state = state_at-first job old id ∙ (ap (option_map (state_first job.program id)) same ∙ sym (state_at-first job new id));
    inbox = inbox_at-first job old id ∙ sym (inbox_at-first job new id);
  }

  module _ (s id : ℕ) (here : s < run_length job new) (h : IsUnaffected job old new s id) where
    -- what is read off view and vertex is the same in both runs, where an idle vertex doesn't read its view
    read_alike : {Y : Type 0} (read : View → Option (VertexWithInbox V M) → Y) → ((v w : View) → read v None ≡ read w None)
        → ((v w : View) (x : VertexWithInbox V M) → is_active x ≡ false → read v (Some x) ≡ read w (Some x))
        → s < run_length job old
        → read (view_at job old s) (with_inbox_at id (present_at job old s))
        ≡ read (view_at job new s) (with_inbox_at id (present_at job new s))
    read_alike read missing idles there =
        let same = same_with_inbox s id (h.alike there) in
        let v : View = view_at job old s in
        let w : View = view_at job new s in
        elim h.sees [
          | inl seen ↦ λ i. read (seen.view i) (same i)
          | inr none ↦
              elim (missing_or_idle job new s id here none) [
                | inl gone ↦ ap (read v) (same ∙ gone) ∙ (missing v w ∙ ap (read w) (sym gone))
                | inr there' ↦ ap (read v) (same ∙ there'.1) ∙ (idles v w there'.0 there'.2 ∙ ap (read w) (sym there'.1))
              ]
        ]

    -- an unaffected vertex has the same inputs in both runs, or none in both
    pub same_inputs-IsUnaffected : inputs_at job old s id ≡ inputs_at job new s id
    same_inputs-IsUnaffected =
        elim (cases_lt s (run_length job old)) [
          | inl there ↦
              inputs_within job old s id there
              ∙ (read_alike (λ v o. option_and_then (inputs_if_active v) o) (λ v w. refl)
              (λ v w x e. no_inputs_if_idle v x e ∙ sym (no_inputs_if_idle w x e)) there
              ∙ sym (inputs_within job new s id here))
          | inr past ↦ elim h.sees [ inl seen ↦ absurd (omega (arith, seen.within)) | inr none ↦ no_inputs_past job old s id past ∙ sym none ]
        ]

    -- where both runs have the superstep, its outcome is the same
    same_outcome-IsUnaffected : s < run_length job old → outcome_at job old s id ≡ outcome_at job new s id
    same_outcome-IsUnaffected there =
        read_alike (λ v o. option_map (outcome job.program v) o) (λ v w. refl)
        (λ v w x e. ap Some (outcome-idle job.program v x e ∙ sym (outcome-idle job.program w x e))) there

    -- and its next state
    same_state-IsUnaffected : s < run_length job old → state_at job old (suc s) id ≡ state_at job new (suc s) id
    same_state-IsUnaffected there =
        state_at-next job old s id
        ∙ (read_alike (λ v o. option_map (λ x. state_after x.state (outcome job.program v x)) o) (λ v w. refl)
        (λ v w x e. ap Some (state_after-idle job.program v x e ∙ sym (state_after-idle job.program w x e))) there
        ∙ sym (state_at-next job new s id))

    -- so all that the old run has of it stands in the new one
    pub IsTakenOver-from_IsUnaffected : s < run_length job old → IsTakenOver job old new s id
    IsTakenOver-from_IsUnaffected there =
        let same = same_outcome-IsUnaffected there in
        record {
          inputs = same_inputs-IsUnaffected;
          records = ap (option_map job.program.step) same_inputs-IsUnaffected;
          outcome = same;
          sent = ap (read_off (λ r. r.sent)) same;
          contributed = ap (read_off (λ r. r.contributed)) same;
          state = same_state-IsUnaffected there;
        }

    -- past the end of the old run the superstep leaves an unaffected vertex as it is
    pub IsIdleAt-from_IsUnaffected : run_length job old ≤ s → IsIdleAt job new s id
    IsIdleAt-from_IsUnaffected past =
        elim h.sees [ inl seen ↦ absurd (omega (arith, seen.within)) | inr none ↦ IsIdleAt-from_inputs job new s id here none ]

  -- candidates are rising ids with each id picked that stood otherwise in the old run, if that has the superstep; and with
  -- each active vertex picked, unless the superstep is seen again
  pub AreCandidates-from : (picks : ℕ → Bool) (s : ℕ) (candidates : List ℕ) → IsStrictlySortedBy nat_cmp candidates
      → ((id : ℕ) → picks id ≡ true → has_id candidates id ≡ false → s < run_length job old → StandsAlike job old new s id)
      → IsSeenAgain job old new s ⊎ HaveActive job old new picks s candidates
      → AreCandidates job old new picks s candidates
  AreCandidates-from picks s candidates rise alike sees = record {
    rise = rise;
    others = λ id picked other. record {
      alike = alike id picked other;
      sees = elim sees [
        | inl seen ↦ inl seen
        | inr active ↦ inr (idles id picked other active (with_inbox_at id (present_at job new s)) refl)
      ];
    };
  }
    where
      idles : (id : ℕ) → picks id ≡ true → has_id candidates id ≡ false → HaveActive job old new picks s candidates
          → (o : Option (VertexWithInbox V M)) → with_inbox_at id (present_at job new s) ≡ o → inputs_at job new s id ≡ None
      idles id picked other active None at = no_inputs_missing job new s id at
      idles id picked other active (Some x) at =
          no_inputs_idle job new s id x at (false_from_ne_true (is_active x) (λ e. true≢false (sym (active id x picked at e) ∙ other)))

  -- ---- needed executions

  -- no execution of an unaffected vertex is needed
  pub IsNeeded-IsUnaffected : (s id : ℕ) → IsUnaffected job old new s id → IsNeeded job (Some old) new s id → ⊥
  IsNeeded-IsUnaffected s id h needed =
      elim (cases_lt s (run_length job new)) [
        | inl here ↦ needed.changed (same_inputs-IsUnaffected s id here h ∙ needed.present)
        | inr past ↦ none-some needed.inputs (sym (no_inputs_past job new s id past) ∙ needed.present)
      ]

  module _ (value_eq : V → V → Bool) (message_eq : M → M → Bool) where
    -- what isn't executed in the new run isn't needed
    is_needed-no_inputs : (s id : ℕ) → inputs_at job new s id ≡ None → is_needed value_eq message_eq job (Some old) new s id ≡ false
    is_needed-no_inputs s id none = ap (is_changed value_eq message_eq (inputs_at job old s id)) none

    module _ (values : (a : V) → value_eq a a ≡ true) (messages : (a : M) → message_eq a a ≡ true) where
      -- and the test for it fails
      pub is_needed-IsUnaffected : (s id : ℕ) → IsUnaffected job old new s id
          → is_needed value_eq message_eq job (Some old) new s id ≡ false
      is_needed-IsUnaffected s id h =
          elim (cases_lt s (run_length job new)) [
            | inl here ↦
                ap (λ (o : Option (Inputs V M)). is_changed value_eq message_eq o (inputs_at job new s id)) (same_inputs-IsUnaffected s id here h)
                ∙ unchanged value_eq message_eq values messages (inputs_at job new s id)
            | inr past ↦ is_needed-no_inputs s id (no_inputs_past job new s id past)
          ]

      -- so each needed execution of a vertex picked is that of a candidate
      pub candidate_if_needed : (picks : ℕ → Bool) (s : ℕ) (candidates : List ℕ) → AreCandidates job old new picks s candidates
          → (id : ℕ) → picks id ≡ true → is_needed value_eq message_eq job (Some old) new s id ≡ true → has_id candidates id ≡ true
      candidate_if_needed picks s candidates h id picked needed =
          true_from_ne_false (has_id candidates id) (λ other. true≢false (sym needed ∙ is_needed-IsUnaffected s id (h.others id picked other)))

      -- and all executions that a superstep needs of the vertices picked are counted among the candidates
      pub needed_in-AreCandidates : HasRisingIds new → (picks : ℕ → Bool) (s : ℕ) (candidates : List ℕ)
          → AreCandidates job old new picks s candidates
          → needed_in value_eq message_eq job (Some old) new picks s
          ≡ count_by (is_needed value_eq message_eq job (Some old) new s) (filter picks candidates)
      needed_in-AreCandidates rising picks s candidates h =
          let xs : List (VertexWithInbox V M) = present_at job new s in
          count-rising (ids xs) candidates (ids_rise job new rising s) h.rise picks (is_needed value_eq message_eq job (Some old) new s)
          (λ id picked gone. is_needed-no_inputs s id (no_inputs_missing job new s id (with_inbox_at-none id xs gone)))
          (λ id picked other. is_needed-IsUnaffected s id (h.others id picked other))

  -- ---- what the vertices of a superstep give together

  module _ (rising : HasRisingIds old) (rising' : HasRisingIds new) (picks : ℕ → Bool) (s : ℕ) where
    -- what is made of the records of those picked, where of each of them the same is made in both runs
    pub same_made : {X : Type 0} (part : ℕ → Record V M → List X)
        → ((id : ℕ) → picks id ≡ true → read_off (part id) (outcome_at job old s id) ≡ read_off (part id) (outcome_at job new s id))
        → made_of job old part picks s ≡ made_of job new part picks s
    same_made {X = X} part h =
        flat_map-present job old rising part picks s
        ∙ (ap (λ (f : ℕ → List X). flat_map f (ids (present_at job old s))) (λ i id. same id i)
        ∙ (flat_map-rising (ids (present_at job old s)) (ids (present_at job new s)) (ids_rise job old rising s) (ids_rise job new rising' s)
        (has new) (λ id gone. sym (same id) ∙ nothing old id gone) (λ id gone. nothing new id gone)
        ∙ sym (flat_map-present job new rising' part picks s)))
      where
        has : Rows → ℕ → List X
        has rows id = cond (picks id) (read_off (part id) (outcome_at job rows s id)) []

        same : (id : ℕ) → has old id ≡ has new id
        same id = by (picks id) refl
          where
            by : (b : Bool) → picks id ≡ b
                → cond b (read_off (part id) (outcome_at job old s id)) []
                ≡ cond b (read_off (part id) (outcome_at job new s id)) []
            by true e = h id e
            by false e = refl

        nothing : (rows : Rows) (id : ℕ) → has_id (ids (present_at job rows s)) id ≡ false → has rows id ≡ []
        nothing rows id gone =
            ap (λ (o : Option (VertexWithInbox V M)). cond (picks id) (read_off (part id) (option_map (outcome_in job rows s) o)) [])
            (with_inbox_at-none id (present_at job rows s) gone)
            ∙ cond_both (picks id) [] [] (λ (l : List X). l ≡ []) (λ _. refl) (λ _. refl)

    -- where each of them sends the same messages to an id, all of them do
    pub same_messages : (target : ℕ) → AllSendAlike job old new picks s target
        → messages_of job old picks s target ≡ messages_of job new picks s target
    same_messages target h =
        messages_to-sends job.program (view_at job old s) target (picked_at job old picks s)
        ∙ (same_made (λ id r. messages_to target r.sent)
        (λ id picked. read_to target (outcome_at job old s id) ∙ (h id picked ∙ sym (read_to target (outcome_at job new s id))))
        ∙ sym (messages_to-sends job.program (view_at job new s) target (picked_at job new picks s)))

    -- and where each contributes the same at a place, so do all of them
    pub same_contributions : (place : ℕ) → AllContributeAlike job old new picks s place
        → contributions_of job old picks s place ≡ contributions_of job new picks s place
    same_contributions place h =
        at_place-contributions job.program (view_at job old s) place (picked_at job old picks s)
        ∙ (same_made (λ id r. at_place place r.contributed)
        (λ id picked. read_at place (outcome_at job old s id) ∙ (h id picked ∙ sym (read_at place (outcome_at job new s id))))
        ∙ sym (at_place-contributions job.program (view_at job new s) place (picked_at job new picks s)))

  module _ (rising : HasRisingIds old) (rising' : HasRisingIds new) (s : ℕ) where
    -- all vertices are those that a test picks which all pass
    of_all : {Y : Type 0} (f : Rows → List (VertexWithInbox V M) → Y)
        → f old (picked_at job old (λ id. true) s) ≡ f new (picked_at job new (λ id. true) s)
        → f old (present_at job old s) ≡ f new (present_at job new s)
    of_all f same =
        sym (ap (f old) (all_pass (λ x. true) (λ x. refl) (present_at job old s)))
        ∙ (same ∙ ap (f new) (all_pass (λ x. true) (λ x. refl) (present_at job new s)))

    -- where each vertex sends the same messages to an id, the same is delivered to it
    pub same_delivered : (target : ℕ) → AllSendAlike job old new (λ id. true) s target
        → delivered_at job old s target ≡ delivered_at job new s target
    same_delivered target h =
        let sent : Rows → List (VertexWithInbox V M) → List M = λ rows xs. messages_to target (sends job.program (view_at job rows s) xs) in
        ap (combined job.combining) (of_all sent (same_messages rising rising' (λ id. true) s target h))

    -- where each contributes the same at a place, so do all
    at_whole : (place : ℕ) → AllContributeAlike job old new (λ id. true) s place
        → contributions_at job old s place ≡ contributions_at job new s place
    at_whole place h =
        let given : Rows → List (VertexWithInbox V M) → List ℤ = λ rows xs. at_place place (contributions job.program (view_at job rows s) xs) in
        of_all given (same_contributions rising rising' (λ id. true) s place h)

    -- and the same is gathered there; a persistent aggregator also has to begin alike
    pub same_gathered_at : (a : Aggregating) (v w : ℤ) (place : ℕ) → (a.persistent ≡ true → v ≡ w)
        → AllContributeAlike job old new (λ id. true) s place
        → gathered_at a v (contributions_at job old s place) ≡ gathered_at a w (contributions_at job new s place)
    same_gathered_at a v w place begins h =
        λ i. fold a.aggregate (begins_alike a.persistent v w a.initial begins i) (at_whole place h i)

    -- where they do so at all places, and the same was visible, all that is gathered is the same
    pub same_gathered : (visible_at job old s).values ≡ (visible_at job new s).values
        → ((place : ℕ) → AllContributeAlike job old new (λ id. true) s place)
        → (configuration job old (suc s)).gathered ≡ (configuration job new (suc s)).gathered
    unfolding configuration next
    same_gathered shown h =
        let before : List (ℕ × ℤ) = contributions job.program (view_at job old s) (present_at job old s) in
        ap (λ (values : List ℤ). gathered_from 0 job.aggregators values before) shown
        ∙ gathers_alike 0 job.aggregators (visible_at job new s).values _ _ (λ place. at_whole place (h place))

  -- ---- the next superstep

  -- what is delivered alike arrives alike: under `Create` always, under `Drop` where the id has a state in both runs or in none
  pub same_inbox-next : (s id : ℕ)
      → (job.missing ≡ Drop → is_some (state_at job old (suc s) id) ≡ is_some (state_at job new (suc s) id))
      → delivered_at job old s id ≡ delivered_at job new s id
      → inbox_at job old (suc s) id ≡ inbox_at job new (suc s) id
  same_inbox-next s id both same =
      inbox_at-next job old s id
      ∙ (arrives_alike job.missing (state_at job old (suc s) id) (state_at job new (suc s) id) _ both
      ∙ (ap (arriving job.missing (state_at job new (suc s) id)) same ∙ sym (inbox_at-next job new s id)))

  -- so an id stands alike where its state is the same and the same is delivered to it
  pub StandsAlike-next : (s id : ℕ) → state_at job old (suc s) id ≡ state_at job new (suc s) id
      → delivered_at job old s id ≡ delivered_at job new s id → StandsAlike job old new (suc s) id
  StandsAlike-next s id state same =
      record { state = state; inbox = same_inbox-next s id (λ _. ap is_some state) same }

  module _ (s : ℕ) (there : s < run_length job old) (here : s < run_length job new)
      (picks : ℕ → Bool) (candidates : List ℕ) (h : AreCandidates job old new picks s candidates) where
    -- of those picked all but the candidates are taken over
    pub IsTakenOver-AreCandidates : (id : ℕ) → picks id ≡ true → has_id candidates id ≡ false → IsTakenOver job old new s id
    IsTakenOver-AreCandidates id picked other =
        IsTakenOver-from_IsUnaffected s id here (h.others id picked other) there

    -- so they send the same to an id where the candidates among them do
    pub AllSendAlike-AreCandidates : (target : ℕ)
        → ((id : ℕ) → picks id ≡ true → has_id candidates id ≡ true → SendsAlike job old new s target id)
        → AllSendAlike job old new picks s target
    AllSendAlike-AreCandidates target same id picked =
        elim (cases_Bool (has_id candidates id)) [
          | inl one ↦ same id picked one
          | inr other ↦ ap (messages_to target) (IsTakenOver-AreCandidates id picked other).sent
        ]

    -- and contribute the same at a place where the candidates among them do
    pub AllContributeAlike-AreCandidates : (place : ℕ)
        → ((id : ℕ) → picks id ≡ true → has_id candidates id ≡ true → ContributesAlike job old new s place id)
        → AllContributeAlike job old new picks s place
    AllContributeAlike-AreCandidates place same id picked =
        elim (cases_Bool (has_id candidates id)) [
          | inl one ↦ same id picked one
          | inr other ↦ ap (at_place place) (IsTakenOver-AreCandidates id picked other).contributed
        ]

  -- an id stands alike in the next superstep unless it is a candidate whose state becomes another, or a candidate sends other
  -- messages to it
  pub StandsAlike-AreCandidates : HasRisingIds old → HasRisingIds new → (s : ℕ) → s < run_length job old
      → s < run_length job new → (candidates : List ℕ) → AreCandidates job old new (λ id. true) s candidates → (id : ℕ)
      → (has_id candidates id ≡ true → state_at job old (suc s) id ≡ state_at job new (suc s) id)
      → ((sender : ℕ) → has_id candidates sender ≡ true → SendsAlike job old new s id sender)
      → StandsAlike job old new (suc s) id
  StandsAlike-AreCandidates rising rising' s there here candidates h id states envelopes =
      StandsAlike-next s id state (same_delivered rising rising' s id all)
    where
      everyone : ℕ → Bool
      everyone id = true

      all : AllSendAlike job old new everyone s id
      all = AllSendAlike-AreCandidates s there here everyone candidates h id (λ sender picked one. envelopes sender one)

      state : state_at job old (suc s) id ≡ state_at job new (suc s) id
      state =
          elim (cases_Bool (has_id candidates id)) [
            | inl one ↦ states one
            | inr other ↦ (IsTakenOver-AreCandidates s there here everyone candidates h id refl other).state
          ]
