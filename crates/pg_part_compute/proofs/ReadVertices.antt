-- What a step reads of the run, vertex by vertex.
use Rattle.std.proofs.Common.{◌≡◌, ℕ, ◌<◌, ◌==◌, ◌||◌, not, Bool, true, false, cond, List, [], ◌∷◌, map}
use Rattle.std.proofs.Common.{Option, None, Some, option_map, refl, sym, ap, ◌∙◌, subst, true≢false}
use Rattle.std.specs.List.{AllByRecursion}
use Rattle.std.specs.Map.{keys_of}
use Rattle.std.specs.Prelude.{Err, IfOk, Ok, Result}
use Rattle.std.proofs.lemmas.Bool.{eqb-true, true_from_ne_false}
use Rattle.std.proofs.lemmas.Option.{none-some, same_Some}
use Rattle.pg_graph.specs.Rows.{Rows}
use Rattle.pg_graph.specs.declared.missing.Missing.{Missing}
use Rattle.pg_inbox.specs.Handed.{MessageLists}
use Rattle.pg_inbox.specs.Inboxes.{Delivers}
use Rattle.pg_inbox.specs.LoggedBundle.{Slots}
use Rattle.pg_map.specs.Entries.{value_at}
use Rattle.pg_model.specs.ByIds.{inbox_at, with_inbox_with, state_at as run_state_at}
use Rattle.pg_model.specs.Job.{Combining, Job, Program}
use Rattle.pg_model.specs.Needed.{inputs_at, with_inbox_at}
use Rattle.pg_model.specs.Run.{present_at, run_length, view_at}
use Rattle.pg_model.specs.Share.{belongs, records_in}
use Rattle.pg_model.specs.Superstep.{has_id, inputs_of, is_active}
use Rattle.pg_model.proofs.LawsInputs.{no_inputs_idle, no_inputs_missing}
use Rattle.pg_model.proofs.LawsPresent.{inputs_within, with_inbox_at-state}
use Rattle.pg_model.proofs.LawsSharesAlike.{record_in_share}
use Rattle.pg_model.specs.declared.configuration.VertexWithInbox.{VertexWithInbox}
use Rattle.pg_model.specs.declared.configuration.VertexState.{VertexState}
use Rattle.pg_model.specs.declared.view.View.{View}
use Rattle.pg_part_compute.specs.VertexPairs.{AreWorkItems, unhalted_ids, found_at}
use Rattle.pg_part_routing.specs.Starting.{own}
use Rattle.pg_part_compute.specs.Diverged.{is_quiescent}
use Rattle.pg_part_compute.specs.Found.{IsFound, IsEqSound, are_same_reading, reads, vertex_of}
use Rattle.pg_part_routing.specs.Routes.{HasMessages, bundles_before}
use Rattle.pg_part_compute.specs.declared.found.VertexPair.{VertexPair}
use Rattle.pg_part_compute.proofs.Coverage.{unhalted_in_run}
use Rattle.pg_part_compute.proofs.Finding.{arrives_in_run, arrives_nothing, found_in_run}
use Rattle.pg_trace.specs.OfRun.{HoldsRun}
use Rattle.pg_trace.specs.Trace.{Trace, state_at}

-- what a result is by four clauses
pub IfOk-four : {T E : Type 0} (r : Result T E) (P Q R S U : T → Type 0) → ((x : T) → P x → Q x → R x → S x → U x)
    → IfOk r P → IfOk r Q → IfOk r R → IfOk r S → IfOk r U
IfOk-four (Ok x) P Q R S U h p q r s = h x p q r s
IfOk-four (Err e) P Q R S U h p q r s = tt

-- ---- those of a partition

module _ {X : Type 0} (n p : ℕ) where
  pub own_belong : (xs : List (ℕ × X)) → AllByRecursion (λ k. belongs n p k ≡ true) (keys_of (own n p xs))
  own_belong [] = tt
  own_belong (x ∷ xs) = by (belongs n p x.0) refl (own_belong xs)
    where
      by : (b : Bool) → belongs n p x.0 ≡ b → AllByRecursion (λ k. belongs n p k ≡ true) (keys_of (own n p xs))
          → AllByRecursion (λ k. belongs n p k ≡ true) (keys_of (cond b (x ∷ own n p xs) (own n p xs)))
      by true e rest = (e, rest)
      by false e rest = rest

  pub has_own : (xs : List (ℕ × X)) (id : ℕ) → belongs n p id ≡ true → has_id (keys_of (own n p xs)) id ≡ has_id (keys_of xs) id
  has_own [] id mine = refl
  has_own (x ∷ xs) id mine = by (belongs n p x.0) refl (x.0 == id) refl (has_own xs id mine)
    where
      by : (b : Bool) → belongs n p x.0 ≡ b → (t : Bool) → (x.0 == id) ≡ t → has_id (keys_of (own n p xs)) id ≡ has_id (keys_of xs) id
          → has_id (keys_of (cond b (x ∷ own n p xs) (own n p xs))) id ≡ (t || has_id (keys_of xs) id)
      by true e t f rest = ap (λ (c : Bool). c || has_id (keys_of (own n p xs)) id) f ∙ ap (λ (c : Bool). t || c) rest
      by false e true f rest = absurd (true≢false (sym mine ∙ (ap (belongs n p) (sym (eqb-true x.0 id f)) ∙ e)))
      by false e false f rest = rest

module _ {M : Type 0} (P : ℕ × List M → Type 0) (n p : ℕ) where
  pub all_own : (xs : List (ℕ × List M)) → AllByRecursion P xs → AllByRecursion P (own n p xs)
  all_own [] h = tt
  all_own (x ∷ xs) h = by (belongs n p x.0) (all_own xs h.1)
    where
      by : (b : Bool) → AllByRecursion P (own n p xs) → AllByRecursion P (cond b (x ∷ own n p xs) (own n p xs))
      by true rest = (h.0, rest)
      by false rest = rest

module _ {X : Type 0} where
  heads : (x y : X) (xs ys : List X) → x ∷ xs ≡ y ∷ ys → x ≡ y
  heads x y xs ys e = cc

  tails : (x y : X) (xs ys : List X) → x ∷ xs ≡ y ∷ ys → xs ≡ ys
  tails x y xs ys e = cc

  not_nil : (x : X) (xs : List X) → x ∷ xs ≡ [] → ⊥
  not_nil x xs e = cc

-- a vertex that is halted or isn't there, and to which nothing is sent, isn't executed
pub no_inputs_at_rest : {V M : Type 0} (job : Job V M) (rows : Rows) (s id : ℕ) → s < run_length job rows → inbox_at job rows s id ≡ []
    → is_quiescent (run_state_at job rows s id) ≡ true → inputs_at job rows s id ≡ None
no_inputs_at_rest {V = V} {M = M} job rows s id within none both_quiescent =
    inputs_within job rows s id within
    ∙ (ap (reads (view_at job rows s)) (with_inbox_at-state job rows s id ∙ ap (with_inbox_with job.program id (run_state_at job rows s id)) none)
    ∙ by (run_state_at job rows s id) both_quiescent)
  where
    by : (o : Option (VertexState V)) → is_quiescent o ≡ true → reads (view_at job rows s) (with_inbox_with job.program id o []) ≡ None
    by None h = refl
    by (Some x) h =
        ap (λ (b : Bool). cond (not b || false) (Some (inputs_of (view_at job rows s) (record { state = x; inbox = [] }))) None) h

module _ {V M : Type 0} where
  -- each vertex is found by what is delivered to it
  pub all_found : (program : Program V M) (missing : Missing) (combining : Option (Combining M)) (trace : Trace V M) (s : ℕ) (bundles : List (MessageLists M))
      → (cs : List (VertexPair V M)) (ws : List (ℕ × List M)) → map (λ c. c.id) cs ≡ keys_of ws → map (λ c. c.new) cs ≡ map (found_at program missing s trace) ws
      → AllByRecursion (λ c. Delivers combining c.0 bundles c.1) ws
      → AllByRecursion (λ c. IsFound program missing combining trace s bundles c.id c.new) cs
  all_found program missing combining trace s bundles [] ws is news h = tt
  all_found program missing combining trace s bundles (c ∷ cs) [] is news h = absurd (not_nil c.id (map (λ c. c.id) cs) is)
  all_found program missing combining trace s bundles (c ∷ cs) (w ∷ ws) is news h =
      let same = heads c.id w.0 (map (λ c. c.id) cs) (keys_of ws) is in (
        record {
          inbox = w.1;
          delivers = subst (λ (i : ℕ). Delivers combining i bundles w.1) (sym same) h.0;
          is = heads c.new (found_at program missing s trace w) (map (λ c. c.new) cs) (map (found_at program missing s trace) ws) news
              ∙ ap (λ (i : ℕ). vertex_of program missing i (state_at i s trace) w.1) (sym same);
        },
        all_found program missing combining trace s bundles cs ws (tails c.id w.0 (map (λ c. c.id) cs) (keys_of ws) is)
            (tails c.new (found_at program missing s trace w) (map (λ c. c.new) cs) (map (found_at program missing s trace) ws) news) h.1,
      )

  -- in a cold step nothing is found the same
  pub eq_is_sound_of_none : (value_eq : V → V → Bool) (message_eq : M → M → Bool) (cs : List (VertexPair V M)) → AllByRecursion (λ c. c.old ≡ None) cs
      → AllByRecursion (IsEqSound value_eq message_eq) cs
  eq_is_sound_of_none value_eq message_eq [] h = tt
  eq_is_sound_of_none value_eq message_eq (c ∷ cs) h =
      ((λ same. absurd (true≢false (sym same ∙ ap (λ o. are_same_reading value_eq message_eq o c.new) h.0))), eq_is_sound_of_none value_eq message_eq cs h.1)

  module _ (job : Job V M) (rows : Rows) (n p r : ℕ) where
    -- a vertex pair is of the partition, and found as it stands in the run
    pub record IsRead (c : VertexPair V M) : Type 0 where
      pub mine : belongs n p c.id ≡ true
      pub new : c.new ≡ with_inbox_at c.id (present_at job rows r)

    module _ (some : 0 < n) (trace : Trace V M) (logs : Slots M) (holds : HoldsRun job rows n p r trace) (has : HasMessages job rows n p r logs)
        (within : r < run_length job rows) where
      pub all_read : (cs : List (VertexPair V M)) → AllByRecursion (λ k. belongs n p k ≡ true) (map (λ c. c.id) cs)
          → AllByRecursion (λ c. IsFound job.program job.missing job.combining trace r (bundles_before logs n p r) c.id c.new) cs
          → AllByRecursion IsRead cs
      all_read [] mine found = tt
      all_read (c ∷ cs) mine found =
          (record { mine = mine.0; new = found_in_run job rows n p some trace logs c.id mine.0 r holds has c.new found.0 }, all_read cs mine.1 found.1)

      -- where nothing is delivered to an id, an active vertex there isn't halted
      unhalted_if_active : (id : ℕ) (x : VertexWithInbox V M) → belongs n p id ≡ true → with_inbox_at id (present_at job rows r) ≡ Some x → is_active x ≡ true
          → Delivers job.combining id (bundles_before logs n p r) [] → has_id (unhalted_ids r trace) id ≡ true
      unhalted_if_active id x mine at active nothing = by (run_state_at job rows r id) refl
        where
          none : inbox_at job rows r id ≡ []
          none =
              sym (arrives_in_run job rows n p some trace logs id mine r holds has [] nothing)
              ∙ arrives_nothing job.missing (run_state_at job rows r id) [] refl

          stands : (o : Option (VertexState V)) → run_state_at job rows r id ≡ o → Some x ≡ with_inbox_with job.program id o []
          stands o e =
              sym at ∙ (with_inbox_at-state job rows r id ∙ (ap (with_inbox_with job.program id (run_state_at job rows r id)) none
              ∙ ap (λ (s : Option (VertexState V)). with_inbox_with job.program id s []) e))

          by : (o : Option (VertexState V)) → run_state_at job rows r id ≡ o → has_id (unhalted_ids r trace) id ≡ true
          by None e = absurd (none-some x (sym (stands None e)))
          by (Some state) e =
              unhalted_in_run job rows n p trace r id holds within mine state e
              (up state.halted (ap is_active (sym (same_Some x (record { state = state; inbox = [] }) (stands (Some state) e))) ∙ active))
            where
              up : (b : Bool) → (not b || false) ≡ true → b ≡ false
              up true h = absurd (true≢false (sym h))
              up false h = refl

      module _ (ids : List ℕ) (ws : List (ℕ × List M)) (are : AreWorkItems job.combining (bundles_before logs n p r) ids true ws)
          (unhalted : (id : ℕ) → has_id (unhalted_ids r trace) id ≡ true → has_id ids id ≡ true) where
        -- each active vertex of the partition is among them
        pub active_among : (id : ℕ) (x : VertexWithInbox V M) → belongs n p id ≡ true → with_inbox_at id (present_at job rows r) ≡ Some x → is_active x ≡ true
            → has_id (keys_of (own n p ws)) id ≡ true
        active_among id x mine at active =
            has_own n p ws id mine
            ∙ true_from_ne_false (has_id (keys_of ws) id) (λ other.
            true≢false (sym (are.have id (unhalted id (unhalted_if_active id x mine at active (are.others refl id other)))) ∙ other))

      -- a vertex that isn't active has no inputs
      pub no_inputs_if_inactive : (id : ℕ) → ((x : VertexWithInbox V M) → with_inbox_at id (present_at job rows r) ≡ Some x → is_active x ≡ false)
          → inputs_at job rows r id ≡ None
      no_inputs_if_inactive id idle = by (with_inbox_at id (present_at job rows r)) refl
        where
          by : (o : Option (VertexWithInbox V M)) → with_inbox_at id (present_at job rows r) ≡ o → inputs_at job rows r id ≡ None
          by None e = no_inputs_missing job rows r id e
          by (Some x) e = no_inputs_idle job rows r id x e (idle x e)

      pub reads_inputs : (view : View) → view ≡ view_at job rows r → (c : VertexPair V M) → IsRead c → reads view c.new ≡ inputs_at job rows r c.id
      reads_inputs view same c read =
          ap (λ v. reads v c.new) same ∙ (ap (reads (view_at job rows r)) read.new ∙ sym (inputs_within job rows r c.id within))

      -- what a vertex pair gives is the run's record
      pub gives_record : (view : View) → view ≡ view_at job rows r → (c : VertexPair V M) → IsRead c
          → option_map job.program.step (reads view c.new) ≡ value_at c.id (records_in job rows n p r)
      gives_record view same c read =
          ap (option_map job.program.step) (reads_inputs view same c read) ∙ sym (record_in_share job rows n p r c.id holds.rise within read.mine)
