-- The shares of two runs: where they have the same record of a vertex, the same messages to a target, the same contributions.
use Rattle.std.proofs.Common.{◌≡◌, ℕ, ◌+◌, ◌<◌, ◌%◌, Bool, true, false, cond, ◌==◌, List, [], ◌∷◌, ◌++◌, map, Option, None, Some, option_map}
use Rattle.std.proofs.Common.{option_and_then, refl, ap, ap₂, sym, mod-lt, ◌∙◌, filter, flat_map}
use Rattle.std.specs.BTreeMap.{is_at}
use Rattle.std.specs.List.Sorted.{IsStrictlySortedBy}
use Rattle.std.specs.Map.{lookup}
use Rattle.std.specs.Ordering.{nat_cmp}
use Rattle.std.proofs.lemmas.Bool.{cond_both, eqb-true, eq-eqb}
use Rattle.std.proofs.lemmas.List.{map-append}
use Rattle.std.proofs.lemmas.List.Elements.{filter-append}
use Rattle.pg_graph.specs.Rows.{Rows, HasRisingIds}
use Rattle.pg_model.specs.Affected.{IsUnaffected, AllSendAlike, AllContributeAlike}
use Rattle.pg_model.specs.ByIds.{outcome_in, made_of, read_off, outcome_at, record_at, envelopes_for, envelopes_by}
use Rattle.pg_model.specs.Job.{Job, Program}
use Rattle.pg_model.specs.Needed.{with_inbox_at, inputs_if_active}
use Rattle.pg_model.specs.Order.{Sending, sendings_from, sendings}
use Rattle.pg_model.specs.Run.{present_at, view_at, run_length}
use Rattle.pg_model.specs.Share.{belongs, present_in_share, records_in, sendings_of, sent_to}
use Rattle.pg_model.specs.Superstep.{ids, is_active, inputs_of, messages_to, at_place, outcome}
use Rattle.pg_model.proofs.LawsAffected.{same_inputs-IsUnaffected, same_made, same_contributions}
use Rattle.pg_model.proofs.LawsAgreement.{outcome-active}
use Rattle.pg_model.proofs.LawsIds.{ids_rise}
use Rattle.pg_model.proofs.LawsLists.{filter-filter}
use Rattle.pg_model.proofs.LawsMade.{not_below}
use Rattle.pg_model.proofs.LawsPresent.{at_key, with_inbox_at-none, inputs_within}
use Rattle.pg_model.proofs.LawsShares.{sendings-records_in, contributions-records_in}
use Rattle.pg_model.specs.declared.configuration.VertexWithInbox.{VertexWithInbox}
use Rattle.pg_model.specs.declared.record.Record.{Record}
use Rattle.pg_model.specs.declared.view.View.{View}

-- ---- messages to one target

module _ {M : Type 0} (target : ℕ) where
  -- by whom and what
  envelope : Sending M → ℕ × M
  envelope t = (t.sender, t.message)

  -- whether a message goes to the target
  goes : Sending M → Bool
  goes t = t.target == target

  -- the envelopes of two lists, one after the other
  envelopes_for-append : (a b : List (Sending M)) → envelopes_for target (a ++ b) ≡ envelopes_for target a ++ envelopes_for target b
  unfolding envelope goes
  envelopes_for-append a b = ap (map envelope) (filter-append goes a b) ∙ map-append envelope (filter goes a) (filter goes b)

  -- and those of one sender
  envelopes_from : (u k : ℕ) (ms : List (ℕ × M))
      → envelopes_for target (sendings_from u k ms) ≡ map {B = ℕ × M} (λ m. (u, m)) (messages_to target ms)
  unfolding envelope goes
  envelopes_from u k [] = refl
  envelopes_from u k (m ∷ ms) = by (m.0 == target) (envelopes_from u (k + 1) ms)
    where
      rest : List (Sending M)
      rest = filter goes (sendings_from u (k + 1) ms)

      others : List (ℕ × M)
      others = filter (λ x. x.0 == target) ms

      first : Sending M
      first = record { sender = u; place = k; target = m.0; message = m.1 }

      by : (b : Bool) → map envelope rest ≡ map {B = ℕ × M} (λ x. (u, x)) (map (λ (x : ℕ × M). x.1) others)
          → map envelope (cond b (first ∷ rest) rest)
          ≡ map {B = ℕ × M} (λ x. (u, x)) (map (λ (x : ℕ × M). x.1) (cond b (m ∷ others) others))
      by true h = ap (◌∷◌ (u, m.1)) h
      by false h = h

module _ {V M : Type 0} (program : Program V M) (view : View) (target : ℕ) where
  -- an id gets its messages by sender
  pub envelopes_for-sendings : (xs : List (VertexWithInbox V M))
      → envelopes_for target (sendings program view xs)
      ≡ flat_map (λ x. envelopes_by target x.state.id (outcome program view x)) xs
  envelopes_for-sendings [] = refl
  envelopes_for-sendings (x ∷ xs) =
      envelopes_for-append target (sendings_from x.state.id 0 (outcome program view x).sent) (sendings program view xs)
      ∙ ap₂ ◌++◌ (envelopes_from target x.state.id 0 (outcome program view x).sent) (envelopes_for-sendings xs)

module _ {V M : Type 0} where
  -- what a partition sends to an id it sends by the vertices of its share
  pub envelopes_for-sent_to : (job : Job V M) (rows : Rows) (n p q s target : ℕ) → belongs n q target ≡ true
      → envelopes_for target (sent_to job rows n p q s) ≡ made_of job rows (envelopes_by target) (belongs n p) s
  unfolding envelope goes
  envelopes_for-sent_to job rows n p q s target theirs =
      ap (map (envelope target)) (filter-filter (goes target) theirs_too (goes target) (λ t. each t (t.target == target) refl) mine)
      ∙ (ap (envelopes_for target) (sendings-records_in job rows n p s)
      ∙ envelopes_for-sendings job.program (view_at job rows s) target (present_in_share job rows n p s))
    where
      mine : List (Sending M)
      mine = sendings_of (records_in job rows n p s)

      theirs_too : Sending M → Bool
      theirs_too t = belongs n q t.target

      each : (t : Sending M) (b : Bool) → (t.target == target) ≡ b → cond (theirs_too t) b false ≡ b
      each t true e = ap (λ (c : Bool). cond c true false) (ap (belongs n q) (eqb-true t.target target e) ∙ theirs)
      each t false e = cond_both (theirs_too t) false false (λ (c : Bool). c ≡ false) (λ _. refl) (λ _. refl)

-- ---- the record of one vertex

module _ {V M : Type 0} (given : VertexWithInbox V M → Record V M) (picks : ℕ → Bool) (id : ℕ) where
  -- what is given of a vertex where it is active
  abbrev given_if_active : Option (VertexWithInbox V M) → Option (Record V M)
  given_if_active o = option_and_then (λ x. cond (is_active x) (Some (given x)) None) o

  -- what is found of it among what is given of vertices
  abbrev given_among : List (VertexWithInbox V M) → Option (Record V M)
  given_among xs = lookup (is_at (nat_cmp id)) (map (λ x. (x.state.id, given x)) xs)

  -- it is found among the active ones that are picked where it is picked and active
  lookup_active : (xs : List (VertexWithInbox V M)) → IsStrictlySortedBy nat_cmp (ids xs)
      → given_among (filter is_active (filter (λ x. picks x.state.id) xs))
      ≡ cond (picks id) (given_if_active (with_inbox_at id xs)) None
  unfolding IsStrictlySortedBy
  lookup_active [] h = sym (cond_both (picks id) None None (λ (o : Option (Record V M)). o ≡ None) (λ _. refl) (λ _. refl))
  lookup_active (x ∷ xs) h =
      by (picks x.state.id) refl (is_active x) refl (x.state.id == id) refl (lookup_active xs h.1)
    where
      picked : List (VertexWithInbox V M)
      picked = filter (λ y. picks y.state.id) xs

      active : List (VertexWithInbox V M)
      active = filter is_active picked

      chosen : (x.state.id == id) ≡ true → picks id ≡ picks x.state.id
      chosen e = sym (ap picks (eqb-true x.state.id id e))

      gone : (x.state.id == id) ≡ true → with_inbox_at id xs ≡ None
      gone e =
          ap (λ (n : ℕ). with_inbox_at n xs) (sym (eqb-true x.state.id id e))
          ∙ with_inbox_at-none x.state.id xs (not_below x.state.id (ids xs) h.0)

      here : (b : Bool) → (x.state.id == id) ≡ b → given_among (x ∷ active) ≡ cond b (Some (given x)) (given_among active)
      here b e = ap (λ (c : Bool). cond c (Some (given x)) (given_among active)) (at_key id x.state.id ∙ e)

      by : (p : Bool) → picks x.state.id ≡ p → (a : Bool) → is_active x ≡ a → (b : Bool) → (x.state.id == id) ≡ b
          → given_among active ≡ cond (picks id) (given_if_active (with_inbox_at id xs)) None
          → given_among (filter is_active (cond p (x ∷ picked) picked))
          ≡ cond (picks id) (given_if_active (cond b (Some x) (with_inbox_at id xs))) None
      by false e a e' true e'' rest =
          let none : picks id ≡ false = chosen e'' ∙ e in
          rest
          ∙ (ap (λ (c : Bool). cond c (given_if_active (with_inbox_at id xs)) None) none
          ∙ sym (ap (λ (c : Bool). cond c (given_if_active (Some x)) None) none))
      by false e a e' false e'' rest = rest
      by true e a e' b e'' rest = ap (λ (c : Bool). given_among (cond c (x ∷ active) active)) e' ∙ found a e' b e'' rest
        where
          found : (a : Bool) → is_active x ≡ a → (b : Bool) → (x.state.id == id) ≡ b
              → given_among active ≡ cond (picks id) (given_if_active (with_inbox_at id xs)) None
              → given_among (cond a (x ∷ active) active)
              ≡ cond (picks id) (given_if_active (cond b (Some x) (with_inbox_at id xs))) None
          found true e' true e'' rest =
              here true e'' ∙ sym (ap₂ (λ (c d : Bool). cond c (cond d (Some (given x)) None) None) (chosen e'' ∙ e) e')
          found true e' false e'' rest = here false e'' ∙ rest
          found false e' true e'' rest =
              let idles : given_if_active (Some x) ≡ None = ap (λ (c : Bool). cond c (Some (given x)) None) e' in
              rest ∙ ap (λ (o : Option (Record V M)). cond (picks id) o None) (ap given_if_active (gone e'') ∙ sym idles)
          found false e' false e'' rest = rest

module _ {V M : Type 0} (job : Job V M) (rows : Rows) (n p s id : ℕ) where
  -- what the superstep makes of an active vertex is the step on its inputs
  step_of_active : (o : Option (VertexWithInbox V M))
      → option_and_then (λ x. cond (is_active x) (Some (outcome_in job rows s x)) None) o
      ≡ option_map job.program.step (option_and_then (inputs_if_active (view_at job rows s)) o)
  step_of_active None = refl
  step_of_active (Some x) = by (is_active x) refl
    where
      by : (b : Bool) → is_active x ≡ b
          → cond b (Some (outcome_in job rows s x)) None
          ≡ option_map job.program.step (cond b (Some (inputs_of (view_at job rows s) x)) None)
      by true e = ap Some (outcome-active job.program (view_at job rows s) x e)
      by false e = refl

  -- a share's record of a vertex is what its execution gives, where it has one
  pub record_in_share : HasRisingIds rows → s < run_length job rows → belongs n p id ≡ true
      → lookup (is_at (nat_cmp id)) (records_in job rows n p s) ≡ record_at job rows s id
  record_in_share rising within mine =
      let there : Option (VertexWithInbox V M) = with_inbox_at id (present_at job rows s) in
      lookup_active (outcome_in job rows s) (belongs n p) id (present_at job rows s) (ids_rise job rows rising s)
      ∙ (ap (λ (c : Bool). cond c (option_and_then (λ x. cond (is_active x) (Some (outcome_in job rows s x)) None) there) None) mine
      ∙ (step_of_active there ∙ sym (ap (option_map job.program.step) (inputs_within job rows s id within))))

-- ---- all partitions

-- what holds of each partition's ids holds of all ids: of what they send, of what they contribute
pub all_from_parts : (P : ℕ → Type 0) (n : ℕ) → 0 < n
    → ((p : ℕ) → p < n → (id : ℕ) → belongs n p id ≡ true → P id) → (id : ℕ) → P id
all_from_parts P n some each id = each (id % n) (mod-lt id some) id (eq-eqb (id % n) (id % n) refl)

-- ---- two runs

module _ {V M : Type 0} (job : Job V M) (old new : Rows) (rising : HasRisingIds old) (rising' : HasRisingIds new) (n p s : ℕ) where
  -- shares have the same record of an unaffected vertex, or none in both
  pub same_record_in_share : s < run_length job old → s < run_length job new → (id : ℕ) → belongs n p id ≡ true
      → IsUnaffected job old new s id
      → lookup (is_at (nat_cmp id)) (records_in job old n p s) ≡ lookup (is_at (nat_cmp id)) (records_in job new n p s)
  same_record_in_share there here id mine h =
      record_in_share job old n p s id rising there mine
      ∙ (ap (option_map job.program.step) (same_inputs-IsUnaffected job old new s id here h)
      ∙ sym (record_in_share job new n p s id rising' here mine))

  -- a partition sends the same to an id, by whom and what, where each of its vertices sends the same to it
  pub same_sent_to : (q target : ℕ) → belongs n q target ≡ true → AllSendAlike job old new (belongs n p) s target
      → envelopes_for target (sent_to job old n p q s) ≡ envelopes_for target (sent_to job new n p q s)
  same_sent_to q target theirs h =
      envelopes_for-sent_to job old n p q s target theirs
      ∙ (same_made job old new rising rising' (belongs n p) s (envelopes_by target) alike
      ∙ sym (envelopes_for-sent_to job new n p q s target theirs))
    where
      named : ℕ → List M → List (ℕ × M)
      named id ms = map (λ m. (id, m)) ms

      read : (id : ℕ) (o : Option (Record V M))
          → read_off (envelopes_by target id) o ≡ named id (messages_to target (read_off (λ r. r.sent) o))
      read id None = refl
      read id (Some r) = refl

      alike : (id : ℕ) → belongs n p id ≡ true
          → read_off (envelopes_by target id) (outcome_at job old s id) ≡ read_off (envelopes_by target id) (outcome_at job new s id)
      alike id mine = read id (outcome_at job old s id) ∙ (ap (named id) (h id mine) ∙ sym (read id (outcome_at job new s id)))

  -- its records have the same contributions at a place, in their order, where each of its vertices contributes the same there
  pub same_contributions_in_share : (place : ℕ) → AllContributeAlike job old new (belongs n p) s place
      → at_place place (flat_map (λ r. r.1.contributed) (records_in job old n p s))
      ≡ at_place place (flat_map (λ r. r.1.contributed) (records_in job new n p s))
  same_contributions_in_share place h =
      ap (at_place place) (contributions-records_in job old n p s)
      ∙ (same_contributions job old new rising rising' (belongs n p) s place h
      ∙ sym (ap (at_place place) (contributions-records_in job new n p s)))
