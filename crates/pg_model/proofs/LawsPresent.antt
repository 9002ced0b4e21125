-- The vertices of a superstep, told by their ids: how each stands there, what it has received, and what they give.
use Rattle.std.proofs.Common.{◌≡◌, ℕ, zero, suc, ◌<◌, Bool, true, false, cond, not, ◌||◌, ◌==◌, ltb, List, [], ◌∷◌, ◌++◌, map, Option, None, Some}
use Rattle.std.proofs.Common.{option_map, option_and_then, is_some, refl, ap, ap₂, sym, ◌∙◌, subst, arith, true≢false, inl, inr, ◌⊎◌, filter}
use Rattle.std.proofs.Common.{flat_map}
use Rattle.std.specs.BTreeMap.{is_at}
use Rattle.std.specs.List.{AllByRecursion}
use Rattle.std.specs.List.Sorted.{IsStrictlySortedBy}
use Rattle.std.specs.Option.{option_or}
use Rattle.std.specs.Ordering.{nat_cmp}
use Rattle.std.proofs.lemmas.Bool.{cond_both, eqb-true, lt-ltb, or_parts}
use Rattle.std.proofs.lemmas.Bool.Decides.{nat_tests}
use Rattle.std.proofs.lemmas.List.Folds.{flat_map-map}
use Rattle.std.proofs.lemmas.Option.{none-some, same_Some}
use Rattle.pg_graph.proofs.Drafting.{none_there}
use Rattle.pg_graph.specs.Rows.{Rows, HasRisingIds, row_at}
use Rattle.pg_graph.specs.declared.missing.Missing.{Missing}
use Rattle.pg_graph.specs.declared.missing.Missing.TheVariants.{Drop, Create}
use Rattle.pg_model.specs.ByIds.{state_first, state_left, state_of, waiting_at, outcome_in, made_of, inbox_of, read_off, with_inbox_with, arriving}
use Rattle.pg_model.specs.ByIds.{state_at, inbox_at, outcome_at, delivered_at, IsIdleAt}
use Rattle.pg_model.specs.InOrder.{AreWaiting}
use Rattle.pg_model.specs.Job.{Job, Program, Inputs, Combining}
use Rattle.pg_model.specs.Needed.{with_inbox_at, inputs_if_active, inputs_at}
use Rattle.pg_model.specs.Run.{beginning, configuration, first, present_at, view_at, run_length}
use Rattle.pg_model.specs.Superstep.{ids, is_empty, is_active, has_id, messages_to, combined, delivered, undeliverable, targets, waiting_after, placed, made}
use Rattle.pg_model.specs.Superstep.{with_made, present, idle, sends, next}
use Rattle.pg_model.proofs.LawsAgreement.{outcome-idle, state_after-idle}
use Rattle.pg_model.proofs.LawsIds.{ids_rise, ids-next, with_inbox_at-next, with_inbox_after}
use Rattle.pg_model.proofs.LawsInputs.{inputs_of_executed}
use Rattle.pg_model.proofs.LawsLists.{all_weaker, filter-filter}
use Rattle.pg_model.proofs.LawsMade.{AreWaiting-none, AreWaiting-after, apart_still, has_id-targets}
use Rattle.pg_model.proofs.LawsVerticesWithInbox.{with_inbox_is, found_by_id}
use Rattle.pg_model.specs.declared.configuration.Configuration.{Configuration}
use Rattle.pg_model.specs.declared.configuration.VertexWithInbox.{VertexWithInbox}
use Rattle.pg_model.specs.declared.configuration.VertexState.{VertexState}
use Rattle.pg_model.specs.declared.record.Record.{Record}
use Rattle.pg_model.specs.declared.view.View.{View}

-- ---- options and truth values

-- nothing else changes what there is
or_nothing : {X : Type 0} (o : Option X) → o ≡ option_or o None
or_nothing None = refl
or_nothing (Some x) = refl

-- two functions of what there is, one after the other
mapped_twice : {X Y Z : Type 0} (g : Y → Z) (f : X → Y) (o : Option X) → option_map g (option_map f o) ≡ option_map (λ x. g (f x)) o
mapped_twice g f None = refl
mapped_twice g f (Some x) = refl

-- of two tests that can't both hold, either may be asked first
either_first : {X : Type 0} (a b : Bool) (x y z : X) → (a ≡ true → b ≡ true → ⊥) → cond b y (cond a x z) ≡ cond a x (cond b y z)
either_first true true x y z apart = absurd (apart refl refl)
either_first true false x y z apart = refl
either_first false b x y z apart = refl

-- an id is found among keys where it is equal
pub at_key : (id key : ℕ) → is_at (nat_cmp id) key ≡ (key == id)
at_key id key = grind (arith, nat_tests)

-- ---- messages to one vertex

module _ {M : Type 0} where
  -- all messages to an id that isn't among the ids are undeliverable
  pub delivered-undeliverable : (combining : Option (Combining M)) (is : List ℕ) (sent : List (ℕ × M)) (id : ℕ)
      → has_id is id ≡ false → delivered combining id (undeliverable is sent) ≡ delivered combining id sent
  delivered-undeliverable combining is sent id new =
      ap (λ (l : List (ℕ × M)). combined combining (map (λ m. m.1) l))
      (filter-filter (λ m. m.0 == id) (λ m. not (has_id is m.0)) (λ m. m.0 == id) (λ m. each m (m.0 == id) refl) sent)
    where
      each : (m : ℕ × M) (b : Bool) → (m.0 == id) ≡ b → cond (not (has_id is m.0)) b false ≡ b
      each m true e = ap (λ (c : Bool). cond (not c) true false) (ap (has_id is) (eqb-true m.0 id e) ∙ new)
      each m false e = cond_both (not (has_id is m.0)) false false (λ (c : Bool). c ≡ false) (λ _. refl) (λ _. refl)

  -- an id that no message goes to gets none
  no_messages : (sent : List (ℕ × M)) (id : ℕ) → has_id (map (λ (m : ℕ × M). m.0) sent) id ≡ false → messages_to id sent ≡ []
  no_messages [] id h = refl
  no_messages (m ∷ sent) id h =
      let both = or_parts (m.0 == id) (has_id (map (λ (x : ℕ × M). x.0) sent) id) h in
      let rest : List (ℕ × M) = filter (λ (x : ℕ × M). x.0 == id) sent in
      ap (λ (b : Bool). map (λ (x : ℕ × M). x.1) (cond b (m ∷ rest) rest)) both.0 ∙ no_messages sent id both.1

  -- no messages combine to none
  combined-none : (combining : Option (Combining M)) → combined combining [] ≡ []
  combined-none None = refl
  combined-none (Some c) = refl

  -- nothing is delivered to an id that is no target
  pub delivered-none : (combining : Option (Combining M)) (sent : List (ℕ × M)) (id : ℕ)
      → has_id (targets sent) id ≡ false → delivered combining id sent ≡ []
  delivered-none combining sent id h =
      ap (combined combining) (no_messages sent id (sym (has_id-targets sent id) ∙ h)) ∙ combined-none combining

  -- among inboxes for ids, an id finds its own
  find_inbox : (f : ℕ → List M) (is : List ℕ) (id : ℕ)
      → waiting_at id (map (λ k. (k, f k)) is) ≡ cond (has_id is id) (Some (id, f id)) None
  find_inbox f [] id = refl
  find_inbox f (k ∷ is) id = by (k == id) refl (find_inbox f is id)
    where
      by : (b : Bool) → (k == id) ≡ b
          → waiting_at id (map (λ k. (k, f k)) is) ≡ cond (has_id is id) (Some (id, f id)) None
          → cond b (Some (k, f k)) (waiting_at id (map (λ k. (k, f k)) is)) ≡ cond (b || has_id is id) (Some (id, f id)) None
      by true e rest = ap (λ (n : ℕ). Some (n, f n)) (eqb-true k id e)
      by false e rest = rest

  -- what waits for an id has that id, and a message
  waits_right : (ws : List (ℕ × List M)) (id : ℕ) → AllByRecursion (λ w. is_empty w.1 ≡ false) ws → (v : ℕ × List M)
      → waiting_at id ws ≡ Some v → (v.0 ≡ id) × (is_empty v.1 ≡ false)
  waits_right [] id h v e = absurd (none-some v e)
  waits_right (w ∷ ws) id h v e = by (w.0 == id) refl e (waits_right ws id h.1 v)
    where
      by : (b : Bool) → (w.0 == id) ≡ b → cond b (Some w) (waiting_at id ws) ≡ Some v
          → (waiting_at id ws ≡ Some v → (v.0 ≡ id) × (is_empty v.1 ≡ false))
          → (v.0 ≡ id) × (is_empty v.1 ≡ false)
      by true t e' later = subst (λ (u : ℕ × List M). (u.0 ≡ id) × (is_empty u.1 ≡ false)) (same_Some w v e') (eqb-true w.0 id t, h.0)
      by false t e' later = later e'

-- ---- vertices among others

module _ {V M : Type 0} where
  -- a vertex is found just where its id is among the ids
  pub is_some-with_inbox_at : (id : ℕ) (xs : List (VertexWithInbox V M)) → is_some (with_inbox_at id xs) ≡ has_id (ids xs) id
  is_some-with_inbox_at id [] = refl
  is_some-with_inbox_at id (x ∷ xs) = by (x.state.id == id) (is_some-with_inbox_at id xs)
    where
      by : (b : Bool) → is_some (with_inbox_at id xs) ≡ has_id (ids xs) id
          → is_some (cond b (Some x) (with_inbox_at id xs)) ≡ (b || has_id (ids xs) id)
      by true rest = refl
      by false rest = rest

  -- nothing is found of an id that isn't among them
  pub with_inbox_at-none : (id : ℕ) (xs : List (VertexWithInbox V M)) → has_id (ids xs) id ≡ false → with_inbox_at id xs ≡ None
  with_inbox_at-none id xs h = none_there (with_inbox_at id xs) (is_some-with_inbox_at id xs ∙ h)

  -- a vertex put among others is found by its id, and they by theirs
  with_inbox_at-placed : (x : VertexWithInbox V M) (ys : List (VertexWithInbox V M)) (id : ℕ) → has_id (ids ys) x.state.id ≡ false
      → with_inbox_at id (placed x ys) ≡ cond (x.state.id == id) (Some x) (with_inbox_at id ys)
  with_inbox_at-placed x [] id new = refl
  with_inbox_at-placed x (y ∷ ys) id new =
      let both = or_parts (y.state.id == x.state.id) (has_id (ids ys) x.state.id) new in
      by (ltb x.state.id y.state.id) both.0 (with_inbox_at-placed x ys id both.1)
    where
      by : (a : Bool) → (y.state.id == x.state.id) ≡ false
          → with_inbox_at id (placed x ys) ≡ cond (x.state.id == id) (Some x) (with_inbox_at id ys)
          → with_inbox_at id (cond a (x ∷ y ∷ ys) (y ∷ placed x ys)) ≡ cond (x.state.id == id) (Some x) (with_inbox_at id (y ∷ ys))
      by true unlike rest = refl
      by false unlike rest =
          ap (cond (y.state.id == id) (Some y)) rest
          ∙ either_first (x.state.id == id) (y.state.id == id) (Some x) (Some y) (with_inbox_at id ys)
          (λ e e'. true≢false (sym (ap (λ (n : ℕ). y.state.id == n) (eqb-true x.state.id id e) ∙ e') ∙ unlike))

  module _ (program : Program V M) where
    -- and so are those that messages make
    with_inbox_at-with_made : (xs : List (VertexWithInbox V M)) (ws : List (ℕ × List M)) (id : ℕ)
        → IsStrictlySortedBy nat_cmp (map (λ (w : ℕ × List M). w.0) ws)
        → AllByRecursion (λ (w : ℕ × List M). has_id (ids xs) w.0 ≡ false) ws
        → with_inbox_at id (with_made program xs ws) ≡ option_or (with_inbox_at id xs) (option_map (made program) (waiting_at id ws))
    unfolding IsStrictlySortedBy
    with_inbox_at-with_made xs [] id h apart = or_nothing (with_inbox_at id xs)
    with_inbox_at-with_made xs (w ∷ ws) id h apart =
        with_inbox_at-with_made (placed (made program w) xs) ws id h.1 (apart_still program w xs ws h.0 apart.1)
        ∙ (ap (λ (o : Option (VertexWithInbox V M)). option_or o rest) (with_inbox_at-placed (made program w) xs id apart.0) ∙ by (w.0 == id) refl)
      where
        rest : Option (VertexWithInbox V M)
        rest = option_map (made program) (waiting_at id ws)

        by : (b : Bool) → (w.0 == id) ≡ b
            → option_or (cond b (Some (made program w)) (with_inbox_at id xs)) rest
            ≡ option_or (with_inbox_at id xs) (option_map (made program) (cond b (Some w) (waiting_at id ws)))
        by true e =
            let new : has_id (ids xs) id ≡ false = sym (ap (has_id (ids xs)) (eqb-true w.0 id e)) ∙ apart.0 in
            ap (λ (o : Option (VertexWithInbox V M)). option_or o (Some (made program w))) (sym (with_inbox_at-none id xs new))
        by false e = refl

    -- messages make a vertex where there's no state
    made_with : (k id : ℕ) (ms : List M) → k ≡ id → is_empty ms ≡ false → Some (made program (k, ms)) ≡ with_inbox_with program id None ms
    made_with k id [] e h = absurd (true≢false h)
    made_with k id (m ∷ ms) e h = ap (λ (n : ℕ). Some (made program (n, m ∷ ms))) e

    -- a vertex with a state or made by what waits stands with its state, if it has one, and its inbox
    stands_by : (id : ℕ) (o : Option (VertexWithInbox V M)) (w : Option (ℕ × List M))
        → ((v : ℕ × List M) → w ≡ Some v → (v.0 ≡ id) × (is_empty v.1 ≡ false))
        → option_or o (option_map (made program) w)
        ≡ with_inbox_with program id (state_of o) (inbox_of (option_or o (option_map (made program) w)))
    stands_by id (Some x) w h = refl
    stands_by id None None h = refl
    stands_by id None (Some v) h = let r = h v refl in made_with v.0 id v.1 r.0 r.1

    module _ (c : Configuration V M) (waits : AreWaiting (ids c.with_inboxes) c.waiting) (id : ℕ) where
      -- a vertex of a superstep has a state, or else it waits to be made
      pub with_inbox_at-present : with_inbox_at id (present program c)
          ≡ option_or (with_inbox_at id c.with_inboxes) (option_map (made program) (waiting_at id c.waiting))
      with_inbox_at-present = with_inbox_at-with_made c.with_inboxes c.waiting id waits.rise waits.apart

      -- it stands there with its state, if it has one, and with its inbox
      pub stands_with-present : with_inbox_at id (present program c)
          ≡ with_inbox_with program id (state_of (with_inbox_at id c.with_inboxes)) (inbox_of (with_inbox_at id (present program c)))
      stands_with-present =
          let state : Option (VertexState V) = state_of (with_inbox_at id c.with_inboxes) in
          subst (λ (o : Option (VertexWithInbox V M)). o ≡ with_inbox_with program id state (inbox_of o)) (sym with_inbox_at-present)
          (stands_by id (with_inbox_at id c.with_inboxes) (waiting_at id c.waiting) (waits_right c.waiting id waits.some))

  -- what isn't there has no state
  none_with : (program : Program V M) (id : ℕ) (state : Option (VertexState V)) (inbox : List M)
      → None ≡ with_inbox_with program id state inbox → state ≡ None
  none_with program id None inbox e = refl
  none_with program id (Some state) inbox e = absurd (none-some _ e)

  -- what isn't active has one, since messages make active vertices only
  idle_with : (program : Program V M) (id : ℕ) (state : Option (VertexState V)) (inbox : List M) (x : VertexWithInbox V M)
      → Some x ≡ with_inbox_with program id state inbox → is_active x ≡ false → Some x.state ≡ state
  idle_with program id (Some state) inbox x e idles = ap (option_map (λ (y : VertexWithInbox V M). y.state)) e
  idle_with program id None [] x e idles = absurd (none-some x (sym e))
  idle_with program id None (m ∷ ms) x e idles =
      absurd (true≢false (sym (ap is_active (same_Some x (made program (id, m ∷ ms)) e)) ∙ idles))

  -- there's no vertex, or one that isn't active
  abbrev pub MissingOrIdle : Option (VertexWithInbox V M) → Type 0
  MissingOrIdle o = (o ≡ None) ⊎ ((x : VertexWithInbox V M) × (o ≡ Some x) × (is_active x ≡ false))

  -- all messages arrive where there's a state
  arriving-some : (missing : Missing) (state : VertexState V) (messages : List M) → messages ≡ arriving missing (Some state) messages
  arriving-some Drop state messages = refl
  arriving-some Create state messages = refl

  -- what waits for an id without a state is what arrives there
  waiting_inbox : (program : Program V M) (missing : Missing) (combining : Option (Combining M))
      → (is : List ℕ) (all : List (ℕ × M)) (id : ℕ) → has_id is id ≡ false
      → inbox_of (option_map (made program) (waiting_at id (waiting_after missing combining (undeliverable is all))))
      ≡ arriving {V = V} missing None (delivered combining id all)
  waiting_inbox program Drop combining is all id new = refl
  waiting_inbox program Create combining is all id new =
      ap (λ (o : Option (ℕ × List M)). inbox_of (option_map (made program) o))
      (find_inbox (λ k. delivered combining k undeliverables) (targets undeliverables) id)
      ∙ by (has_id (targets undeliverables) id) refl
    where
      undeliverables : List (ℕ × M)
      undeliverables = undeliverable is all

      by : (b : Bool) → has_id (targets undeliverables) id ≡ b
          → inbox_of (option_map (made program) (cond b (Some (id, delivered combining id undeliverables)) None)) ≡ delivered combining id all
      by true e = delivered-undeliverable combining is all id new
      by false e = sym (delivered-none combining undeliverables id e) ∙ delivered-undeliverable combining is all id new

  -- ---- as a run begins

  -- the vertex of a row is found by the row's id, with the state that the row gives it
  state_of_row : (program : Program V M) (id : ℕ) (rows : Rows)
      → state_of (with_inbox_at id (map (beginning program) rows)) ≡ option_map (state_first program id) (row_at id rows)
  state_of_row program id [] = refl
  state_of_row program id (row ∷ rows) =
      by (row.0 == id) refl (state_of_row program id rows)
      ∙ ap (λ (b : Bool). option_map (state_first program id) (cond b (Some row.1) (row_at id rows))) (sym (at_key id row.0))
    where
      all : List (VertexWithInbox V M)
      all = map (beginning program) rows

      by : (b : Bool) → (row.0 == id) ≡ b
          → state_of (with_inbox_at id all) ≡ option_map (state_first program id) (row_at id rows)
          → state_of (cond b (Some (beginning program row)) (with_inbox_at id all))
          ≡ option_map (state_first program id) (cond b (Some row.1) (row_at id rows))
      by true e rest = ap (λ (n : ℕ). Some (beginning program (n, row.1)).state) (eqb-true row.0 id e)
      by false e rest = rest

  -- and with an empty inbox
  inbox_of_row : (program : Program V M) (id : ℕ) (rows : Rows) → inbox_of (with_inbox_at id (map (beginning program) rows)) ≡ []
  inbox_of_row program id [] = refl
  inbox_of_row program id (row ∷ rows) =
      cond_both (row.0 == id) (Some (beginning program row)) (with_inbox_at id (map (beginning program) rows))
      (λ (o : Option (VertexWithInbox V M)). inbox_of o ≡ []) (λ _. refl) (λ _. inbox_of_row program id rows)

-- ---- vertices of a run

module _ {V M : Type 0} (job : Job V M) (rows : Rows) where
  -- what waits is in order all along
  AreWaiting-at : (s : ℕ) → AreWaiting (ids (configuration job rows s).with_inboxes) (configuration job rows s).waiting
  unfolding configuration first next
  AreWaiting-at zero = AreWaiting-none _
  AreWaiting-at (suc s) =
      let xs : List (VertexWithInbox V M) = present_at job rows s in
      let all : List (ℕ × M) = sends job.program (view_at job rows s) xs in
      subst (λ is. AreWaiting is (waiting_after job.missing job.combining (undeliverable (ids xs) all)))
      (sym (ids-next job s (configuration job rows s))) (AreWaiting-after job.missing job.combining (ids xs) all)

  -- as the run begins each row gives its vertex a state
  pub state_at-first : (id : ℕ) → state_at job rows 0 id ≡ option_map (state_first job.program id) (row_at id rows)
  unfolding configuration first
  state_at-first id = state_of_row job.program id rows

  -- and nobody has received anything
  pub inbox_at-first : (id : ℕ) → inbox_at job rows 0 id ≡ []
  unfolding configuration first
  inbox_at-first id = inbox_of_row job.program id rows

  -- a vertex stands in a superstep with its state, if it has one, and its inbox
  pub with_inbox_at-state : (s id : ℕ)
      → with_inbox_at id (present_at job rows s) ≡ with_inbox_with job.program id (state_at job rows s id) (inbox_at job rows s id)
  with_inbox_at-state s id = stands_with-present job.program (configuration job rows s) (AreWaiting-at s) id

  -- a superstep leaves each of its vertices the state of its outcome
  pub state_at-next : (s id : ℕ)
      → state_at job rows (suc s) id ≡ option_map (state_left job rows s) (with_inbox_at id (present_at job rows s))
  unfolding configuration
  state_at-next s id =
      ap state_of (with_inbox_at-next job s (configuration job rows s) id)
      ∙ mapped_twice (λ (x : VertexWithInbox V M). x.state) (with_inbox_after job (view_at job rows s) (present_at job rows s))
      (with_inbox_at id (present_at job rows s))

  -- and brings to each id what was sent to it; under `Drop` only where it has a state
  pub inbox_at-next : (s id : ℕ)
      → inbox_at job rows (suc s) id ≡ arriving job.missing (state_at job rows (suc s) id) (delivered_at job rows s id)
  unfolding configuration next
  inbox_at-next s id =
      ap inbox_of (with_inbox_at-present job.program (configuration job rows (suc s)) (AreWaiting-at (suc s)) id)
      ∙ subst (λ (o : Option (VertexWithInbox V M)). inbox_of (option_or o made_then) ≡ arriving job.missing (state_of o) brought)
      (sym (with_inbox_at-next job s (configuration job rows s) id)) (by (with_inbox_at id xs) refl)
    where
      xs : List (VertexWithInbox V M)
      xs = present_at job rows s

      all : List (ℕ × M)
      all = sends job.program (view_at job rows s) xs

      brought : List M
      brought = delivered job.combining id all

      made_then : Option (VertexWithInbox V M)
      made_then = option_map (made job.program) (waiting_at id (waiting_after job.missing job.combining (undeliverable (ids xs) all)))

      after : VertexWithInbox V M → VertexWithInbox V M
      after = with_inbox_after job (view_at job rows s) xs

      by : (o : Option (VertexWithInbox V M)) → with_inbox_at id xs ≡ o
          → inbox_of (option_or (option_map after o) made_then) ≡ arriving job.missing (state_of (option_map after o)) brought
      by (Some x) e =
          ap (λ (n : ℕ). delivered job.combining n all) (with_inbox_is id xs x e).0
          ∙ arriving-some job.missing (after x).state brought
      by None e =
          waiting_inbox job.program job.missing job.combining (ids xs) all id (sym (is_some-with_inbox_at id xs) ∙ ap is_some e)

  -- so this is how each id stands in the next superstep: with its state; or made by what was sent to it; or not at all
  pub with_inbox_at-next_state : (s id : ℕ)
      → with_inbox_at id (present_at job rows (suc s))
      ≡ with_inbox_with job.program id (state_at job rows (suc s) id)
      (arriving job.missing (state_at job rows (suc s) id) (delivered_at job rows s id))
  with_inbox_at-next_state s id =
      with_inbox_at-state (suc s) id ∙ ap (with_inbox_with job.program id (state_at job rows (suc s) id)) (inbox_at-next s id)

  -- ---- inputs

  -- in a superstep of the run an id has the inputs of its vertex
  pub inputs_within : (s id : ℕ) → s < run_length job rows
      → inputs_at job rows s id ≡ option_and_then (inputs_if_active (view_at job rows s)) (with_inbox_at id (present_at job rows s))
  unfolding inputs_at
  inputs_within s id within =
      let there : Option (Inputs V M) = option_and_then (inputs_if_active (view_at job rows s)) (with_inbox_at id (present_at job rows s)) in
      ap (λ (b : Bool). cond b there None) (lt-ltb s (run_length job rows) within)

  -- where there are none, the vertex isn't there or isn't active
  pub missing_or_idle : (s id : ℕ) → s < run_length job rows → inputs_at job rows s id ≡ None → MissingOrIdle (with_inbox_at id (present_at job rows s))
  missing_or_idle s id within none = by (with_inbox_at id (present_at job rows s)) refl
    where
      idles : (x : VertexWithInbox V M) → with_inbox_at id (present_at job rows s) ≡ Some x → (b : Bool) → is_active x ≡ b → is_active x ≡ false
      idles x at true e =
          absurd (none-some _ (sym none ∙ inputs_of_executed job rows s id x (record { within = within; present = at; active = e })))
      idles x at false e = e

      by : (o : Option (VertexWithInbox V M)) → with_inbox_at id (present_at job rows s) ≡ o → MissingOrIdle (with_inbox_at id (present_at job rows s))
      by None e = inl e
      by (Some x) e = inr (x, e, idles x e (is_active x) refl)

  -- and then the superstep leaves it as it is
  pub IsIdleAt-from_inputs : (s id : ℕ) → s < run_length job rows → inputs_at job rows s id ≡ None → IsIdleAt job rows s id
  IsIdleAt-from_inputs s id within none =
      elim (missing_or_idle s id within none) [
        | inl missing ↦ record {
          inputs = none;
          sent = ap (λ (o : Option (VertexWithInbox V M)). read_off (λ r. r.sent) (option_map (outcome_in job rows s) o)) missing;
          contributed = ap (λ (o : Option (VertexWithInbox V M)). read_off (λ r. r.contributed) (option_map (outcome_in job rows s) o)) missing;
          state = state_at-next s id ∙ (ap (option_map (state_left job rows s)) missing ∙ sym (before_none missing));
        }
        | inr there ↦ record {
          inputs = none;
          sent = ap (read_off (λ r. r.sent)) (outcome_then there.0 there.1 there.2);
          contributed = ap (read_off (λ r. r.contributed)) (outcome_then there.0 there.1 there.2);
          state = state_at-next s id ∙ (ap (option_map (state_left job rows s)) there.1 ∙ (remaining there.0 there.2 ∙ before_idle there.0 there.1 there.2));
        }
      ]
    where
      view : View
      view = view_at job rows s

      before_none : with_inbox_at id (present_at job rows s) ≡ None → state_at job rows s id ≡ None
      before_none missing =
          none_with job.program id (state_at job rows s id) (inbox_at job rows s id) (sym missing ∙ with_inbox_at-state s id)

      before_idle : (x : VertexWithInbox V M) → with_inbox_at id (present_at job rows s) ≡ Some x → is_active x ≡ false → Some x.state ≡ state_at job rows s id
      before_idle x at idles =
          idle_with job.program id (state_at job rows s id) (inbox_at job rows s id) x (sym at ∙ with_inbox_at-state s id) idles

      remaining : (x : VertexWithInbox V M) → is_active x ≡ false → Some (state_left job rows s x) ≡ Some x.state
      remaining x idles = ap Some (state_after-idle job.program view x idles)

      outcome_then : (x : VertexWithInbox V M) → with_inbox_at id (present_at job rows s) ≡ Some x → is_active x ≡ false → outcome_at job rows s id ≡ Some (idle x.state)
      outcome_then x at idles = ap (option_map (outcome_in job rows s)) at ∙ ap Some (outcome-idle job.program view x idles)

-- ---- what all vertices give

-- what is made of the elements that a test picks
flat_map-picked : {X Y : Type 0} (f : X → List Y) (p : X → Bool) (xs : List X)
    → flat_map f (filter p xs) ≡ flat_map (λ x. cond (p x) (f x) []) xs
flat_map-picked f p [] = refl
flat_map-picked {X = X} {Y = Y} f p (x ∷ xs) = by (p x) (flat_map-picked f p xs)
  where
    by : (b : Bool) → flat_map f (filter p xs) ≡ flat_map (λ x. cond (p x) (f x) []) xs
        → flat_map f (cond b (x ∷ filter p xs) (filter p xs)) ≡ cond b (f x) [] ++ flat_map (λ x. cond (p x) (f x) []) xs
    by true rest = ap (◌++◌ (f x)) rest
    by false rest = rest

-- what is made is the same where it is the same of each element
flat_map-each : {X Y : Type 0} (f g : X → List Y) (xs : List X) → AllByRecursion (λ x. f x ≡ g x) xs → flat_map f xs ≡ flat_map g xs
flat_map-each f g [] h = refl
flat_map-each f g (x ∷ xs) h = ap₂ ◌++◌ h.0 (flat_map-each f g xs h.1)

-- what is made of the records of those vertices that are picked, one after another, is made of what each id has
pub flat_map-present : {V M X : Type 0} (job : Job V M) (rows : Rows) → HasRisingIds rows
    → (part : ℕ → Record V M → List X) (picks : ℕ → Bool) (s : ℕ)
    → made_of job rows part picks s
    ≡ flat_map (λ id. cond (picks id) (read_off (part id) (outcome_at job rows s id)) []) (ids (present_at job rows s))
flat_map-present {V = V} {M = M} {X = X} job rows rising part picks s =
    let xs : List (VertexWithInbox V M) = present_at job rows s in
    let gives : VertexWithInbox V M → List X = λ x. part x.state.id (outcome_in job rows s x) in
    let has : ℕ → List X = λ id. cond (picks id) (read_off (part id) (outcome_at job rows s id)) [] in
    let read : ℕ → Option (VertexWithInbox V M) → List X = λ id o. cond (picks id) (read_off (part id) (option_map (outcome_in job rows s) o)) [] in
    flat_map-picked gives (λ x. picks x.state.id) xs
    ∙ (flat_map-each (λ x. cond (picks x.state.id) (gives x) []) (λ x. has x.state.id) xs
    (all_weaker (λ (x : VertexWithInbox V M). with_inbox_at x.state.id xs ≡ Some x) (λ (x : VertexWithInbox V M). cond (picks x.state.id) (gives x) [] ≡ has x.state.id)
    (λ x at. ap (read x.state.id) (sym at)) xs (found_by_id xs (ids_rise job rows rising s)))
    ∙ sym (flat_map-map has (λ (x : VertexWithInbox V M). x.state.id) xs))
