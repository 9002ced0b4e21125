-- Ids and places through a run: where messages to nobody are dropped, the ids stay those of the graph; where they make
-- vertices, ids are only added, and only such as were sent to. There is a value for each aggregator all along.
use Rattle.std.proofs.Common.{◌≡◌, ℕ, zero, suc, ◌+◌, ◌<◌, ◌||◌, Bool, true, false, List, [], ◌∷◌, ℤ, map, length, refl, ap, ap₂, sym, ◌∙◌, subst}
use Rattle.std.proofs.Common.{arith, option_map, ◌⊎◌, inl, inr, Option, true≢false}
use Rattle.std.proofs.lemmas.Bool.{cases_Bool}
use Rattle.std.proofs.lemmas.List.{length-map}
use Rattle.std.specs.Ordering.{nat_cmp}
use Rattle.std.specs.Map.{keys_of}
use Rattle.std.specs.List.Sorted.{IsStrictlySortedBy}
use Rattle.std.proofs.Math.Bool.{or-true}
use Rattle.pg_graph.specs.Rows.{Rows, HasRisingIds}
use Rattle.pg_graph.specs.Handed.{Row}
use Rattle.pg_graph.specs.declared.missing.Missing.{Missing}
use Rattle.pg_graph.specs.declared.missing.Missing.TheVariants.{Drop}
use Rattle.pg_model.specs.InOrder.{AreWaiting, IsInOrder}
use Rattle.pg_model.specs.Job.{Job, Program, Combining, Totals, Aggregating}
use Rattle.pg_model.specs.Superstep.{ids, has_id, next, totals_of, present, visible_in, gathered_from, view_in, state_after, outcome, delivered}
use Rattle.pg_model.specs.Superstep.{sends, undeliverable, waiting_after}
use Rattle.pg_model.specs.Needed.{with_inbox_at}
use Rattle.pg_model.specs.Run.{first, beginning, configuration, present_at, view_at}
use Rattle.pg_model.specs.declared.configuration.VertexWithInbox.{VertexWithInbox}
use Rattle.pg_model.proofs.LawsMade.{AreWaiting-none, AreWaiting-after, present-rise, present-none, has_id-present, waiting_sent}
use Rattle.pg_model.proofs.LawsVerticesWithInbox.{with_inbox_at-map}
use Rattle.pg_model.specs.declared.view.View.{View}
use Rattle.pg_model.specs.declared.configuration.Configuration.{Configuration}

-- the master leaves a value for each aggregator where it is given one for each
abbrev pub KeepsPlaces : {V M : Type 0} → Job V M → Type 0
KeepsPlaces job =
    (s : ℕ) (totals : Totals) (gathered : List ℤ) → length gathered ≡ length job.aggregators → length
    (job.deciding s totals gathered).values ≡ length job.aggregators

-- as many gathered values as there are aggregators with a visible value
pub length-gathered_from : (place : ℕ) (aggregators : List Aggregating) (values : List ℤ) (contributed : List (ℕ × ℤ))
    → length values ≡ length aggregators → length (gathered_from place aggregators values contributed) ≡ length aggregators
unfolding gathered_from
length-gathered_from place [] values contributed e = refl
length-gathered_from place (a ∷ rest) [] contributed e = e
length-gathered_from place (a ∷ rest) (value ∷ values) contributed e =
    let e' : length values ≡ length rest = omega arith in
    ap suc (length-gathered_from (place + 1) rest values contributed e')

-- what a superstep of the vertices xs makes of one of them
abbrev pub with_inbox_after : {V M : Type 0} → Job V M → View → List (VertexWithInbox V M) → VertexWithInbox V M → VertexWithInbox V M
with_inbox_after job view xs x = record {
  state = state_after x.state (outcome job.program view x);
  inbox = delivered job.combining x.state.id (sends job.program view xs);
}

or_right : (a b : Bool) → (a || b) ≡ true → a ≡ false → b ≡ true
or_right true b h e = absurd (true≢false e)
or_right false b h e = h

waiting-drop : {M : Type 0} (missing : Missing) (combining : Option (Combining M)) (undeliverables : List (ℕ × M)) → missing ≡ Drop
    → waiting_after missing combining undeliverables ≡ []
waiting-drop missing combining undeliverables drops = ap (λ m. waiting_after m combining undeliverables) drops

module _ {V M : Type 0} where
  -- what leaves each vertex its id leaves the ids
  ids-map : (f : VertexWithInbox V M → VertexWithInbox V M) → ((x : VertexWithInbox V M) → (f x).state.id ≡ x.state.id) → (xs : List (VertexWithInbox V M)) → ids (map f xs) ≡ ids xs
  ids-map f k [] = refl
  ids-map f k (x ∷ xs) = ap₂ ◌∷◌ (k x) (ids-map f k xs)

  ids-beginning : (program : Program V M) (rows : Rows) → ids (map (beginning program) rows) ≡ keys_of rows
  ids-beginning program [] = refl
  ids-beginning program (row ∷ rows) = ap (◌∷◌ row.0) (ids-beginning program rows)

  module _ (job : Job V M) where
    -- after a superstep the ids are those of its vertices
    pub ids-next : (s : ℕ) (c : Configuration V M) → ids (next job s c).with_inboxes ≡ ids (present job.program c)
    unfolding next
    ids-next s c = ids-map _ (λ x. refl) (present job.program c)

    -- and each of them has its outcome's state, with what was sent to it
    pub with_inbox_at-next : (s : ℕ) (c : Configuration V M) (id : ℕ)
        → with_inbox_at id (next job s c).with_inboxes
        ≡ option_map (with_inbox_after job (view_in job s c) (present job.program c)) (with_inbox_at id (present job.program c))
    unfolding next
    with_inbox_at-next s c id = with_inbox_at-map _ (λ x. refl) id (present job.program c)

    -- the order is kept
    pub IsInOrder-next : (s : ℕ) (c : Configuration V M) → IsInOrder c → IsInOrder (next job s c)
    unfolding next
    IsInOrder-next s c h =
        let xs : List (VertexWithInbox V M) = present job.program c in
        let all : List (ℕ × M) = sends job.program (view_in job s c) xs in
        record {
          with_inboxes = subst (IsStrictlySortedBy nat_cmp) (sym (ids-next s c)) (present-rise job.program c h.with_inboxes h.waiting);
          waiting =
              subst (λ is. AreWaiting is (waiting_after job.missing job.combining (undeliverable (ids xs) all))) (sym (ids-next s c))
              (AreWaiting-after job.missing job.combining (ids xs) all);
        }

    module _ (rows : Rows) where
      IsInOrder-first : HasRisingIds rows → IsInOrder (first job rows)
      unfolding first
      IsInOrder-first rising = record {
        with_inboxes = subst (IsStrictlySortedBy nat_cmp) (sym (ids-beginning job.program rows)) rising;
        waiting = AreWaiting-none (ids (map (beginning job.program) rows));
      }

      -- where the rows' ids rise, every configuration is in order
      pub in_order : HasRisingIds rows → (s : ℕ) → IsInOrder (configuration job rows s)
      unfolding configuration
      in_order rising zero = IsInOrder-first rising
      in_order rising (suc s) = IsInOrder-next s (configuration job rows s) (in_order rising s)

      -- and so are the vertices of every superstep
      pub ids_rise : HasRisingIds rows → (s : ℕ) → IsStrictlySortedBy nat_cmp (ids (present_at job rows s))
      ids_rise rising s = let h = in_order rising s in present-rise job.program (configuration job rows s) h.with_inboxes h.waiting

      -- ---- where messages to nobody are dropped

      -- nothing ever waits
      pub none_waits : job.missing ≡ Drop → (s : ℕ) → (configuration job rows s).waiting ≡ []
      unfolding first configuration next
      none_waits drops zero = refl
      none_waits drops (suc s) = waiting-drop job.missing job.combining _ drops

      -- the vertices of a superstep are those that have a state
      pub present-drop : job.missing ≡ Drop → (s : ℕ) → present_at job rows s ≡ (configuration job rows s).with_inboxes
      present-drop drops s = present-none job.program (configuration job rows s) (none_waits drops s)

      -- every configuration has the graph's ids, in their order
      pub ids-configuration : job.missing ≡ Drop → (s : ℕ) → ids (configuration job rows s).with_inboxes ≡ keys_of rows
      unfolding first configuration
      ids-configuration drops zero = ids-beginning job.program rows
      ids-configuration drops (suc s) =
          ids-next s (configuration job rows s) ∙ (ap (λ (xs : List (VertexWithInbox V M)). ids xs) (present-drop drops s) ∙ ids-configuration drops s)

      -- there are as many vertices in every configuration as rows
      pub length-with_inboxes : job.missing ≡ Drop → (s : ℕ) → length (configuration job rows s).with_inboxes ≡ length rows
      length-with_inboxes drops s =
          sym (length-map (configuration job rows s).with_inboxes (λ (x : VertexWithInbox V M). x.state.id))
          ∙ (ap length (ids-configuration drops s) ∙ length-map rows (λ (row : ℕ × Row). row.0))

      -- ---- where they make vertices

      -- an id that has a state keeps one
      pub ids-grow : (s id : ℕ) → has_id (ids (configuration job rows s).with_inboxes) id ≡ true
          → has_id (ids (configuration job rows (suc s)).with_inboxes) id ≡ true
      unfolding configuration
      ids-grow s id h =
          let c : Configuration V M = configuration job rows s in
          ap (λ is. has_id is id) (ids-next s c)
          ∙ (has_id-present job.program c id ∙ (ap (λ b. has_id (map (λ w. w.0) c.waiting) id || b) h ∙ or-true (has_id (map (λ w. w.0) c.waiting) id)))

      -- an id was sent to at least two supersteps ago
      pub record WasSentTo (s id : ℕ) : Type 0 where
        pub before : ℕ
        pub earlier : before + 1 < s
        pub sent : has_id (map (λ m. m.0) (sends job.program (view_at job rows before) (present_at job rows before))) id ≡ true

      waited : (s id : ℕ) → has_id (map (λ w. w.0) (configuration job rows s).waiting) id ≡ true → WasSentTo (suc s) id
      unfolding first configuration next
      waited zero id h = absurd (true≢false (sym h))
      waited (suc s) id h = record {
        before = s;
        earlier = omega arith;
        sent = waiting_sent job.missing job.combining (ids (present_at job rows s)) (sends job.program (view_at job rows s) (present_at job rows s)) id h;
      }

      -- an id that has a state is the graph's, or was sent to
      pub id_from : (s id : ℕ) → has_id (ids (configuration job rows s).with_inboxes) id ≡ true → (has_id (keys_of rows) id ≡ true) ⊎ WasSentTo s id
      unfolding first configuration
      id_from zero id h = inl (sym (ap (λ is. has_id is id) (ids-beginning job.program rows)) ∙ h)
      id_from (suc s) id h =
          let c : Configuration V M = configuration job rows s in
          let either = sym (has_id-present job.program c id) ∙ (sym (ap (λ is. has_id is id) (ids-next s c)) ∙ h) in
          elim (cases_Bool (has_id (map (λ w. w.0) c.waiting) id)) [
            | inl waits ↦ inr (waited s id waits)
            | inr not ↦
                elim (id_from s id (or_right (has_id (map (λ w. w.0) c.waiting) id) (has_id (ids c.with_inboxes) id) either not)) [
                  | inl theirs ↦ inl theirs
                  | inr was ↦ inr (record { before = was.before; earlier = omega (arith, was.earlier); sent = was.sent })
                ]
          ]

      -- ---- under both

      -- there is a gathered value for each aggregator in every configuration
      pub length-gathered : KeepsPlaces job → (s : ℕ) → length (configuration job rows s).gathered ≡ length job.aggregators
      unfolding first configuration next visible_in
      length-gathered keeps zero = length-map job.aggregators (λ (a : Aggregating). a.initial)
      length-gathered keeps (suc s) =
          length-gathered_from 0 job.aggregators _ _
          (keeps s (totals_of (configuration job rows s)) (configuration job rows s).gathered (length-gathered keeps s))
