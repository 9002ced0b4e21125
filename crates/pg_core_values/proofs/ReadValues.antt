-- The values that the partitions of a run have are the run's.
use Rattle.std.proofs.Common.{◌≡◌, ℕ, zero, suc, ◌+◌, ◌-◌, ◌<◌, ◌≤◌, ◌%◌, Bool, true, false, cond, ◌||◌, ◌&&◌, List, [], ◌∷◌, ◌++◌, map, take, get_or}
use Rattle.std.proofs.Common.{length, Option, None, Some, option_and_then, option_map, refl, ap, ap₂, sym, ◌∙◌, arith, true≢false, filter, flat_map}
use Rattle.std.specs.Prelude.{◌==◌}
use Rattle.std.specs.List.{AllByRecursion, find, range_with_len}
use Rattle.std.specs.List.Sorted.{IsStrictlySortedBy}
use Rattle.std.specs.Map.{keys_of}
use Rattle.std.specs.Option.{option_or}
use Rattle.std.specs.Ordering.{nat_cmp}
use Rattle.std.proofs.Math.ListN.{get_or-map}
use Rattle.std.proofs.Math.Nat.{mod-lt}
use Rattle.std.proofs.lemmas.Bool.{eq-eqb}
use Rattle.std.proofs.lemmas.List.{take_more}
use Rattle.std.proofs.lemmas.List.Folds.{list_any-append}
use Rattle.std.proofs.lemmas.Simd.{map-map}
use Rattle.pg_core_values.specs.Values.{HasShare, HaveShares, ids_before, ids_of_part, ran_between, state_by, state_in, traces_of, valued}
use Rattle.pg_graph.specs.Rows.{Rows}
use Rattle.pg_graph.specs.declared.missing.Missing.{Missing}
use Rattle.pg_graph.specs.declared.missing.Missing.TheVariants.{Drop, Create}
use Rattle.pg_map.specs.Entries.{HasRisingIds, value_at}
use Rattle.pg_model.specs.Job.{Job}
use Rattle.pg_model.specs.Needed.{with_inbox_at}
use Rattle.pg_model.specs.Run.{configuration, values_of}
use Rattle.pg_model.specs.Share.{belongs, share}
use Rattle.pg_model.specs.Superstep.{has_id, ids}
use Rattle.pg_model.specs.declared.configuration.VertexWithInbox.{VertexWithInbox}
use Rattle.pg_model.specs.declared.configuration.VertexState.{VertexState}
use Rattle.std.specs.declared.cmp.Ordering.TheVariants.{Less}
use Rattle.pg_model.proofs.LawsIds.{ids-configuration, in_order}
use Rattle.pg_model.proofs.LawsLists.{filter-map}
use Rattle.pg_model.proofs.LawsPresent.{at_key, with_inbox_at-none}
use Rattle.pg_model.proofs.LawsRising.{flat_map-rising, has_id-filter}
use Rattle.pg_model.proofs.LawsVerticesWithInbox.{found_by_id}
use Rattle.pg_part.specs.Part.{PartState}
use Rattle.pg_part.proofs.Handed.{flat_map-push}
use Rattle.pg_trace.specs.OfRun.{HoldsRun, run_state}
use Rattle.pg_trace.specs.Handed.{last_record}
use Rattle.pg_trace.specs.Trace.{Trace, left_by, records_of, state_at}
use Rattle.pg_trace.proofs.RunStates.{state_of_run}

-- what each element has is gathered, one element more
pub gathered_more : {X Y : Type 0} (f : X → List Y) (xs : List X) (i : ℕ) {x : X} {before after : List Y} → i < length xs → x ≡ get_or xs i x
    → before ≡ flat_map f (take i xs) → after ≡ before ++ f x → after ≡ flat_map f (take (i + 1) xs)
gathered_more f xs i {x} within is so_far pushed =
    pushed ∙ ap (λ l. l ++ f x) so_far ∙ sym (flat_map-push f (take i xs) x)
    ∙ ap (flat_map f) (ap (λ y. take i xs ++ y ∷ []) is ∙ sym (take_more xs i x within))

-- ---- what isn't listed isn't found

pub neither : (a b : Bool) → (a || b) ≡ false → (a ≡ false) × (b ≡ false)
neither true b h = absurd (true≢false h)
neither false b h = (refl, h)

none_keyed : {X : Type 0} (key : X → ℕ) (id : ℕ) (xs : List X) → has_id (map key xs) id ≡ false → find (λ x. key x == id) xs ≡ None
none_keyed key id [] h = refl
none_keyed key id (x ∷ xs) h =
    let p = neither (key x == id) (has_id (map key xs) id) h in
    ap (λ (b : Bool). cond b (Some x) (find (λ x. key x == id) xs)) p.0 ∙ none_keyed key id xs p.1

pub none_valued : {X : Type 0} (id : ℕ) (es : List (ℕ × X)) → has_id (keys_of es) id ≡ false → value_at id es ≡ None
none_valued id [] h = refl
none_valued id (e ∷ es) h =
    let p = neither (e.0 == id) (has_id (keys_of es) id) h in
    ap (λ (b : Bool). cond b (Some e.1) (value_at id es)) (at_key id e.0 ∙ p.0) ∙ none_valued id es p.1

none_ran : {X : Type 0} (id s : ℕ) (rs : List (List (ℕ × X))) → ((t : ℕ) → t < s → has_id (keys_of (get_or rs t [])) id ≡ false)
    → last_record id (take s rs) ≡ None
none_ran id zero rs h = refl
none_ran id (suc s) [] h = refl
none_ran id (suc s) (r ∷ rs) h =
    ap₂ option_or (none_ran id s rs (λ t less. h (suc t) (omega arith))) (none_valued id r (h 0 (omega arith)))

pub none_in_range : (id : ℕ) (f : ℕ → List ℕ) (a n : ℕ) → has_id (flat_map f (range_with_len a n)) id ≡ false → (t : ℕ) → t < n → has_id (f (a + t)) id ≡ false
none_in_range id f a zero h t less = absurd (omega arith)
none_in_range id f a (suc n) h t less = by t less (none_in_range id f (a + 1) n parts.1)
  where
    parts : (has_id (f a) id ≡ false) × (has_id (flat_map f (range_with_len (a + 1) n)) id ≡ false)
    parts = neither _ _ (sym (list_any-append (λ other. other == id) (f a) (flat_map f (range_with_len (a + 1) n))) ∙ h)

    by : (t : ℕ) → t < suc n → ((t : ℕ) → t < n → has_id (f (a + 1 + t)) id ≡ false) → has_id (f (a + t)) id ≡ false
    by zero less later = ap (λ k. has_id (f k) id) (let e : a + 0 ≡ a = omega arith in e) ∙ parts.0
    by (suc t) less later = ap (λ k. has_id (f k) id) (let e : a + suc t ≡ a + 1 + t = omega arith in e) ∙ later t (omega arith)

pub none_at : {X : Type 0} (id : ℕ) (f : X → List ℕ) (d : X) → has_id (f d) id ≡ false → (xs : List X) (i : ℕ)
    → has_id (flat_map f xs) id ≡ false → has_id (f (get_or xs i d)) id ≡ false
none_at id f d none [] i h = none
none_at id f d none (x ∷ xs) i h = by i (λ i. none_at id f d none xs i parts.1)
  where
    parts : (has_id (f x) id ≡ false) × (has_id (flat_map f xs) id ≡ false)
    parts = neither _ _ (sym (list_any-append (λ other. other == id) (f x) (flat_map f xs)) ∙ h)

    by : (i : ℕ) → ((i : ℕ) → has_id (f (get_or xs i d)) id ≡ false) → has_id (f (get_or (x ∷ xs) i d)) id ≡ false
    by zero later = parts.0
    by (suc i) later = later i

-- ---- one partition

module _ {V M : Type 0} (job : Job V M) (rows : Rows) (n p s id : ℕ) (mine : belongs n p id ≡ true) (trace : Trace V M)
    (holds : HoldsRun job rows n p s trace) where
  none_among : (xs : List (VertexWithInbox V M))
      → has_id (map (λ x. x.id) (map (λ x. x.state) (filter (λ x. belongs n p x.state.id) xs))) id ≡ false → has_id (ids xs) id ≡ false
  none_among xs h =
      let picked = filter (λ x. belongs n p x.state.id) xs in
      let is : map (λ x. x.id) (map (λ x. x.state) picked) ≡ filter (belongs n p) (ids xs) =
      map-map (λ x. x.id) (λ x. x.state) picked ∙ sym (filter-map (belongs n p) (λ x. x.state.id) xs) in
      sym (ap (λ b. b && has_id (ids xs) id) mine) ∙ (sym (has_id-filter (belongs n p) (ids xs) id) ∙ (sym (ap (λ l. has_id l id) is) ∙ h))

  -- where messages to nobody are dropped, an id with which the partition didn't begin has no state
  none_begun : job.missing ≡ Drop → has_id (map (λ x. x.id) trace.initial) id ≡ false → run_state job rows id s ≡ None
  unfolding share
  none_begun drops h =
      let first = none_among (configuration job rows 0).with_inboxes (ap (λ l. has_id (map (λ x. x.id) l) id) (sym holds.initial) ∙ h) in
      let still = ap (λ l. has_id l id) (ids-configuration job rows drops s ∙ sym (ids-configuration job rows drops 0)) ∙ first in
      ap (option_map (λ x. x.state)) (with_inbox_at-none id (configuration job rows s).with_inboxes still)

  -- one that has neither begun nor run before has none
  none_before : has_id (map (λ x. x.id) trace.initial ++ ran_between 0 s trace) id ≡ false → run_state job rows id s ≡ None
  none_before h =
      let keys : ℕ → List ℕ = λ t. keys_of (records_of t trace) in
      let parts = neither _ _ (sym (list_any-append (λ other. other == id) (map (λ x. x.id) trace.initial) (ran_between 0 s trace)) ∙ h) in
      let ran =
      none_ran id s trace.records (λ t less. ap (λ k. has_id (keys k) id) (let e : t ≡ 0 + t = omega arith in e)
      ∙ none_in_range id keys 0 (s - 0) parts.1 t (omega (arith, less))) in
      let began = none_keyed (λ x. x.id) id trace.initial parts.0 in
      sym (state_of_run trace id s job rows n p s holds mine (let all : s ≤ s = omega arith in all))
      ∙ ap₂ (λ o i. option_or (option_map (left_by id) o) i) ran began

  none_listed : (missing : Missing) → job.missing ≡ missing → has_id (ids_before missing s trace) id ≡ false → run_state job rows id s ≡ None
  none_listed Drop is h = none_begun is h
  none_listed Create is h = none_before h

-- ---- all of them

valued_all : {V M : Type 0} (all xs : List (VertexWithInbox V M)) → AllByRecursion (λ x. with_inbox_at x.state.id all ≡ Some x) xs
    → flat_map (λ id. valued id (option_map (λ x. x.state) (with_inbox_at id all))) (ids xs) ≡ map (λ x. (x.state.id, x.state.value)) xs
valued_all all [] found = refl
valued_all all (x ∷ xs) found = ap₂ ◌++◌ (ap (λ o. valued x.state.id (option_map (λ x. x.state) o)) found.0) (valued_all all xs found.1)

module _ {V M : Type 0} (job : Job V M) (rows : Rows) (n s : ℕ) (parts : List (Option (PartState V M))) (have : HaveShares job rows n s parts) where
  pub state_is : (id : ℕ) → state_in n s parts id ≡ run_state job rows id s
  state_is id = by (get_or parts (id % n) None) (have.shares (id % n) (mod-lt id have.some))
    where
      by : (part : Option (PartState V M)) → HasShare job rows n (id % n) s part
          → option_and_then (λ part. state_at id s part.part_run.trace) part ≡ run_state job rows id s
      by None h = absurd h
      by (Some part) h = state_of_run part.part_run.trace id s job rows n (id % n) s h (eq-eqb (id % n) (id % n) refl) (let all : s ≤ s = omega arith in all)

  unlisted : (id : ℕ) → has_id (flat_map (ids_of_part job.missing s) parts) id ≡ false → run_state job rows id s ≡ None
  unlisted id h =
      by (get_or parts (id % n) None) (have.shares (id % n) (mod-lt id have.some)) (none_at id (ids_of_part job.missing s) None refl parts (id % n) h)
    where
      by : (part : Option (PartState V M)) → HasShare job rows n (id % n) s part → has_id (ids_of_part job.missing s part) id ≡ false
          → run_state job rows id s ≡ None
      by None holds none = absurd holds
      by (Some part) holds none = none_listed job rows n (id % n) s id (eq-eqb (id % n) (id % n) refl) part.part_run.trace holds job.missing refl none

  pub rows_rise : HasRisingIds rows
  rows_rise = by (get_or parts 0 None) (have.shares 0 have.some)
    where
      by : (part : Option (PartState V M)) → HasShare job rows n 0 s part → HasRisingIds rows
      by None h = absurd h
      by (Some part) h = h.rise

  -- what is read at these rising ids, among which all of theirs are
  pub values_are : (is : List ℕ) → IsStrictlySortedBy nat_cmp is → ((id : ℕ) → has_id is id ≡ has_id (flat_map (ids_of_part job.missing s) parts) id)
      → flat_map (λ id. valued id (state_in n s parts id)) is ≡ values_of job rows (configuration job rows s)
  values_are is rise same =
      let all : List (VertexWithInbox V M) = (configuration job rows s).with_inboxes in
      let made : ℕ → List (ℕ × V) = λ id. valued id (run_state job rows id s) in
      let order = (in_order job rows rows_rise s).with_inboxes in
      ap (λ (f : ℕ → List (ℕ × V)). flat_map f is) (λ i id. valued id (state_is id i))
      ∙ (flat_map-rising is (ids all) rise order made
      (λ id none. ap (valued id) (unlisted id (sym (same id) ∙ none)))
      (λ id none. ap (λ o. valued id (option_map (λ x. x.state) o)) (with_inbox_at-none id all none))
      ∙ valued_all all all (found_by_id all order))

-- ---- what is read at rising ids rises

all_valued : {V : Type 0} (P : ℕ → Type 0) (f : ℕ → Option (VertexState V)) (is : List ℕ) → AllByRecursion P is
    → AllByRecursion P (keys_of (flat_map (λ id. valued id (f id)) is))
all_valued P f [] all = tt
all_valued {V} P f (i ∷ is) all = by (f i) (all_valued P f is all.1)
  where
    by : (o : Option (VertexState V)) → AllByRecursion P (keys_of (flat_map (λ id. valued id (f id)) is))
        → AllByRecursion P (keys_of (valued i o ++ flat_map (λ id. valued id (f id)) is))
    by None later = later
    by (Some x) later = (all.0, later)

pub valued_rise : {V : Type 0} (f : ℕ → Option (VertexState V)) (is : List ℕ) → IsStrictlySortedBy nat_cmp is
    → HasRisingIds (flat_map (λ id. valued id (f id)) is)
unfolding IsStrictlySortedBy
valued_rise f [] rise = tt
valued_rise {V} f (i ∷ is) rise = by (f i) (valued_rise f is rise.1)
  where
    by : (o : Option (VertexState V)) → HasRisingIds (flat_map (λ id. valued id (f id)) is) → HasRisingIds (valued i o ++ flat_map (λ id. valued id (f id)) is)
    by None later = later
    by (Some x) later = (all_valued (λ y. nat_cmp i y ≡ Less) f is rise.0, later)

-- ---- the same states, read from the traces alone

module _ {V M : Type 0} (n s : ℕ) (parts : List (Option (PartState V M))) where
  pub same_state : (id : ℕ) → state_by n s (traces_of parts) id ≡ state_in n s parts id
  same_state id =
      ap (option_and_then (λ trace. state_at id s trace)) (get_or-map (option_map (λ part. part.part_run.trace)) parts (id % n) None)
      ∙ by (get_or parts (id % n) None)
    where
      by : (o : Option (PartState V M))
          → option_and_then (λ trace. state_at id s trace) (option_map (λ part. part.part_run.trace) o) ≡ option_and_then
          (λ part. state_at id s part.part_run.trace) o
      by None = refl
      by (Some part) = refl

  pub same_values : (ids : List ℕ) → flat_map (λ id. valued id (state_by n s (traces_of parts) id)) ids ≡ flat_map (λ id. valued id (state_in n s parts id)) ids
  same_values ids = λ i. flat_map (λ id. valued id (same_state id i)) ids
