-- The shares of n partitions make up the run.
use Rattle.std.proofs.Common.{◌≡◌, ℕ, zero, suc, ◌+◌, ◌<◌, ◌%◌, Bool, true, ◌==◌, List, [], ◌∷◌, ◌++◌, map, ℤ, length, refl, ap, ap₂, sym, ◌∙◌, subst}
use Rattle.std.proofs.Common.{subst₂, arith, mod-lt, filter, flat_map, sum_by, count_by, IsPermutation, All, Option, None}
use Rattle.std.specs.List.{range_with_len}
use Rattle.std.specs.List.Sorted.{IsStrictlySortedBy}
use Rattle.std.specs.Ordering.{nat_cmp}
use Rattle.std.proofs.lemmas.List.{length-map, map-append}
use Rattle.std.proofs.lemmas.List.Elements.{filter-append}
use Rattle.std.proofs.lemmas.List.Folds.{flat_map-map}
use Rattle.std.proofs.lemmas.List.Kept.{IsStrictlySortedBy-filter}
use Rattle.std.proofs.lemmas.List.Sums.{length-filter, sum_by-cons, sum_by_push}
use Rattle.pg_graph.specs.Rows.{Rows, HasRisingIds}
use Rattle.pg_model.specs.Folds.{IsCommutativeMonoid}
use Rattle.pg_model.specs.Job.{Job, Program, Aggregating}
use Rattle.pg_model.specs.Superstep.{ids, is_active, outcome, state_after, sends, contributions, at_place, gathered_at, next}
use Rattle.pg_model.specs.Run.{configuration, present_at, view_at, executed, executions_below, run_length}
use Rattle.pg_model.specs.Needed.{is_needed, needed_in}
use Rattle.pg_model.specs.Order.{sendings_from, sendings}
use Rattle.pg_model.specs.Share.{belongs, with_inboxes_of_share, present_in_share, records_in, records_below, share, sendings_of}
use Rattle.pg_model.proofs.LawsAgreement.{outcome-idle}
use Rattle.pg_model.proofs.LawsFolds.{gathered_at-IsPermutation}
use Rattle.pg_model.proofs.LawsIds.{ids_rise, with_inbox_after}
use Rattle.pg_model.proofs.LawsNeeded.{needed_in-none}
use Rattle.pg_model.proofs.LawsLists.{all_pass, filter-map, flat_map-filter, flat_map-classes, classes, count-classes, count-none}
use Rattle.pg_model.specs.declared.configuration.VertexWithInbox.{VertexWithInbox}
use Rattle.pg_model.specs.declared.record.Record.{Record}
use Rattle.pg_model.specs.declared.view.View.{View}

map-map : {X Y Z : Type 0} (g : Y → Z) (f : X → Y) (xs : List X) → map g (map f xs) ≡ map (λ x. g (f x)) xs
map-map g f [] = refl
map-map g f (x ∷ xs) = ap (◌∷◌ (g (f x))) (map-map g f xs)

sum_of_sums : {X : Type 0} (f g : X → ℕ) (xs : List X) → sum_by (λ x. f x + g x) xs ≡ sum_by f xs + sum_by g xs
sum_of_sums f g [] = refl
sum_of_sums f g (x ∷ xs) = omega (arith, sum_by-cons (λ x. f x + g x) x xs, sum_by-cons f x xs, sum_by-cons g x xs, sum_of_sums f g xs)

at_place-append : (place : ℕ) (a b : List (ℕ × ℤ)) → at_place place (a ++ b) ≡ at_place place a ++ at_place place b
at_place-append place a b =
    ap (map (λ (c : ℕ × ℤ). c.1)) (filter-append (λ (c : ℕ × ℤ). c.0 == place) a b)
    ∙ map-append (λ (c : ℕ × ℤ). c.1) (filter (λ (c : ℕ × ℤ). c.0 == place) a) (filter (λ (c : ℕ × ℤ). c.0 == place) b)

module _ {V M : Type 0} (program : Program V M) (view : View) where
  -- only the vertices that are executed send
  pub sends-active : (xs : List (VertexWithInbox V M)) → sends program view (filter is_active xs) ≡ sends program view xs
  sends-active xs =
      flat_map-filter (λ (x : VertexWithInbox V M). (outcome program view x).sent) is_active
      (λ x e. ap (λ (r : Record V M). r.sent) (outcome-idle program view x e)) xs

  -- and so are all messages with their senders
  pub sendings-active : (xs : List (VertexWithInbox V M)) → sendings program view (filter is_active xs) ≡ sendings program view xs
  sendings-active xs =
      flat_map-filter (λ (x : VertexWithInbox V M). sendings_from x.state.id 0 (outcome program view x).sent) is_active
      (λ x e. ap (λ (r : Record V M). sendings_from x.state.id 0 r.sent) (outcome-idle program view x e)) xs

  -- only they contribute
  pub contributions-active : (xs : List (VertexWithInbox V M)) → contributions program view (filter is_active xs) ≡ contributions program view xs
  contributions-active xs =
      flat_map-filter (λ (x : VertexWithInbox V M). (outcome program view x).contributed) is_active
      (λ x e. ap (λ (r : Record V M). r.contributed) (outcome-idle program view x e)) xs

  -- the contributions at a place are each vertex's, one after another
  pub at_place-contributions : (place : ℕ) (xs : List (VertexWithInbox V M))
      → at_place place (contributions program view xs) ≡ flat_map (λ x. at_place place (outcome program view x).contributed) xs
  at_place-contributions place [] = refl
  at_place-contributions place (x ∷ xs) =
      at_place-append place (outcome program view x).contributed (contributions program view xs)
      ∙ ap (◌++◌ (at_place place (outcome program view x).contributed)) (at_place-contributions place xs)

module _ {V M : Type 0} (job : Job V M) (rows : Rows) (n : ℕ) where
  partition_of : VertexWithInbox V M → ℕ
  partition_of x = x.state.id % n

  module _ (p : ℕ) where
    -- a superstep takes a partition's vertices to what it makes of them
    pub with_inboxes_of_share-next : (s : ℕ)
        → with_inboxes_of_share job rows n p (suc s) ≡ map (with_inbox_after job (view_at job rows s) (present_at job rows s)) (present_in_share job rows n p s)
    unfolding configuration next
    with_inboxes_of_share-next s =
        filter-map (λ (x : VertexWithInbox V M). belongs n p x.state.id) (with_inbox_after job (view_at job rows s) (present_at job rows s)) (present_at job rows s)

    -- so the share grows by the records of the superstep
    pub share-next : (s : ℕ)
        → share job rows n p (suc s) ≡ record {
          states = map (λ x. state_after x.state (outcome job.program (view_at job rows s) x)) (present_in_share job rows n p s);
          records = (share job rows n p s).records ++ records_in job rows n p s ∷ [];
        }
    unfolding share records_below
    share-next s =
        let states : map (λ (x : VertexWithInbox V M). x.state) (with_inboxes_of_share job rows n p (suc s)) ≡ map
        (λ (x : VertexWithInbox V M). state_after x.state (outcome job.program (view_at job rows s) x))
        (present_in_share job rows n p s) = ap (map (λ (x : VertexWithInbox V M). x.state)) (with_inboxes_of_share-next s)
        ∙ map-map (λ (x : VertexWithInbox V M). x.state) (with_inbox_after job (view_at job rows s) (present_at job rows s)) (present_in_share job rows n p s) in
        λ i. record { states = states i; records = records_below job rows n p s ++ records_in job rows n p s ∷ [] }

    -- a partition's ids rise
    pub ids_rise_in_share : HasRisingIds rows → (s : ℕ) → IsStrictlySortedBy nat_cmp (ids (present_in_share job rows n p s))
    ids_rise_in_share rising s =
        let xs : List (VertexWithInbox V M) = present_at job rows s in
        subst (IsStrictlySortedBy nat_cmp) (filter-map (belongs n p) (λ (x : VertexWithInbox V M). x.state.id) xs)
        (IsStrictlySortedBy-filter nat_cmp (belongs n p) (ids xs) (ids_rise job rows rising s))

    -- the records of a superstep have all that the partition's vertices sent in it
    pub sends-records_in : (s : ℕ)
        → flat_map (λ r. r.1.sent) (records_in job rows n p s) ≡ sends job.program (view_at job rows s) (present_in_share job rows n p s)
    sends-records_in s =
        flat_map-map (λ (r : ℕ × Record V M). r.1.sent) (λ (x : VertexWithInbox V M). (x.state.id, outcome job.program (view_at job rows s) x))
        (filter is_active (present_in_share job rows n p s))
        ∙ sends-active job.program (view_at job rows s) (present_in_share job rows n p s)

    -- with their senders too
    pub sendings-records_in : (s : ℕ) → sendings_of (records_in job rows n p s) ≡ sendings job.program (view_at job rows s) (present_in_share job rows n p s)
    sendings-records_in s =
        flat_map-map (λ (r : ℕ × Record V M). sendings_from r.0 0 r.1.sent)
        (λ (x : VertexWithInbox V M). (x.state.id, outcome job.program (view_at job rows s) x))
        (filter is_active (present_in_share job rows n p s))
        ∙ sendings-active job.program (view_at job rows s) (present_in_share job rows n p s)

    -- and all that they contributed
    pub contributions-records_in : (s : ℕ)
        → flat_map (λ r. r.1.contributed) (records_in job rows n p s) ≡ contributions job.program (view_at job rows s) (present_in_share job rows n p s)
    contributions-records_in s =
        flat_map-map (λ (r : ℕ × Record V M). r.1.contributed)
        (λ (x : VertexWithInbox V M). (x.state.id, outcome job.program (view_at job rows s) x))
        (filter is_active (present_in_share job rows n p s))
        ∙ contributions-active job.program (view_at job rows s) (present_in_share job rows n p s)

    length-records_in : (s : ℕ) → length (records_in job rows n p s) ≡ count_by is_active (present_in_share job rows n p s)
    length-records_in s = length-map (filter is_active (present_in_share job rows n p s)) _ ∙ length-filter is_active (present_in_share job rows n p s)

  module _ (some : 0 < n) where
    within : (x : VertexWithInbox V M) → partition_of x < n
    unfolding partition_of
    within x = mod-lt x.state.id some

    -- all vertices that have a state are those of the partitions, in another order
    pub with_inboxes_in_shares : (s : ℕ)
        → IsPermutation (configuration job rows s).with_inboxes (flat_map (λ p. with_inboxes_of_share job rows n p s) (range_with_len 0 n))
    unfolding partition_of
    with_inboxes_in_shares s = classes partition_of n (configuration job rows s).with_inboxes within

    -- and so are all vertices of a superstep
    pub present_in_shares : (s : ℕ) → IsPermutation (present_at job rows s) (flat_map (λ p. present_in_share job rows n p s) (range_with_len 0 n))
    unfolding partition_of
    present_in_shares s = classes partition_of n (present_at job rows s) within

    -- as many vertices are executed in a superstep as the partitions have records of it
    pub executed_in_shares : (s : ℕ) → sum_by (λ p. length (records_in job rows n p s)) (range_with_len 0 n) ≡ executed job rows (present_at job rows s)
    unfolding partition_of
    executed_in_shares s =
        ap (λ (f : ℕ → ℕ). sum_by f (range_with_len 0 n)) (λ i p. length-records_in p s i)
        ∙ count-classes partition_of is_active n (present_at job rows s) within

    -- so the shares have a record for each execution of the run so far
    pub executions_in_shares : (s : ℕ) → sum_by (λ p. sum_by length (share job rows n p s).records) (range_with_len 0 n) ≡ executions_below job rows s
    unfolding share records_below executions_below
    executions_in_shares zero = count-none (range_with_len 0 n)
    executions_in_shares (suc s) =
        ap (λ (f : ℕ → ℕ). sum_by f (range_with_len 0 n)) (λ i p. sum_by_push length (records_below job rows n p s) (records_in job rows n p s) i)
        ∙ (sum_of_sums (λ p. sum_by length (records_below job rows n p s)) (λ p. length (records_in job rows n p s)) (range_with_len 0 n)
        ∙ ap₂ ◌+◌ (executions_in_shares s) (executed_in_shares s))

    -- all contributions at a place are those of the partitions' records, in another order
    pub contributions_in_shares : (s place : ℕ)
        → IsPermutation (at_place place (contributions job.program (view_at job rows s) (present_at job rows s)))
        (flat_map (λ p. at_place place (flat_map (λ r. r.1.contributed) (records_in job rows n p s))) (range_with_len 0 n))
    unfolding partition_of
    contributions_in_shares s place =
        let view : View = view_at job rows s in
        let xs : List (VertexWithInbox V M) = present_at job rows s in
        let mine : ℕ → List ℤ =
        λ p. flat_map (λ (x : VertexWithInbox V M). at_place place (outcome job.program view x).contributed) (present_in_share job rows n p s) in
        let part : ℕ → List ℤ = λ p. at_place place (flat_map (λ (r : ℕ × Record V M). r.1.contributed) (records_in job rows n p s)) in
        let same : (p : ℕ) → mine p ≡ part p =
        λ p. sym (ap (at_place place) (contributions-records_in p s) ∙ at_place-contributions job.program view place (present_in_share job rows n p s)) in
        subst₂ (λ (l : List ℤ) (f : ℕ → List ℤ). IsPermutation l (flat_map f (range_with_len 0 n)))
        (sym (at_place-contributions job.program view place xs)) (λ i p. same p i)
        (flat_map-classes (λ (x : VertexWithInbox V M). at_place place (outcome job.program view x).contributed) partition_of n xs within)

    -- so what is gathered at a place can be gathered from the partitions' records
    pub gathered_in_shares : (is_value : ℤ → Type 0) (a : Aggregating) → IsCommutativeMonoid is_value a.aggregate a.initial
        → (s place : ℕ) (value : ℤ) → is_value value
        → All is_value (at_place place (contributions job.program (view_at job rows s) (present_at job rows s)))
        → gathered_at a value (flat_map (λ p. at_place place (flat_map (λ r. r.1.contributed) (records_in job rows n p s))) (range_with_len 0 n))
        ≡ gathered_at a value (at_place place (contributions job.program (view_at job rows s) (present_at job rows s)))
    gathered_in_shares is_value a m s place value p h = gathered_at-IsPermutation a is_value m value _ _ p h (contributions_in_shares s place)

    -- as many executions are needed in a superstep as are needed of the partitions' vertices
    pub needed_in_shares : (value_eq : V → V → Bool) (message_eq : M → M → Bool) (kept : Option Rows) (s : ℕ)
        → sum_by (λ p. needed_in value_eq message_eq job kept rows (belongs n p) s) (range_with_len 0 n)
        ≡ needed_in value_eq message_eq job kept rows (λ id. true) s
    needed_in_shares value_eq message_eq kept s =
        let is : List ℕ = ids (present_at job rows s) in
        let test : ℕ → Bool = is_needed value_eq message_eq job kept rows s in
        count-classes (λ id. id % n) test n is (λ id. mod-lt id some) ∙ sym (ap (count_by test) (all_pass (λ id. true) (λ id. refl) is))

  -- from scratch, as many are needed of a partition's vertices as it has records of the superstep
  pub needed_in_share-none : (value_eq : V → V → Bool) (message_eq : M → M → Bool) → HasRisingIds rows → (s p : ℕ) → s < run_length job rows
      → needed_in value_eq message_eq job None rows (belongs n p) s ≡ length (records_in job rows n p s)
  needed_in_share-none value_eq message_eq rising s p within' =
      needed_in-none value_eq message_eq job rows rising s within' (belongs n p) ∙ sym (length-records_in p s)
