-- What is counted of bundles and records is what the run comes to.
use Rattle.std.proofs.Common.{◌≡◌, ℕ, suc, ◌+◌, ◌<◌, ◌%◌, ◌==◌, ◌&&◌, ◌||◌, cond, not, Bool, true, false, is_some, List, [], ◌∷◌, ◌++◌, map, length}
use Rattle.std.proofs.Common.{ℤ, refl, ap, ap₂, sym, ◌∙◌, arith, mod-lt, filter, flat_map, sum_by, count_by, Option, None, Some, true≢false}
use Rattle.std.specs.List.{AllByRecursion, range_with_len}
use Rattle.std.specs.List.Sorted.{IsStrictlySortedBy}
use Rattle.std.specs.BTreeMap.{is_at}
use Rattle.std.specs.Map.{keys_of}
use Rattle.std.specs.Ordering.{int_eq, nat_cmp}
use Rattle.std.proofs.lemmas.Bool.Decides.{Decides-eqb, Decides-int_eq, nat_tests}
use Rattle.std.proofs.lemmas.List.Folds.{flat_map-map}
use Rattle.std.specs.declared.cmp.Ordering.TheVariants.{Less}
use Rattle.std.proofs.lemmas.List.Sums.{length-filter, sum_by-cons}
use Rattle.pg_graph.specs.Rows.{HasRisingIds as RowsRise, Rows, row_at}
use Rattle.pg_graph.specs.declared.missing.Missing.{Missing}
use Rattle.pg_graph.specs.declared.missing.Missing.TheVariants.{Drop, Create}
use Rattle.pg_inbox.specs.Handed.{Contents, MessageLists, Outbox, bundle_of, envelopes_to, messages_where}
use Rattle.pg_inbox.proofs.Handed.{envelopes_at-bundle_of, rises-bundle_of}
use Rattle.pg_map.specs.Entries.{HasRisingIds, value_at}
use Rattle.pg_model.specs.Job.{Combining, Job}
use Rattle.pg_model.specs.Order.{Sending, sendings}
use Rattle.pg_model.specs.Run.{present_at, view_at}
use Rattle.pg_model.specs.Share.{belongs, present_in_share, records_in, sendings_of, sent_to}
use Rattle.pg_model.specs.Superstep.{undeliverable, dropped_count, has_id, ids, is_active, outcome}
use Rattle.pg_model.specs.declared.configuration.VertexWithInbox.{VertexWithInbox}
use Rattle.pg_model.specs.declared.record.Record.{Record}
use Rattle.pg_model.proofs.LawsDelivered.{sendings-sends}
use Rattle.pg_model.proofs.LawsIds.{ids-configuration, present-drop}
use Rattle.pg_model.proofs.LawsLists.{count-classes, count_by-map, same_count}
use Rattle.pg_model.proofs.LawsPresent.{at_key}
use Rattle.pg_model.proofs.LawsRising.{flat_map-rising}
use Rattle.pg_model.proofs.LawsShares.{contributions-active, sendings-records_in, sends-records_in}
use Rattle.pg_trace.specs.Handed.{contributions_of}
use Rattle.pg_stats.specs.Contributed.{are_same, contributed_by}
use Rattle.pg_stats.specs.MessageCounts.{dropped_of, dropped_of_sent, is_any, is_no_vertex, message_counts_of, message_counts_of_sent, message_counts_recorded}
use Rattle.pg_stats.proofs.LawsMessageCounts.{at_message_lists, sum_map, weight}
use Rattle.pg_stats.proofs.Sums.{at, same_but_at, same_sums}
use Rattle.pg_stats.specs.Stats.{gathered_afresh, gathered_in, sent_in, message_counts_in}

none_rise : IsStrictlySortedBy nat_cmp []
unfolding IsStrictlySortedBy
none_rise = tt

module _ {M : Type 0} where
  -- one for a send whose target is picked
  abbrev one_if : (ℕ → Bool) → ℕ × ℕ × M → ℕ
  one_if picks s = cond (picks s.1) 1 0

  abbrev as_envelopes : Outbox M → List (ℕ × M)
  as_envelopes sent = map (λ s. (s.0, s.2)) sent

  at_sends : (picks : ℕ → Bool) (id : ℕ) (sent : Outbox M) → at (λ (s : ℕ × ℕ × M). s.1) (one_if picks) id sent ≡ cond (picks id) (length (envelopes_to id sent)) 0
  at_sends picks id [] = by (picks id)
    where
      by : (b : Bool) → ◌≡◌ {A = ℕ} 0 (cond b 0 0)
      by true = refl
      by false = refl
  at_sends picks id (x ∷ xs) = by (x.1 == id) refl (at_sends picks id xs)
    where
      more : (b : Bool) (n : ℕ) → cond b 1 0 + cond b n 0 ≡ cond b (suc n) 0
      more true n = omega arith
      more false n = refl

      by : (t : Bool) → (x.1 == id) ≡ t
          → sum_by (one_if picks) (filter (λ s. s.1 == id) xs) ≡ cond (picks id) (length (envelopes_to id xs)) 0
          → sum_by (one_if picks) (cond t (x ∷ filter (λ s. s.1 == id) xs) (filter (λ s. s.1 == id) xs))
          ≡ cond (picks id) (length (as_envelopes (cond t (x ∷ filter (λ s. s.1 == id) xs) (filter (λ s. s.1 == id) xs)))) 0
      by true e h =
          sum_by-cons (one_if picks) x (filter (λ s. s.1 == id) xs)
          ∙ (ap₂ (λ (k : ℕ) (n : ℕ). cond (picks k) 1 0 + n) (let same : x.1 ≡ id = grind (arith, nat_tests, e) in same) h
          ∙ more (picks id) (length (envelopes_to id xs)))
      by false e h = h

  -- a bundle has as many messages as there are sends
  pub bundle_count : (picks : ℕ → Bool) (combining : Option (Combining M)) (sent : Outbox M)
      → messages_where picks (bundle_of combining sent) ≡ count_by (λ s. picks s.1) sent
  bundle_count picks combining sent =
      let key : ℕ × Contents M → ℕ = λ p. p.0 in
      let e = same_but_at key (weight picks) (λ (s : ℕ × ℕ × M). s.1) (one_if picks) (bundle_of combining sent) sent [] none_rise
      (λ k n. at_message_lists picks k (bundle_of combining sent) (rises-bundle_of combining sent)
      ∙ (ap (λ (l : List (ℕ × M)). cond (picks k) (length l) 0) (envelopes_at-bundle_of k combining sent) ∙ sym (at_sends picks k sent))) in
      omega (arith, e)

-- a count of all
count_all : {X : Type 0} (xs : List X) → count_by (λ x. true) xs ≡ length xs
count_all [] = refl
count_all {X = X} (x ∷ xs) = sum_by-cons (λ (y : X). 1) x xs ∙ (ap (λ n. 1 + n) (count_all xs) ∙ omega arith)

-- an id has a row where it is among the keys
has_row : (id : ℕ) (rows : Rows) → is_some (row_at id rows) ≡ has_id (keys_of rows) id
has_row id [] = refl
has_row id (e ∷ es) = ap (λ (b : Bool). is_some (cond b (Some e.1) (row_at id es))) (at_key id e.0) ∙ by (e.0 == id) (has_row id es)
  where
    by : (b : Bool) → is_some (row_at id es) ≡ has_id (keys_of es) id → is_some (cond b (Some e.1) (row_at id es)) ≡ (b || has_id (keys_of es) id)
    by true h = refl
    by false h = h

module _ {V M : Type 0} (job : Job V M) (rows : Rows) (n p : ℕ) (s : ℕ) where
  -- where messages to nobody are dropped, nobody is who has no row
  no_vertices : job.missing ≡ Drop → (m : ℕ × M) → is_no_vertex rows m.0 ≡ not (has_id (ids (present_at job rows s)) m.0)
  no_vertices drop m =
      ap not (has_row m.0 rows ∙ ap (λ l. has_id l m.0) (sym (ap ids (present-drop job rows drop s) ∙ ids-configuration job rows drop s)))

  -- so as many messages are dropped as are sent to nobody
  dropped_to_no_vertex : job.missing ≡ Drop
      → length (undeliverable (ids (present_at job rows s)) (sent_in job rows n p s)) ≡ count_by (λ m. is_no_vertex rows m.0) (sent_in job rows n p s)
  dropped_to_no_vertex drop =
      length-filter (λ (m : ℕ × M). not (has_id (ids (present_at job rows s)) m.0)) (sent_in job rows n p s)
      ∙ sym (same_count _ _ (sent_in job rows n p s) (all (sent_in job rows n p s)))
    where
      all : (ms : List (ℕ × M)) → AllByRecursion (λ m. is_no_vertex rows m.0 ≡ not (has_id (ids (present_at job rows s)) m.0)) ms
      all [] = tt
      all (m ∷ ms) = (no_vertices drop m, all ms)

  -- what is sent is what the records send
  pub message_counts_recorded_of_run : message_counts_in job rows n p s ≡ message_counts_recorded job.missing rows (records_in job rows n p s)
  message_counts_recorded_of_run =
      let dropped = dropped_is job.missing refl in
      (λ i. record { sent = length (sent_in job rows n p s); dropped = dropped i })
      ∙ ap (message_counts_of_sent job.missing rows) (sym (sends-records_in job rows n p s))
    where
      dropped_is : (missing : Missing) → job.missing ≡ missing
          → dropped_count missing (undeliverable (ids (present_at job rows s)) (sent_in job rows n p s)) ≡ dropped_of_sent missing rows (sent_in job rows n p s)
      dropped_is Drop e = dropped_to_no_vertex e
      dropped_is Create e = refl

  -- what is gathered is what the records contribute
  pub gathered_of_run : gathered_in job rows n p s ≡ gathered_afresh 0 job.aggregators (contributions_of (records_in job rows n p s))
  gathered_of_run =
      ap (gathered_afresh 0 job.aggregators)
      (sym (flat_map-map (λ (r : ℕ × Record V M). r.1.contributed)
      (λ (x : VertexWithInbox V M). (x.state.id, outcome job.program (view_at job rows s) x))
      (filter is_active (present_in_share job rows n p s))
      ∙ contributions-active job.program (view_at job rows s) (present_in_share job rows n p s)))

module _ {V M : Type 0} (job : Job V M) (rows : Rows) (n p : ℕ) (some : 0 < n) (s : ℕ) where
  -- the bundle to each partition
  abbrev pub bundle_to : ℕ → MessageLists M
  bundle_to q = bundle_of job.combining (map (λ t. (t.sender, t.target, t.message)) (sent_to job rows n p q s))

  -- all bundles have as many messages as were sent
  bundles_count : (picks : ℕ → Bool) → sum_by (messages_where picks) (map bundle_to (range_with_len 0 n)) ≡ count_by (λ m. picks m.0) (sent_in job rows n p s)
  bundles_count picks =
      let all : List (Sending M) = sendings_of (records_in job rows n p s) in
      let test : Sending M → Bool = λ t. picks t.target in
      let each : (q : ℕ) → messages_where picks (bundle_to q) ≡ count_by test (filter (λ t. belongs n q t.target) all) =
      λ q. bundle_count picks job.combining (map (λ (t : Sending M). (t.sender, t.target, t.message)) (sent_to job rows n p q s))
      ∙ count_by-map (λ (x : ℕ × ℕ × M). picks x.1) (λ (t : Sending M). (t.sender, t.target, t.message)) (sent_to job rows n p q s) in
      sum_map (messages_where picks) bundle_to (range_with_len 0 n)
      ∙ (same_sums _ _ (range_with_len 0 n) each
      ∙ (count-classes (λ (t : Sending M). t.target % n) test n all (λ t. mod-lt t.target some)
      ∙ (ap (count_by test) (sendings-records_in job rows n p s)
      ∙ (sym (count_by-map (λ (m : ℕ × M). picks m.0) (λ (t : Sending M). (t.target, t.message))
      (sendings job.program (view_at job rows s) (present_in_share job rows n p s)))
      ∙ ap (count_by (λ (m : ℕ × M). picks m.0)) (sendings-sends job.program (view_at job rows s) (present_in_share job rows n p s))))))

  pub message_counts_of_run : RowsRise rows → message_counts_in job rows n p s ≡ message_counts_of job.missing rows (map bundle_to (range_with_len 0 n))
  message_counts_of_run rise =
      let sent : length (sent_in job rows n p s) ≡ sum_by (messages_where is_any) (map bundle_to (range_with_len 0 n)) =
      sym (bundles_count is_any ∙ count_all (sent_in job rows n p s)) in
      let dropped = dropped_is job.missing refl in
      λ i. record { sent = sent i; dropped = dropped i }
    where
      dropped_is : (missing : Missing) → job.missing ≡ missing
          → dropped_count missing (undeliverable (ids (present_at job rows s)) (sent_in job rows n p s)) ≡ dropped_of missing rows (map bundle_to (range_with_len 0 n))
      dropped_is Drop e = dropped_to_no_vertex job rows n p s e ∙ sym (bundles_count (is_no_vertex rows))
      dropped_is Create e = refl

-- contributions that are told to be the same are
pub same_contributions : (xs ys : List (ℕ × ℤ)) → are_same xs ys ≡ true → xs ≡ ys
same_contributions [] [] e = refl
same_contributions [] (y ∷ ys) e = absurd (true≢false (sym e))
same_contributions (x ∷ xs) [] e = absurd (true≢false (sym e))
same_contributions (x ∷ xs) (y ∷ ys) e =
    let parts = both ((x.0 == y.0) && int_eq x.1 y.1) (are_same xs ys) e in
    let here = both (x.0 == y.0) (int_eq x.1 y.1) parts.0 in
    let place : x.0 ≡ y.0 = (Decides-eqb x.0 y.0).0 here.0 in
    let value : x.1 ≡ y.1 = (Decides-int_eq x.1 y.1).0 here.1 in
    ap₂ ◌∷◌ (λ i. (place i, value i)) (same_contributions xs ys parts.1)
  where
    both : (a b : Bool) → (a && b) ≡ true → (a ≡ true) × (b ≡ true)
    both true b e = (refl, e)
    both false b e = absurd (true≢false (sym e))

module _ {V M : Type 0} where
  -- what the records contribute, by their ids
  by_keys : (records : List (ℕ × Record V M)) → HasRisingIds records
      → contributions_of records ≡ flat_map (λ id. contributed_by (value_at id records)) (keys_of records)
  unfolding IsStrictlySortedBy
  by_keys [] r = refl
  by_keys (e ∷ es) r =
      ap₂ ◌++◌ (ap contributed_by (sym (here refl))) (by_keys es r.1 ∙ later (keys_of es) r.0)
    where
      here : {k : ℕ} → k ≡ e.0 → value_at k (e ∷ es) ≡ Some e.1
      here {k} same = ap (λ (b : Bool). cond b (Some e.1) (value_at k es)) (at_key k e.0 ∙ (let t : (e.0 == k) ≡ true = grind (arith, nat_tests, same) in t))

      other : (k : ℕ) → nat_cmp e.0 k ≡ Less → value_at k (e ∷ es) ≡ value_at k es
      other k less = ap (λ (b : Bool). cond b (Some e.1) (value_at k es)) (at_key k e.0 ∙ (let t : (e.0 == k) ≡ false = grind (arith, nat_tests, less) in t))

      later : (ks : List ℕ) → AllByRecursion (λ k. nat_cmp e.0 k ≡ Less) ks
          → flat_map (λ id. contributed_by (value_at id es)) ks ≡ flat_map (λ id. contributed_by (value_at id (e ∷ es))) ks
      later [] h = refl
      later (k ∷ ks) h = ap₂ ◌++◌ (ap contributed_by (sym (other k h.0))) (later ks h.1)

  not_key : (id : ℕ) (es : List (ℕ × Record V M)) → has_id (keys_of es) id ≡ false → value_at id es ≡ None
  not_key id [] h = refl
  not_key id (e ∷ es) h = by (e.0 == id) (at_key id e.0) h (not_key id es)
    where
      by : (t : Bool) → is_at (nat_cmp id) e.0 ≡ t → (t || has_id (keys_of es) id) ≡ false → (has_id (keys_of es) id ≡ false → value_at id es ≡ None)
          → value_at id (e ∷ es) ≡ None
      by true a n k = absurd (true≢false n)
      by false a n k = ap (λ (b : Bool). cond b (Some e.1) (value_at id es)) a ∙ k n

  -- records by which each id contributes the same contribute the same
  pub contribute_the_same : (before after : List (ℕ × Record V M)) → HasRisingIds before → HasRisingIds after
      → ((id : ℕ) → contributed_by (value_at id before) ≡ contributed_by (value_at id after)) → contributions_of before ≡ contributions_of after
  contribute_the_same before after r r' same =
      let f : ℕ → List (ℕ × ℤ) = λ id. contributed_by (value_at id before) in
      by_keys before r
      ∙ (flat_map-rising (keys_of before) (keys_of after) r r' f
      (λ id n. ap contributed_by (not_key id before n)) (λ id n. same id ∙ ap contributed_by (not_key id after n))
      ∙ (each (keys_of after) ∙ sym (by_keys after r')))
    where
      each : (ks : List ℕ) → flat_map (λ id. contributed_by (value_at id before)) ks ≡ flat_map (λ id. contributed_by (value_at id after)) ks
      each [] = refl
      each (k ∷ ks) = ap₂ ◌++◌ (same k) (each ks)
