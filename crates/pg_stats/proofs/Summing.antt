-- What the stats of partitions sum up to.
use Rattle.std.proofs.Common.{◌≡◌, ℕ, ◌+◌, ◌<◌, Bool, true, false, cond, not, ◌==◌, List, [], ◌∷◌, map, length, refl, ap, sym, ◌∙◌, arith, flat_map}
use Rattle.std.proofs.Common.{sum_by, count_by}
use Rattle.std.specs.List.{range_with_len}
use Rattle.std.specs.Prelude.{nat_le}
use Rattle.std.proofs.lemmas.Bool.Decides.{nat_tests}
use Rattle.std.proofs.lemmas.List.Folds.{fold-map}
use Rattle.std.proofs.lemmas.List.Sorted.{sum_by-IsPermutation}
use Rattle.std.proofs.lemmas.List.Sums.{length-filter, sum_by-cons}
use Rattle.pg_graph.specs.Rows.{Rows}
use Rattle.pg_graph.specs.declared.missing.Missing.{Missing}
use Rattle.pg_graph.specs.declared.missing.Missing.TheVariants.{Drop, Create}
use Rattle.pg_model.specs.Job.{Job}
use Rattle.pg_model.specs.Run.{configuration, present_at, view_at}
use Rattle.pg_model.specs.Share.{present_in_share, with_inboxes_of_share}
use Rattle.pg_model.specs.Superstep.{undeliverable, dropped_count, edges_of, has_id, ids, outcome, sends}
use Rattle.pg_model.specs.declared.configuration.VertexWithInbox.{VertexWithInbox}
use Rattle.pg_model.specs.declared.configuration.VertexState.{VertexState}
use Rattle.pg_model.proofs.LawsLists.{sum_by-flat_map}
use Rattle.pg_model.proofs.LawsShares.{present_in_shares, with_inboxes_in_shares}
use Rattle.pg_stats.specs.Stats.{vertex_counts_at, sent_in, message_counts_in}

-- ---- lists of numbers

pub length-sum_by : {X : Type 0} (xs : List X) → length xs ≡ sum_by (λ x. 1) xs
length-sum_by [] = refl
length-sum_by (x ∷ xs) = omega (arith, length-sum_by xs, sum_by-cons (λ x. 1) x xs)

pub sum_of_sums : {X : Type 0} (f g : X → ℕ) (xs : List X) → sum_by (λ x. f x + g x) xs ≡ sum_by f xs + sum_by g xs
sum_of_sums f g [] = refl
sum_of_sums f g (x ∷ xs) = omega (arith, sum_by-cons (λ x. f x + g x) x xs, sum_by-cons f x xs, sum_by-cons g x xs, sum_of_sums f g xs)

pub sum_by-map : {X Y : Type 0} (f : Y → ℕ) (h : X → Y) (xs : List X) → sum_by f (map h xs) ≡ sum_by (λ x. f (h x)) xs
sum_by-map f h xs = fold-map (λ a y. a + f y) h 0 xs

-- ---- messages

one : (b : Bool) → cond b 1 0 + cond (not b) 1 0 ≡ 1
one true = refl
one false = refl

module _ {M : Type 0} (is : List ℕ) where
  -- a message that is dropped, and one that arrives, under a policy
  abbrev pub drops : Missing → ℕ × M → ℕ
  drops Drop m = cond (not (has_id is m.0)) 1 0
  drops Create m = 0

  abbrev pub arrives : Missing → ℕ × M → ℕ
  arrives Drop m = cond (has_id is m.0) 1 0
  arrives Create m = 1

  pub dropped_count-sum : (missing : Missing) (sent : List (ℕ × M)) → dropped_count missing (undeliverable is sent) ≡ sum_by (drops missing) sent
  dropped_count-sum Drop sent = length-filter (λ (m : ℕ × M). not (has_id is m.0)) sent
  dropped_count-sum Create sent = none sent
    where
      none : (sent : List (ℕ × M)) → 0 ≡ sum_by (λ (m : ℕ × M). 0) sent
      none [] = refl
      none (m ∷ sent) = omega (arith, none sent, sum_by-cons (λ (m : ℕ × M). 0) m sent)

  -- each message does one of both
  each_message : (missing : Missing) (m : ℕ × M) → arrives missing m + drops missing m ≡ 1
  each_message Drop m = one (has_id is m.0)
  each_message Create m = refl

  pub length-arrives : (missing : Missing) (sent : List (ℕ × M)) → length sent ≡ sum_by (arrives missing) sent + dropped_count missing (undeliverable is sent)
  length-arrives missing sent =
      length-sum_by sent
      ∙ (ap (λ (f : ℕ × M → ℕ). sum_by f sent) (λ i m. sym (each_message missing m) i)
      ∙ (sum_of_sums (arrives missing) (drops missing) sent ∙ ap (λ n. sum_by (arrives missing) sent + n) (sym (dropped_count-sum missing sent))))

no_more : (a b c : ℕ) → a ≡ c + b → nat_le a b ≡ (c == 0)
no_more a b c e = grind (arith, nat_tests)

module _ {V M : Type 0} (job : Job V M) (rows : Rows) (n : ℕ) (some : 0 < n) (s : ℕ) where
  -- ---- vertices and messages, by partitions

  states_in_shares : (g : VertexWithInbox V M → ℕ)
      → sum_by (λ p. sum_by g (with_inboxes_of_share job rows n p s)) (range_with_len 0 n) ≡ sum_by g (configuration job rows s).with_inboxes
  states_in_shares g =
      sym (sum_by-flat_map g (λ p. with_inboxes_of_share job rows n p s) (range_with_len 0 n))
      ∙ sum_by-IsPermutation g (configuration job rows s).with_inboxes (flat_map (λ p. with_inboxes_of_share job rows n p s) (range_with_len 0 n))
      (with_inboxes_in_shares job rows n some s)

  vertices_in_shares : (g : VertexWithInbox V M → ℕ) → sum_by (λ p. sum_by g (present_in_share job rows n p s)) (range_with_len 0 n) ≡ sum_by g (present_at job rows s)
  vertices_in_shares g =
      sym (sum_by-flat_map g (λ p. present_in_share job rows n p s) (range_with_len 0 n))
      ∙ sum_by-IsPermutation g (present_at job rows s) (flat_map (λ p. present_in_share job rows n p s) (range_with_len 0 n))
      (present_in_shares job rows n some s)

  -- all that is sent in the superstep
  abbrev pub all_sent : List (ℕ × M)
  all_sent = sends job.program (view_at job rows s) (present_at job rows s)

  -- messages counted by partitions are counted at once
  pub messages_in_shares : (g : ℕ × M → ℕ) → sum_by (λ p. sum_by g (sent_in job rows n p s)) (range_with_len 0 n) ≡ sum_by g all_sent
  messages_in_shares g =
      let by_vertex : VertexWithInbox V M → List (ℕ × M) = λ x. (outcome job.program (view_at job rows s) x).sent in
      ap (λ (f : ℕ → ℕ). sum_by f (range_with_len 0 n)) (λ i p. sum_by-flat_map g by_vertex (present_in_share job rows n p s) i)
      ∙ (vertices_in_shares (λ x. sum_by g (by_vertex x)) ∙ sym (sum_by-flat_map g by_vertex (present_at job rows s)))

  pub sent_in_shares : sum_by (λ p. length (sent_in job rows n p s)) (range_with_len 0 n) ≡ length all_sent
  sent_in_shares =
      ap (λ (f : ℕ → ℕ). sum_by f (range_with_len 0 n)) (λ i p. length-sum_by (sent_in job rows n p s) i)
      ∙ (messages_in_shares (λ m. 1) ∙ sym (length-sum_by all_sent))

  pub dropped_in_shares : sum_by (λ p. dropped_count job.missing (undeliverable (ids (present_at job rows s)) (sent_in job rows n p s))) (range_with_len 0 n)
      ≡ dropped_count job.missing (undeliverable (ids (present_at job rows s)) all_sent)
  dropped_in_shares =
      let is : List ℕ = ids (present_at job rows s) in
      ap (λ (f : ℕ → ℕ). sum_by f (range_with_len 0 n)) (λ i p. dropped_count-sum is job.missing (sent_in job rows n p s) i)
      ∙ (messages_in_shares (drops is job.missing) ∙ sym (dropped_count-sum is job.missing all_sent))

  -- ---- the vertex counts

  vertex_counts_in_shares : (f : VertexState V → ℕ)
      → sum_by (λ p. sum_by f (map (λ (x : VertexWithInbox V M). x.state) (with_inboxes_of_share job rows n p s))) (range_with_len 0 n)
      ≡ sum_by (λ (x : VertexWithInbox V M). f x.state) (configuration job rows s).with_inboxes
  vertex_counts_in_shares f =
      ap (λ (g : ℕ → ℕ). sum_by g (range_with_len 0 n)) (λ i p. sum_by-map f (λ (x : VertexWithInbox V M). x.state) (with_inboxes_of_share job rows n p s) i)
      ∙ states_in_shares (λ x. f x.state)

  pub vertex_counts-vertices : sum_by (λ p. (vertex_counts_at job rows n p s).vertices) (range_with_len 0 n) ≡ length (configuration job rows s).with_inboxes
  vertex_counts-vertices =
      ap (λ (g : ℕ → ℕ). sum_by g (range_with_len 0 n)) (λ i p. length-sum_by (map (λ (x : VertexWithInbox V M). x.state) (with_inboxes_of_share job rows n p s)) i)
      ∙ (vertex_counts_in_shares (λ x. 1) ∙ sym (length-sum_by (configuration job rows s).with_inboxes))

  pub vertex_counts-edges : sum_by (λ p. (vertex_counts_at job rows n p s).edges) (range_with_len 0 n) ≡ edges_of (configuration job rows s).with_inboxes
  vertex_counts-edges = vertex_counts_in_shares (λ x. length x.edges)

  pub vertex_counts-unhalted : sum_by (λ p. (vertex_counts_at job rows n p s).unhalted) (range_with_len 0 n)
      ≡ count_by (λ x. not x.state.halted) (configuration job rows s).with_inboxes
  vertex_counts-unhalted = vertex_counts_in_shares (λ x. cond (not x.halted) 1 0)

  -- ---- who is idle

  -- a partition's messages all are dropped just where none of them arrives
  pub none_arrives : (p : ℕ) → nat_le (message_counts_in job rows n p s).sent (message_counts_in job rows n p s).dropped
      ≡ (sum_by (arrives (ids (present_at job rows s)) job.missing) (sent_in job rows n p s) == 0)
  none_arrives p =
      let is : List ℕ = ids (present_at job rows s) in
      no_more (length (sent_in job rows n p s)) (dropped_count job.missing (undeliverable is (sent_in job rows n p s)))
      (sum_by (arrives is job.missing) (sent_in job rows n p s))
      (length-arrives is job.missing (sent_in job rows n p s))
