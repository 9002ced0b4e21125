-- The messages of more bundles.
use Rattle.std.proofs.Common.{◌≡◌, ℕ, ◌+◌, ◌<◌, List, [], ◌∷◌, ◌++◌, get_or, map, refl, take, ap, ap₂, sym, ◌∙◌, sum_by, zero-add}
use Rattle.std.proofs.Common.{Bool, true, false, cond, length, Option, None, Some}
use Rattle.std.proofs.lemmas.List.{map-append}
use Rattle.std.proofs.lemmas.List.Sums.{sum_by-cons, sum_by_push}
use Rattle.pg_graph.specs.Rows.{Rows}
use Rattle.pg_graph.specs.declared.missing.Missing.{Missing}
use Rattle.pg_graph.specs.declared.missing.Missing.TheVariants.{Drop, Create}
use Rattle.pg_inbox.specs.Handed.{LoggedBundle, MessageLists, envelopes_at, message_lists_in, messages_where}
use Rattle.pg_inbox.specs.LoggedBundle.{Slots, slot_at}
use Rattle.std.specs.List.{range_with_len, slice_get}
use Rattle.std.specs.Option.{option_map}
use Rattle.std.proofs.lemmas.List.FromFn.{sum_by-map-range_with_len_more}
use Rattle.pg_stats.specs.MessageCounts.{IsWithBundle, bundle_at, dropped_of, is_any, is_no_vertex, messages_among, message_counts_of, vertex_counts_delta, vertex_counts_delta_at}
use Rattle.pg_stats.proofs.Counting.{one_taken}
use Rattle.pg_stats.specs.declared.stats.MessageCounts.{MessageCounts}

module _ {M : Type 0} (rows : Rows) where
  dropped_push : (missing : Missing) (bs : List (MessageLists M)) (b : MessageLists M)
      → dropped_of missing rows (bs ++ b ∷ []) ≡ dropped_of missing rows bs + dropped_of missing rows (b ∷ [])
  dropped_push Drop bs b =
      sum_by_push (messages_where (is_no_vertex rows)) bs b
      ∙ ap (λ n. dropped_of Drop rows bs + n) (sym (zero-add (messages_where (is_no_vertex rows) b)))
  dropped_push Create bs b = refl

  pub message_counts_push : (missing : Missing) (ls : List (LoggedBundle M)) (l : LoggedBundle M) (after : MessageCounts)
      → IsWithBundle missing rows l.bundle (message_counts_of missing rows (map (λ l. l.bundle) ls)) after
      → after ≡ message_counts_of missing rows (map (λ l. l.bundle) (ls ++ l ∷ []))
  message_counts_push missing ls l after h =
      let bs : List (MessageLists M) = map (λ (l : LoggedBundle M). l.bundle) ls in
      let e : bs ++ l.bundle ∷ [] ≡ map (λ (l : LoggedBundle M). l.bundle) (ls ++ l ∷ []) = sym (map-append (λ (l : LoggedBundle M). l.bundle) ls (l ∷ [])) in
      let sent : after.sent ≡ sum_by (messages_where is_any) (bs ++ l.bundle ∷ []) = h.sent ∙ sym (sum_by_push (messages_where is_any) bs l.bundle) in
      let dropped : after.dropped ≡ dropped_of missing rows (bs ++ l.bundle ∷ []) = h.dropped ∙ sym (dropped_push missing bs l.bundle) in
      (λ i. record { sent = sent i; dropped = dropped i }) ∙ ap (message_counts_of missing rows) e

-- a sum over one number more
pub sum_range : (n : ℕ) (at : ℕ → ℕ) → sum_by at (range_with_len 0 (n + 1)) ≡ sum_by at (range_with_len 0 n) + at n
sum_range n at =
    ap (sum_by at) (sym (map_same (range_with_len 0 (n + 1))))
    ∙ (sum_by-map-range_with_len_more at (λ k. k) 0 n n (zero-add n)
    ∙ ap (λ l. sum_by at l + at n) (map_same (range_with_len 0 n)))
  where
    map_same : (ks : List ℕ) → map (λ k. k) ks ≡ ks
    map_same [] = refl
    map_same (k ∷ ks) = ap (◌∷◌ k) (map_same ks)

module _ {M : Type 0} where
  -- the messages to one id more
  pub among_push : (picks : ℕ → Bool) (ids : List ℕ) (id : ℕ) (message_lists : MessageLists M)
      → messages_among picks (ids ++ id ∷ []) message_lists ≡ messages_among picks ids message_lists + cond (picks id) (length (envelopes_at id message_lists)) 0
  among_push picks ids id message_lists = sum_by_push (λ k. cond (picks k) (length (envelopes_at k message_lists)) 0) ids id

  -- so a count of them goes on, by a cursor that is the bundle
  pub among_more : (picks : ℕ → Bool) (ids : List ℕ) (i : ℕ) (message_lists : MessageLists M) {id before after : ℕ} {found : MessageLists M}
      → i < length ids → id ≡ get_or ids i id → before ≡ messages_among picks (take i ids) message_lists → found ≡ message_lists
      → after ≡ before + cond (picks id) (length (envelopes_at id found)) 0
      → after ≡ messages_among picks (take (i + 1) ids) message_lists
  among_more picks ids i message_lists {id} {before} within is so_far near more =
      more ∙ ap (λ (ps : MessageLists M). before + cond (picks id) (length (envelopes_at id ps)) 0) near
      ∙ ap (λ n. n + cond (picks id) (length (envelopes_at id message_lists)) 0) so_far ∙ sym (among_push picks (take i ids) id message_lists)
      ∙ ap (λ l. messages_among picks l message_lists) (one_taken ids i within is)

  -- the change at one receiver more
  pub vertex_counts_delta_more : (count : MessageLists M → LoggedBundle M → ℕ) (logs : Slots M) (s p : ℕ) (bundles : List (LoggedBundle M)) (q : ℕ) (logged : LoggedBundle M)
      → slice_get bundles q ≡ Some logged
      → vertex_counts_delta count logs s p bundles (q + 1) ≡ vertex_counts_delta count logs s p bundles q + count (bundle_at (slot_at logs s p q)) logged
  vertex_counts_delta_more count logs s p bundles q logged e =
      let at : ℕ → ℕ = λ k. vertex_counts_delta_at count (slot_at logs s p k) (slice_get bundles k) in
      sum_range q at ∙ ap (λ (n : Option (LoggedBundle M)). vertex_counts_delta count logs s p bundles q + vertex_counts_delta_at count (slot_at logs s p q) n) e

  -- so a count goes on
  pub vertex_counts_delta_on : (count : MessageLists M → LoggedBundle M → ℕ) (logs : Slots M) (s p : ℕ) (bundles : List (LoggedBundle M)) (q : ℕ) {logged : LoggedBundle M}
      → slice_get bundles q ≡ Some logged → {before : Option (MessageLists M)} → before ≡ option_map (λ l. l.bundle) (slot_at logs s p q)
      → {a here after : ℕ} → a ≡ vertex_counts_delta count logs s p bundles q → here ≡ count (message_lists_in before) logged → after ≡ a + here
      → after ≡ vertex_counts_delta count logs s p bundles (q + 1)
  vertex_counts_delta_on count logs s p bundles q {logged} e b so_far h k =
      k ∙ (ap₂ ◌+◌ so_far (h ∙ ap (λ (o : Option (MessageLists M)). count (message_lists_in o) logged) b) ∙ sym (vertex_counts_delta_more count logs s p bundles q logged e))

-- where there is no bundle, there are none
pub none_among : (M : Type 0) (picks : ℕ → Bool) (ids : List ℕ) → 0 ≡ messages_among picks ids (message_lists_in {M = M} None)
none_among M picks [] = refl
none_among M picks (id ∷ ids) =
    ap₂ ◌+◌ (by (picks id)) (none_among M picks ids)
    ∙ sym (sum_by-cons (λ k. cond (picks k) (length (envelopes_at k (message_lists_in {M = M} None))) 0) id ids)
  where
    by : (b : Bool) → 0 ≡ cond {A = ℕ} b 0 0
    by true = refl
    by false = refl
