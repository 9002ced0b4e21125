-- The message counts of bundles that differ from others at some targets alone, on graphs that differ in some vertices alone.
use Rattle.std.proofs.Common.{◌≡◌, ℕ, zero, suc, ◌+◌, ◌<◌, ◌==◌, cond, not, Bool, true, false, List, [], ◌∷◌, map, length}
use Rattle.std.proofs.Common.{refl, ap, sym, ◌∙◌, subst, arith, sum_by, Option, None, Some, zero-add, add-one}
use Rattle.std.specs.List.{range_with_len, slice_get}
use Rattle.std.specs.List.Sorted.{IsStrictlySortedBy}
use Rattle.std.specs.List.{find}
use Rattle.std.specs.Ordering.{nat_cmp}
use Rattle.std.proofs.lemmas.Bool.Decides.{nat_tests}
use Rattle.std.proofs.lemmas.List.Sums.{sum_by-cons}
use Rattle.pg_graph.specs.Rows.{Rows}
use Rattle.pg_graph.specs.declared.missing.Missing.{Missing}
use Rattle.pg_graph.specs.declared.missing.Missing.TheVariants.{Drop, Create}
use Rattle.pg_inbox.specs.Handed.{AreChanged, Contents, Entry, LoggedBundle, MessageLists, TellsChanges, each_entry, entries_in, entries_of, entries_to}
use Rattle.pg_inbox.specs.Handed.{envelopes_at, envelopes_in, messages_where}
use Rattle.pg_inbox.specs.LoggedBundle.{Slots, slot_at}
use Rattle.pg_map.specs.Entries.{HasRisingIds, value_at}
use Rattle.pg_model.proofs.LawsPresent.{at_key}
use Rattle.pg_model.specs.Superstep.{has_id}
use Rattle.pg_stats.specs.MessageCounts.{AreMemberChanges, HasMessageCountDelta, IsLoggedChange, dropped_added, dropped_removed, dropped_of, is_any, is_no_vertex}
use Rattle.pg_stats.specs.MessageCounts.{is_vertex, messages_among, sent_added, sent_removed, changed_targets_of, message_counts_of, vertex_counts_delta, vertex_counts_delta_at}
use Rattle.pg_stats.proofs.Passing.{sum_range}
use Rattle.pg_stats.proofs.Sums.{at, at-rising, same_but_at, same_sums, same_sums_in, weighed}
use Rattle.pg_stats.specs.declared.stats.MessageCounts.{MessageCounts}

-- sums over all numbers below one
below_all : (n : ℕ) (a removed b added : ℕ → ℕ) → ((q : ℕ) → q < n → a q + removed q ≡ b q + added q)
    → sum_by a (range_with_len 0 n) + sum_by removed (range_with_len 0 n) ≡ sum_by b (range_with_len 0 n) + sum_by added (range_with_len 0 n)
below_all zero a removed b added h = refl
below_all (suc n) a removed b added h =
    omega (arith, below_all n a removed b added (λ q w. h q (omega (arith, w))), h n (omega arith), one n a, one n removed, one n b, one n added)
  where
    one : (n : ℕ) (f : ℕ → ℕ) → sum_by f (range_with_len 0 (suc n)) ≡ sum_by f (range_with_len 0 n) + f n
    one n f = ap (λ (m : ℕ). sum_by f (range_with_len 0 m)) (sym (add-one n)) ∙ sum_range n f

pub sum_map : {X : Type 0} (w : X → ℕ) (f : ℕ → X) (ks : List ℕ) → sum_by w (map f ks) ≡ sum_by (λ k. w (f k)) ks
sum_map w f [] = refl
sum_map w f (k ∷ ks) = sum_by-cons w (f k) (map f ks) ∙ (ap (λ n. w (f k) + n) (sum_map w f ks) ∙ sym (sum_by-cons (λ k. w (f k)) k ks))

module _ {M : Type 0} where
  -- the weight of the messages to one target
  abbrev pub weight : (ℕ → Bool) → ℕ × Contents M → ℕ
  weight picks p = cond (picks p.0) (length p.1.envelopes) 0

  -- found by its key, as it is looked up
  found_is : (picks : ℕ → Bool) (id : ℕ) (message_lists : MessageLists M)
      → weighed (λ (p : ℕ × Contents M). p.0) (weight picks) (find (λ p. p.0 == id) message_lists) ≡ cond (picks id) (length (envelopes_at id message_lists)) 0
  found_is picks id [] = by (picks id)
    where
      by : (b : Bool) → ◌≡◌ {A = ℕ} 0 (cond b 0 0)
      by true = refl
      by false = refl
  found_is picks id (p ∷ ps) =
      by (p.0 == id) refl (found_is picks id ps)
      ∙ ap (λ b. cond (picks id) (length (envelopes_if b)) 0) (sym (at_key id p.0))
    where
      envelopes_if : Bool → List (ℕ × M)
      envelopes_if b = envelopes_in (cond b (Some p.1) (value_at id ps))

      by : (t : Bool) → (p.0 == id) ≡ t
          → weighed (λ (p : ℕ × Contents M). p.0) (weight picks) (find (λ p. p.0 == id) ps) ≡ cond (picks id) (length (envelopes_at id ps)) 0
          → weighed (λ (p : ℕ × Contents M). p.0) (weight picks) (cond t (Some p) (find (λ p. p.0 == id) ps)) ≡ cond (picks id)
          (length (envelopes_in (cond t (Some p.1) (value_at id ps)))) 0
      by true e h = ap (λ (k : ℕ). cond (picks k) (length p.1.envelopes) 0) (let same : p.0 ≡ id = grind (arith, nat_tests, e) in same)
      by false e h = h

  pub at_message_lists : (picks : ℕ → Bool) (id : ℕ) (message_lists : MessageLists M) → HasRisingIds message_lists
      → at (λ (p : ℕ × Contents M). p.0) (weight picks) id message_lists ≡ cond (picks id) (length (envelopes_at id message_lists)) 0
  at_message_lists picks id message_lists r = at-rising (λ (p : ℕ × Contents M). p.0) (weight picks) id message_lists r ∙ found_is picks id message_lists

  -- the same entries are as many messages
  envelopes_by_entries : (id : ℕ) (message_lists : MessageLists M) → sum_by (λ (e : Entry M). e.count) (entries_to id message_lists) ≡ length (envelopes_at id message_lists)
  envelopes_by_entries id message_lists = by (value_at id message_lists)
    where
      each : (envelopes : List (ℕ × M)) → sum_by (λ (e : Entry M). e.count) (each_entry id envelopes) ≡ length envelopes
      each [] = refl
      each (l ∷ ls) =
          sum_by-cons (λ (e : Entry M). e.count) (record { target = id; from = Some l.0; message = l.1; count = 1 }) (each_entry id ls)
          ∙ (ap (λ n. 1 + n) (each ls) ∙ omega arith)

      of : (envelopes : List (ℕ × M)) (folded : Option M)
          → sum_by (λ (e : Entry M). e.count) (entries_of id (record { envelopes = envelopes; folded = folded })) ≡ length envelopes
      of envelopes None = each envelopes
      of envelopes (Some m) = zero-add (length envelopes)

      by : (o : Option (Contents M)) → sum_by (λ (e : Entry M). e.count) (entries_in id o) ≡ length (envelopes_in o)
      by None = refl
      by (Some c) = of c.envelopes c.folded

  -- where a bundle differs from an old one at these targets alone: what is counted of it, from what was
  changed_count : (picks : ℕ → Bool) (before after : MessageLists M) (ids : List ℕ) → HasRisingIds before → HasRisingIds after → AreChanged before after ids
      → messages_where picks after + messages_among picks ids before ≡ messages_where picks before + messages_among picks ids after
  changed_count picks before after ids r r' changed =
      let key : ℕ × Contents M → ℕ = λ p. p.0 in
      let w : ℕ × Contents M → ℕ = weight picks in
      let among : (message_lists : MessageLists M) → HasRisingIds message_lists → sum_by (λ id. at key w id message_lists) ids ≡ messages_among picks ids message_lists =
      λ message_lists rises. same_sums _ _ ids (λ id. at_message_lists picks id message_lists rises) in
      let same : (id : ℕ) → has_id ids id ≡ false → at key w id after ≡ at key w id before =
      λ id n. at_message_lists picks id after r'
      ∙ (ap (λ (k : ℕ). cond (picks id) k 0)
      (sym (envelopes_by_entries id after) ∙ (ap (sum_by (λ (e : Entry M). e.count)) (sym (changed.others id n)) ∙ envelopes_by_entries id before))
      ∙ sym (at_message_lists picks id before r)) in
      ap (λ n. messages_where picks after + n) (sym (among before r))
      ∙ (same_but_at key w key w after before ids changed.rise same ∙ ap (λ n. messages_where picks before + n) (among after r'))

  -- where graphs differ in these vertices alone: what is counted for the one, from what was for the other
  with_count_delta : (picks picks' : ℕ → Bool) (message_lists : MessageLists M) (ids : List ℕ) → HasRisingIds message_lists → IsStrictlySortedBy nat_cmp ids
      → ((id : ℕ) → has_id ids id ≡ false → picks' id ≡ picks id)
      → messages_where picks' message_lists + messages_among picks ids message_lists ≡ messages_where picks message_lists + messages_among picks' ids message_lists
  with_count_delta picks picks' message_lists ids r rising same =
      let key : ℕ × Contents M → ℕ = λ p. p.0 in
      let among : (p : ℕ → Bool) → sum_by (λ id. at key (weight p) id message_lists) ids ≡ messages_among p ids message_lists =
      λ p. same_sums _ _ ids (λ id. at_message_lists p id message_lists r) in
      ap (λ n. messages_where picks' message_lists + n) (sym (among picks))
      ∙ (same_but_at key (weight picks') key (weight picks) message_lists message_lists ids rising
      (λ id n. at_message_lists picks' id message_lists r ∙
      (ap (λ (b : Bool). cond b (length (envelopes_at id message_lists)) 0) (same id n) ∙ sym (at_message_lists picks id message_lists r)))
      ∙ ap (λ n. messages_where picks message_lists + n) (among picks'))

  -- at one receiver: what is sent, and what of it is dropped
  stated_at : (picks : ℕ → Bool) (before after : MessageLists M) (logged : LoggedBundle M) → HasRisingIds before → HasRisingIds after → logged.bundle ≡ after
      → TellsChanges before logged
      → messages_where picks after + messages_among picks (changed_targets_of logged) before ≡ messages_where picks before + messages_among picks
      (changed_targets_of logged) logged.bundle
  stated_at picks before after logged r r' is tells = by logged.changed tells
    where
      by : (changed : Option (List ℕ)) → elim changed as (λ _. Type 0) [ None ↦ ⊥ | Some ids ↦ AreChanged before logged.bundle ids ]
          → messages_where picks after + messages_among picks (elim changed as (λ _. List ℕ) [ None ↦ [] | Some ids ↦ ids ]) before
          ≡ messages_where picks before + messages_among picks (elim changed as (λ _. List ℕ) [ None ↦ [] | Some ids ↦ ids ]) logged.bundle
      by None t = absurd t
      by (Some ids) t =
          subst (λ
          (b : MessageLists M). messages_where picks b + messages_among picks ids before ≡ messages_where picks before + messages_among picks ids logged.bundle)
          is (changed_count picks before logged.bundle ids r (subst HasRisingIds (sym is) r') t)

  sent_at : (before after : MessageLists M) (old new : Option (LoggedBundle M)) → HasRisingIds before → HasRisingIds after → IsLoggedChange before after old new
      → messages_where is_any after + vertex_counts_delta_at sent_removed old new ≡ messages_where is_any before + vertex_counts_delta_at sent_added old new
  sent_at before after old None r r' t = absurd t
  sent_at before after old (Some logged) r r' t =
      ap (λ (b : MessageLists M). messages_where is_any after + messages_among is_any (changed_targets_of logged) b) t.0
      ∙ stated_at is_any before after logged r r' t.1.0 t.1.1

  dropped_at : (rows old_rows : Rows) (member_changes : List ℕ) → AreMemberChanges member_changes old_rows rows
      → (before after : MessageLists M) (old new : Option (LoggedBundle M)) → HasRisingIds before → HasRisingIds after → IsLoggedChange before after old new
      → messages_where (is_no_vertex rows) after + vertex_counts_delta_at (dropped_removed Drop rows member_changes) old new
      ≡ messages_where (is_no_vertex old_rows) before + vertex_counts_delta_at (dropped_added Drop rows member_changes) old new
  dropped_at rows old_rows member_changes m before after old None r r' t = absurd t
  dropped_at rows old_rows member_changes m before after old (Some logged) r r' t =
      let changed_targets = stated_at (is_no_vertex rows) before after logged r r' t.1.0 t.1.1 in
      let turn = with_count_delta (is_no_vertex old_rows) (is_no_vertex rows) before member_changes r m.rise (λ id n. ap not (m.others id n)) in
      let here : messages_among (is_no_vertex old_rows) member_changes before ≡ messages_among (is_vertex rows) member_changes before =
      same_sums_in _ _ member_changes (λ id i. ap (λ (b : Bool). cond b (length (envelopes_at id before)) 0) (sym (m.member_changes id i))) in
      subst (λ (b : MessageLists M). messages_where (is_no_vertex rows) after
      + (messages_among (is_no_vertex rows) (changed_targets_of logged) b + messages_among (is_vertex rows) member_changes b)
      ≡ messages_where (is_no_vertex old_rows) before + (messages_among (is_no_vertex rows) (changed_targets_of logged) logged.bundle + messages_among (is_no_vertex rows) member_changes b))
      (sym t.0) (omega (arith, changed_targets, turn, here))

  module _ (olds news : ℕ → MessageLists M) (logs : Slots M) (s p : ℕ) (bundles : List (LoggedBundle M)) (old_rise : (q : ℕ) → HasRisingIds (olds q))
      (rise : (q : ℕ) → HasRisingIds (news q))
      (changed_targets : (q : ℕ) → q < length bundles → IsLoggedChange (olds q) (news q) (slot_at logs s p q) (slice_get bundles q)) where
    pub message_counts_is : (missing : Missing) (old_rows rows : Rows) (member_changes : List ℕ) → AreMemberChanges member_changes old_rows rows → (before after : MessageCounts)
        → before ≡ message_counts_of missing old_rows (map olds (range_with_len 0 (length bundles)))
        → HasMessageCountDelta missing rows member_changes logs s p bundles before after
        → after ≡ message_counts_of missing rows (map news (range_with_len 0 (length bundles)))
    message_counts_is missing old_rows rows member_changes m before after b h =
        let ns : List ℕ = range_with_len 0 (length bundles) in
        let e : after.sent ≡ sum_by (messages_where is_any) (map news ns) =
        omega (
          arith,
          h.sent,
          ap (λ (t : MessageCounts). t.sent) b,
          sum_map (messages_where is_any) olds ns,
          sum_map (messages_where is_any) news ns,
          below_all (length bundles) (λ q. messages_where is_any (news q)) (λ q. vertex_counts_delta_at sent_removed (slot_at logs s p q) (slice_get bundles q))
              (λ q. messages_where is_any (olds q)) (λ q. vertex_counts_delta_at sent_added (slot_at logs s p q) (slice_get bundles q))
              (λ q w. sent_at (olds q) (news q) (slot_at logs s p q) (slice_get bundles q) (old_rise q) (rise q) (changed_targets q w)),
        ) in
        let d : after.dropped ≡ dropped_of missing rows (map news ns) =
        dropped_is missing after.dropped before.dropped (ap (λ (t : MessageCounts). t.dropped) b) h.dropped in
        λ i. record { sent = e i; dropped = d i }
      where
        dropped_is : (missing : Missing) (after before : ℕ) → before ≡ dropped_of missing old_rows (map olds (range_with_len 0 (length bundles)))
            → after + vertex_counts_delta (dropped_removed missing rows member_changes) logs s p bundles (length bundles) ≡ before + vertex_counts_delta
            (dropped_added missing rows member_changes) logs s p bundles (length bundles)
            → after ≡ dropped_of missing rows (map news (range_with_len 0 (length bundles)))
        dropped_is Drop after before b h =
            let ns : List ℕ = range_with_len 0 (length bundles) in
            omega (
              arith,
              h,
              b,
              sum_map (messages_where (is_no_vertex old_rows)) olds ns,
              sum_map (messages_where (is_no_vertex rows)) news ns,
              below_all (length bundles) (λ q. messages_where (is_no_vertex rows) (news q))
                  (λ q. vertex_counts_delta_at (dropped_removed Drop rows member_changes) (slot_at logs s p q) (slice_get bundles q))
                  (λ q. messages_where (is_no_vertex old_rows) (olds q)) (λ q. vertex_counts_delta_at (dropped_added Drop rows member_changes) (slot_at logs s p q) (slice_get bundles q))
                  (λ q w. dropped_at rows old_rows member_changes m (olds q) (news q) (slot_at logs s p q) (slice_get bundles q) (old_rise q) (rise q) (changed_targets q w)),
            )
        dropped_is Create after before b h =
            omega (
              arith,
              h,
              b,
              below_all (length bundles) (λ q. 0) (λ q. vertex_counts_delta_at (dropped_removed Create rows member_changes) (slot_at logs s p q) (slice_get bundles q))
                  (λ q. 0) (λ q. vertex_counts_delta_at (dropped_added Create rows member_changes) (slot_at logs s p q) (slice_get bundles q))
                  (λ q w. none (slot_at logs s p q) (slice_get bundles q)),
            )
          where
            none : (before after : Option (LoggedBundle M))
                → 0 + vertex_counts_delta_at (dropped_removed Create rows member_changes) before after ≡ 0 + vertex_counts_delta_at (dropped_added Create rows member_changes) before after
            none before None = refl
            none before (Some l) = refl
