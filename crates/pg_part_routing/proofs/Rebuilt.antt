-- The messages of the old run with those of changed records retracted, and what they send now added, are those of the new run.
use Rattle.std.proofs.Common.{◌≡◌, ℕ, ◌==◌, ◌&&◌, ◌||◌, not, Bool, true, false, cond, List, [], ◌∷◌, ◌++◌, map}
use Rattle.std.proofs.Common.{Option, None, Some, refl, sym, ap, ap₂, ◌∙◌, subst, filter, flat_map}
use Rattle.std.specs.BTreeMap.{is_at}
use Rattle.std.specs.List.{AllByRecursion, list_any}
use Rattle.std.specs.Option.{unwrap_or}
use Rattle.std.specs.Ordering.{nat_cmp}
use Rattle.std.proofs.lemmas.Bool.{eq-eqb, eqb-true, or_left, or_right}
use Rattle.std.proofs.lemmas.List.{append-nil}
use Rattle.std.proofs.lemmas.List.Elements.{filter-append}
use Rattle.std.proofs.lemmas.Option.{none-some}
use Rattle.pg_inbox.specs.Handed.{Outbox, is_retracted, sent_by, staying}
use Rattle.pg_map.specs.Entries.{ChangesRise, value_at, HasRisingIds as Rises, somes}
use Rattle.pg_map.proofs.Parts.{rises_after}
use Rattle.pg_map.proofs.Rising.{none_past}
use Rattle.pg_model.specs.Share.{belongs}
use Rattle.pg_model.proofs.LawsLists.{all_weaker}
use Rattle.pg_model.proofs.LawsPresent.{at_key}
use Rattle.pg_model.specs.declared.record.Record.{Record}
use Rattle.pg_part_routing.specs.Sending.{items_to, pairs_by, pairs_of, sends_by, sends_by_records, sends_of}
use Rattle.pg_part_routing.proofs.Delivery.{either_order}
use Rattle.pg_part_routing.proofs.Listing.{all_picked}
use Rattle.pg_part_routing.proofs.Outbox.{items-append, sends-somes}
use Rattle.pg_map.proofs.Somes.{somes_rise, value_at-somes}
use Rattle.pg_trace.specs.Trace.{Trace, record_at}

-- ---- tests

module _ {X : Type 0} where
  any-append : (f : X → Bool) (xs ys : List X) → list_any f (xs ++ ys) ≡ (list_any f xs || list_any f ys)
  any-append f [] ys = refl
  any-append f (x ∷ xs) ys = by (f x) (any-append f xs ys)
    where
      by : (b : Bool) → list_any f (xs ++ ys) ≡ (list_any f xs || list_any f ys) → (b || list_any f (xs ++ ys)) ≡ ((b || list_any f xs) || list_any f ys)
      by true h = refl
      by false h = h

  none_picked : (p : X → Bool) (xs : List X) → AllByRecursion (λ x. p x ≡ false) xs → filter p xs ≡ []
  none_picked p [] h = refl
  none_picked p (x ∷ xs) h = ap (λ (b : Bool). cond b (x ∷ filter p xs) (filter p xs)) h.0 ∙ none_picked p xs h.1

-- ---- what one sender sent

module _ {M : Type 0} (n q u : ℕ) where
  by_one : (k : ℕ) (sent : List (ℕ × M))
      → sent_by u (items_to n q (map {B = ℕ × (ℕ × ℕ × M)} (λ m. (m.0, (k, m.0, m.1))) sent))
      ≡ cond (k == u) (items_to n q (map (λ m. (m.0, (k, m.0, m.1))) sent)) []
  by_one k [] = by (k == u)
    where
      none : Outbox M
      none = []

      by : (b : Bool) → none ≡ cond b none none
      by true = refl
      by false = refl
  by_one k (m ∷ sent) = by (belongs n q m.0) (k == u) refl (by_one k sent)
    where
      later : List (ℕ × (ℕ × ℕ × M))
      later = filter (λ i. belongs n q i.0) (map (λ m. (m.0, (k, m.0, m.1))) sent)

      first : ℕ × (ℕ × ℕ × M)
      first = (m.0, (k, m.0, m.1))

      by : (b e : Bool) → (k == u) ≡ e → sent_by u (map (λ i. i.1) later) ≡ cond e (map (λ i. i.1) later) []
          → sent_by u (map (λ i. i.1) (cond b (first ∷ later) later)) ≡ cond e (map (λ i. i.1) (cond b (first ∷ later) later)) []
      by true true f h =
          ap (λ (t : Bool). cond t ((k, m.0, m.1) ∷ sent_by u (map (λ i. i.1) later)) (sent_by u (map (λ i. i.1) later))) f ∙ ap (λ l. (k, m.0, m.1) ∷ l) h
      by true false f h = ap (λ (t : Bool). cond t ((k, m.0, m.1) ∷ sent_by u (map (λ i. i.1) later)) (sent_by u (map (λ i. i.1) later))) f ∙ h
      by false e f h = h

module _ {V M : Type 0} (n q u : ℕ) where
  -- what a vertex sends to the partition by a record
  sent_here : ℕ → Option (Record V M) → Outbox M
  sent_here k o = items_to n q (sends_by k o)

  -- of records
  of_records : (records : List (ℕ × Record V M)) → Rises records → sent_by u (items_to n q (sends_by_records records)) ≡ sent_here u (value_at u records)
  unfolding sent_here
  of_records [] rise = refl
  of_records (r ∷ records) rise =
      ap (sent_by u) (items-append n q (sends_by r.0 (Some r.1)) (sends_by_records records))
      ∙ (filter-append (λ s. s.0 == u) (items_to n q (sends_by r.0 (Some r.1))) (items_to n q (sends_by_records records))
      ∙ (ap₂ ◌++◌ (by_one n q u r.0 r.1.sent) (of_records records (rises_after r records rise))
      ∙ by (r.0 == u) refl))
    where
      by : (e : Bool) → (r.0 == u) ≡ e
          → cond e (sent_here r.0 (Some r.1)) [] ++ sent_here u (value_at u records) ≡ sent_here u
          (cond (is_at (nat_cmp u) r.0) (Some r.1) (value_at u records))
      by true e =
          let found : is_at (nat_cmp u) r.0 ≡ true = at_key u r.0 ∙ e in
          ap (λ o. sent_here r.0 (Some r.1) ++ sent_here u o) (none_past u r records rise found)
          ∙ (append-nil (sent_here r.0 (Some r.1))
          ∙ (ap (λ k. sent_here k (Some r.1)) (eqb-true r.0 u e)
          ∙ sym (ap (λ (b : Bool). sent_here u (cond b (Some r.1) (value_at u records))) found)))
      by false e = sym (ap (λ (b : Bool). sent_here u (cond b (Some r.1) (value_at u records))) (at_key u r.0 ∙ e))

  -- of changes
  of_changes : (changes : List (ℕ × Option (Record V M))) → ChangesRise changes
      → sent_by u (items_to n q (flat_map sends_of changes)) ≡ sent_here u (unwrap_or (value_at u changes) None)
  of_changes changes rise =
      ap (λ l. sent_by u (items_to n q l)) (sends-somes changes)
      ∙ (of_records (somes changes) (somes_rise changes rise) ∙ ap (sent_here u) (value_at-somes changes rise u))

  -- each of it is by that sender
  all_by : (k : ℕ) (o : Option (Record V M)) → AllByRecursion (λ x. x.0 ≡ k) (sent_here k o)
  unfolding sent_here
  all_by k None = tt
  all_by k (Some r) = each r.sent
    where
      each : (sent : List (ℕ × M)) → AllByRecursion (λ (x : ℕ × ℕ × M). x.0 ≡ k) (items_to n q (map (λ m. (m.0, (k, m.0, m.1))) sent))
      each [] = tt
      each (m ∷ sent) = by (belongs n q m.0) (each sent)
        where
          later : List (ℕ × (ℕ × ℕ × M))
          later = filter (λ i. belongs n q i.0) (map (λ m. (m.0, (k, m.0, m.1))) sent)

          by : (b : Bool) → AllByRecursion (λ (x : ℕ × ℕ × M). x.0 ≡ k) (map (λ i. i.1) later)
              → AllByRecursion (λ (x : ℕ × ℕ × M). x.0 ≡ k) (map (λ i. i.1) (cond b ((m.0, (k, m.0, m.1)) ∷ later) later))
          by true h = (refl, h)
          by false h = h

  -- ---- what is retracted

  module _ (old : Trace V M) (s : ℕ) where
    retracted : List (ℕ × Option (Record V M)) → List (ℕ × ℕ)
    retracted changes = items_to n q (flat_map (pairs_of old s) changes)

    -- whom another vertex sent to
    by_another : (k : ℕ) → (k == u) ≡ false → (t : ℕ) (o : Option (Record V M)) → is_retracted (items_to n q (pairs_by k o)) u t ≡ false
    by_another k e t None = refl
    by_another k e t (Some r) = each r.sent
      where
        each : (sent : List (ℕ × M)) → is_retracted (items_to n q (map (λ m. (m.0, (k, m.0))) sent)) u t ≡ false
        each [] = refl
        each (m ∷ sent) = by (belongs n q m.0) (each sent)
          where
            later : List (ℕ × (ℕ × ℕ))
            later = filter (λ i. belongs n q i.0) (map (λ m. (m.0, (k, m.0))) sent)

            by : (b : Bool) → is_retracted (map (λ i. i.1) later) u t ≡ false
                → is_retracted (map (λ i. i.1) (cond b ((m.0, (k, m.0)) ∷ later) later)) u t ≡ false
            by true h = ap (λ (c : Bool). (c && (m.0 == t)) || is_retracted (map (λ i. i.1) later) u t) e ∙ h
            by false h = h

    -- whom it sent to itself
    by_itself : (k : ℕ) → (k == u) ≡ true → (o : Option (Record V M))
        → AllByRecursion (λ x. is_retracted (items_to n q (pairs_by k o)) u x.1 ≡ true) (sent_here k o)
    unfolding sent_here
    by_itself k e None = tt
    by_itself k e (Some r) = each r.sent
      where
        all : List (ℕ × M) → List (ℕ × ℕ)
        all sent = items_to n q (map (λ m. (m.0, (k, m.0))) sent)

        each : (sent : List (ℕ × M))
            → AllByRecursion (λ (x : ℕ × ℕ × M). is_retracted (all sent) u x.1 ≡ true) (items_to n q (map (λ m. (m.0, (k, m.0, m.1))) sent))
        each [] = tt
        each (m ∷ sent) = by (belongs n q m.0) (each sent)
          where
            here : List (ℕ × (ℕ × ℕ))
            here = filter (λ i. belongs n q i.0) (map (λ m. (m.0, (k, m.0))) sent)

            later : List (ℕ × (ℕ × ℕ × M))
            later = filter (λ i. belongs n q i.0) (map (λ m. (m.0, (k, m.0, m.1))) sent)

            by : (b : Bool) → AllByRecursion (λ (x : ℕ × ℕ × M). is_retracted (map (λ i. i.1) here) u x.1 ≡ true) (map (λ i. i.1) later)
                → AllByRecursion (λ (x : ℕ × ℕ × M). is_retracted (map (λ i. i.1) (cond b ((m.0, (k, m.0)) ∷ here) here)) u x.1 ≡ true)
                (map (λ i. i.1) (cond b ((m.0, (k, m.0, m.1)) ∷ later) later))
            by true h = (
              ap₂ (λ (c d : Bool). (c && d) || is_retracted (map (λ i. i.1) here) u m.0) e (eq-eqb m.0 m.0 refl),
              all_weaker (λ (x : ℕ × ℕ × M). is_retracted (map (λ i. i.1) here) u x.1 ≡ true)
                  (λ (x : ℕ × ℕ × M). (((k == u) && (m.0 == x.1)) || is_retracted (map (λ i. i.1) here) u x.1) ≡ true)
                  (λ x h. or_right ((k == u) && (m.0 == x.1)) (is_retracted (map (λ i. i.1) here) u x.1) h) (map (λ i. i.1) later) h,
            )
            by false h = h

    retracted-more : (c : ℕ × Option (Record V M)) (changes : List (ℕ × Option (Record V M))) (t : ℕ)
        → is_retracted (retracted (c ∷ changes)) u t ≡ (is_retracted (items_to n q (pairs_of old s c)) u t || is_retracted (retracted changes) u t)
    unfolding retracted
    retracted-more c changes t =
        ap (λ l. is_retracted l u t) (items-append n q (pairs_of old s c) (flat_map (pairs_of old s) changes))
        ∙ any-append (λ w. (w.0 == u) && (w.1 == t)) (items_to n q (pairs_of old s c)) (retracted changes)

    -- nothing of a vertex whose record isn't changed
    none_retracted : (changes : List (ℕ × Option (Record V M))) → value_at u changes ≡ None → (t : ℕ) → is_retracted (retracted changes) u t ≡ false
    unfolding retracted
    none_retracted [] none t = refl
    none_retracted (c ∷ changes) none t =
        by (c.0 == u) refl (sym (ap (λ (b : Bool). cond b (Some c.1) (value_at u changes)) (at_key u c.0)) ∙ none) (λ h. none_retracted changes h t)
      where
        by : (e : Bool) → (c.0 == u) ≡ e → cond e (Some c.1) (value_at u changes) ≡ None
            → (value_at u changes ≡ None → is_retracted (retracted changes) u t ≡ false) → is_retracted (retracted (c ∷ changes)) u t ≡ false
        by true e h later = absurd (none-some c.1 (sym h))
        by false e h later =
            retracted-more c changes t
            ∙ (ap (λ (b : Bool). b || is_retracted (retracted changes) u t) (by_another c.0 e t (record_at c.0 s old)) ∙ later h)

    -- all of one whose record is
    all_retracted : (changes : List (ℕ × Option (Record V M))) (o : Option (Record V M)) → value_at u changes ≡ Some o
        → AllByRecursion (λ x. is_retracted (retracted changes) u x.1 ≡ true) (sent_here u (record_at u s old))
    all_retracted [] o there = absurd (none-some o there)
    all_retracted (c ∷ changes) o there =
        by (c.0 == u) refl (sym (ap (λ (b : Bool). cond b (Some c.1) (value_at u changes)) (at_key u c.0)) ∙ there) (λ h. all_retracted changes o h)
      where
        first : ℕ → Bool
        first t = is_retracted (items_to n q (pairs_of old s c)) u t

        rest : ℕ → Bool
        rest t = is_retracted (retracted changes) u t

        by : (e : Bool) → (c.0 == u) ≡ e → cond e (Some c.1) (value_at u changes) ≡ Some o
            → (value_at u changes ≡ Some o → AllByRecursion (λ x. rest x.1 ≡ true) (sent_here u (record_at u s old)))
            → AllByRecursion (λ x. is_retracted (retracted (c ∷ changes)) u x.1 ≡ true) (sent_here u (record_at u s old))
        by true e h later =
            subst (λ k. AllByRecursion (λ x. is_retracted (retracted (c ∷ changes)) u x.1 ≡ true) (sent_here k (record_at k s old))) (eqb-true c.0 u e)
            (all_weaker (λ x. first x.1 ≡ true) (λ x. is_retracted (retracted (c ∷ changes)) u x.1 ≡ true)
            (λ x g. retracted-more c changes x.1 ∙ or_left (first x.1) (rest x.1) g) (sent_here c.0 (record_at c.0 s old))
            (by_itself c.0 e (record_at c.0 s old)))
        by false e h later =
            all_weaker (λ x. rest x.1 ≡ true) (λ x. is_retracted (retracted (c ∷ changes)) u x.1 ≡ true)
            (λ x g. retracted-more c changes x.1 ∙ or_right (first x.1) (rest x.1) g) (sent_here u (record_at u s old)) (later h)

    -- ---- what stays of one sender

    stays : (changes : List (ℕ × Option (Record V M)))
        → filter (λ x. not (is_retracted (retracted changes) x.0 x.1)) (sent_here u (record_at u s old))
        ≡ elim (value_at u changes) [ None ↦ sent_here u (record_at u s old) | Some o ↦ [] ]
    stays changes = by (value_at u changes) refl
      where
        mine : AllByRecursion (λ x. x.0 ≡ u) (sent_here u (record_at u s old))
        mine = all_by u (record_at u s old)

        both : (P : ℕ × ℕ × M → Type 0) (xs : Outbox M) → AllByRecursion P xs → AllByRecursion (λ x. x.0 ≡ u) xs → AllByRecursion (λ x. P x × (x.0 ≡ u)) xs
        both P [] h k = tt
        both P (x ∷ xs) h k = ((h.0, k.0), both P xs h.1 k.1)

        by : (o : Option (Option (Record V M))) → value_at u changes ≡ o
            → filter (λ x. not (is_retracted (retracted changes) x.0 x.1))
            (sent_here u (record_at u s old)) ≡ elim o [ None ↦ sent_here u (record_at u s old) | Some o ↦ [] ]
        by None e =
            all_picked (λ x. not (is_retracted (retracted changes) x.0 x.1)) (sent_here u (record_at u s old))
            (all_weaker (λ x. x.0 ≡ u) (λ x. not (is_retracted (retracted changes) x.0 x.1) ≡ true)
            (λ x h. ap not (ap (λ k. is_retracted (retracted changes) k x.1) h ∙ none_retracted changes e x.1)) (sent_here u (record_at u s old)) mine)
        by (Some o) e =
            none_picked (λ x. not (is_retracted (retracted changes) x.0 x.1)) (sent_here u (record_at u s old))
            (all_weaker (λ x. (is_retracted (retracted changes) u x.1 ≡ true) × (x.0 ≡ u)) (λ x. not (is_retracted (retracted changes) x.0 x.1) ≡ false)
            (λ x h. ap not (ap (λ k. is_retracted (retracted changes) k x.1) h.1 ∙ h.0)) (sent_here u (record_at u s old))
            (both (λ x. is_retracted (retracted changes) u x.1 ≡ true) (sent_here u (record_at u s old)) (all_retracted changes o e) mine))

    -- each sender's messages by the new records are those that stay and those that are added
    pub sender_rebuilt : (changes : List (ℕ × Option (Record V M))) (before after : List (ℕ × Record V M)) → ChangesRise changes → Rises before → Rises after
        → record_at u s old ≡ value_at u before → value_at u after ≡ unwrap_or (value_at u changes) (value_at u before)
        → sent_by u (items_to n q (sends_by_records after))
        ≡ sent_by u (staying (items_to n q (flat_map (pairs_of old s) changes)) (items_to n q (sends_by_records before)))
        ++ (sent_by u (items_to n q (flat_map sends_of changes)) ++ [])
    unfolding retracted sent_here
    sender_rebuilt changes before after rise rises rises' held changed =
        of_records after rises'
        ∙ (ap (sent_here u) changed
        ∙ (by (value_at u changes) refl
        ∙ sym (ap₂ ◌++◌
        (either_order (λ s. s.0 == u) (λ x. not (is_retracted (retracted changes) x.0 x.1)) (items_to n q (sends_by_records before))
        ∙ (ap (filter (λ x. not (is_retracted (retracted changes) x.0 x.1))) (of_records before rises ∙ ap (sent_here u) (sym held)) ∙ stays changes))
        (append-nil (sent_by u (items_to n q (flat_map sends_of changes))) ∙ of_changes changes rise))))
      where
        by : (o : Option (Option (Record V M))) → value_at u changes ≡ o
            → sent_here u (unwrap_or (value_at u changes) (value_at u before))
            ≡ elim (value_at u changes) [ None ↦ sent_here u (record_at u s old) | Some o ↦ [] ] ++ sent_here u (unwrap_or (value_at u changes) None)
        by o e =
            ap (λ o. sent_here u (unwrap_or o (value_at u before))) e
            ∙ (cases o
            ∙ sym (ap (λ (o : Option (Option (Record V M))). elim o [ None ↦ sent_here u (record_at u s old) | Some o ↦ [] ] ++ sent_here u
            (unwrap_or o None)) e))
          where
            cases : (o : Option (Option (Record V M))) → sent_here u (unwrap_or o (value_at u before))
                ≡ elim o [ None ↦ sent_here u (record_at u s old) | Some o ↦ [] ] ++ sent_here u (unwrap_or o None)
            cases None = ap (sent_here u) (sym held) ∙ sym (append-nil (sent_here u (record_at u s old)))
            cases (Some o) = refl
