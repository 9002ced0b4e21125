-- What changes of records send is what the run's records send.
use Rattle.std.proofs.Common.{◌≡◌, ℕ, ◌+◌, ◌<◌, ◌%◌, arith, eq-eqb, Bool, true, false, cond, List, [], ◌∷◌, ◌++◌, map, Option, None, Some, refl, sym, ap, ap₂, ◌∙◌, subst₂, filter, flat_map}
use Rattle.std.specs.List.{AllByRecursion, slice_get}
use Rattle.std.proofs.lemmas.List.{map-append}
use Rattle.std.proofs.lemmas.List.Elements.{filter-append}
use Rattle.pg_inbox.specs.Handed.{LoggedBundle, as_send}
use Rattle.pg_model.specs.Job.{Combining}
use Rattle.pg_model.specs.Order.{Sending, sendings_from}
use Rattle.pg_model.specs.Share.{belongs, sendings_of}
use Rattle.pg_model.specs.declared.record.Record.{Record}
use Rattle.pg_trace.specs.Handed.{messages_by}
use Rattle.pg_part_routing.specs.Routes.{as_sends}
use Rattle.pg_part_routing.specs.Sending.{IsFresh, items_to, sends_by_records, sends_of}
use Rattle.pg_map.specs.Entries.{somes}
use Rattle.pg_part_routing.proofs.Listing.{all_picked}

module _ {M : Type 0} where
  one_sends : (id : ℕ) (sent : List (ℕ × M))
      → map as_send (map (λ m. (id, m)) sent) ≡ map {A = ℕ × (ℕ × ℕ × M)} (λ i. i.1) (map (λ m. (m.0, (id, m.0, m.1))) sent)
  one_sends id [] = refl
  one_sends id (m ∷ sent) = ap (λ l. (id, m.0, m.1) ∷ l) (one_sends id sent)

module _ {V M : Type 0} where
  pub sends-somes : (changes : List (ℕ × Option (Record V M))) → flat_map sends_of changes ≡ sends_by_records (somes changes)
  sends-somes [] = refl
  sends-somes ((id, None) ∷ changes) = sends-somes changes
  sends-somes ((id, Some r) ∷ changes) = ap (λ l. map (λ m. (m.0, (id, m.0, m.1))) r.sent ++ l) (sends-somes changes)

  -- all that changes send, whoever receives it
  pub all_sends : (changes : List (ℕ × Option (Record V M)))
      → map as_send (flat_map messages_by changes) ≡ map {A = ℕ × (ℕ × ℕ × M)} (λ i. i.1) (flat_map sends_of changes)
  all_sends [] = refl
  all_sends ((id, None) ∷ changes) = all_sends changes
  all_sends ((id, Some r) ∷ changes) =
      map-append as_send (map (λ m. (id, m)) r.sent) (flat_map messages_by changes) ∙ ap₂ ◌++◌ (one_sends id r.sent) (all_sends changes)
      ∙ sym (map-append {A = ℕ × (ℕ × ℕ × M)} (λ i. i.1) (map (λ m. (m.0, (id, m.0, m.1))) r.sent) (flat_map sends_of changes))

-- one partition receives all
all_to_one : {X : Type 0} (q : ℕ) (items : List (ℕ × X)) → q < 1 → items_to 1 q items ≡ map (λ i. i.1) items
all_to_one {X} q items below = ap (map (λ (i : ℕ × X). i.1)) (all_picked (λ i. belongs 1 q i.0) items (all items))
  where
    all : (items : List (ℕ × X)) → AllByRecursion (λ i. belongs 1 q i.0 ≡ true) items
    all [] = tt
    all (i ∷ items) = ((let same : i.0 % 1 ≡ q = omega (arith, below) in eq-eqb (i.0 % 1) q same), all items)

-- and its bundle is the only one
pub fresh_cold : {M : Type 0} (combining : Option (Combining M)) (n q : ℕ) → n ≡ 1 → q < n → (items : List (ℕ × (ℕ × ℕ × M))) (logged : LoggedBundle M)
    (bundles : List (LoggedBundle M)) → bundles ≡ logged ∷ [] → IsFresh combining (map (λ i. i.1) items) (Some logged)
    → IsFresh combining (items_to n q items) (slice_get bundles q)
fresh_cold combining n q one below items logged bundles is fresh =
    let first : q ≡ 0 = omega (arith, one, below) in
    subst₂ (IsFresh combining) (sym (ap (λ k. items_to k q items) one ∙ all_to_one q items (omega (arith, one, below)))) (sym (ap₂ slice_get is first)) fresh

pub items-append : {X : Type 0} (n q : ℕ) (a b : List (ℕ × X)) → items_to n q (a ++ b) ≡ items_to n q a ++ items_to n q b
items-append {X} n q a b =
    ap (map (λ (i : ℕ × X). i.1)) (filter-append (λ (i : ℕ × X). belongs n q i.0) a b)
    ∙ map-append (λ (i : ℕ × X). i.1) (filter (λ i. belongs n q i.0) a) (filter (λ i. belongs n q i.0) b)

module _ {M : Type 0} (n q : ℕ) where
  abbrev pub to_them : Sending M → Bool
  to_them t = belongs n q t.target

  one_sender : (id k : ℕ) (sent : List (ℕ × M))
      → items_to n q (map {B = ℕ × (ℕ × ℕ × M)} (λ m. (m.0, (id, m.0, m.1))) sent) ≡ as_sends (filter to_them (sendings_from id k sent))
  one_sender id k [] = refl
  one_sender id k (m ∷ sent) = by (belongs n q m.0) (one_sender id (k + 1) sent)
    where
      later : List (ℕ × (ℕ × ℕ × M))
      later = filter (λ i. belongs n q i.0) (map (λ m. (m.0, (id, m.0, m.1))) sent)

      others : List (Sending M)
      others = filter (λ t. belongs n q t.target) (sendings_from id (k + 1) sent)

      by : (b : Bool) → map (λ (i : ℕ × (ℕ × ℕ × M)). i.1) later ≡ as_sends others
          → map (λ (i : ℕ × (ℕ × ℕ × M)). i.1) (cond b ((m.0, (id, m.0, m.1)) ∷ later) later)
          ≡ as_sends (cond b (record { sender = id; place = k; target = m.0; message = m.1 } ∷ others) others)
      by true h = ap (λ l. (id, m.0, m.1) ∷ l) h
      by false h = h

module _ {V M : Type 0} (n q : ℕ) where
  pub by_records : (records : List (ℕ × Record V M)) → items_to n q (sends_by_records records) ≡ as_sends (filter (to_them n q) (sendings_of records))
  by_records [] = refl
  by_records (r ∷ records) =
      items-append n q (map (λ m. (m.0, (r.0, m.0, m.1))) r.1.sent) (sends_by_records records)
      ∙ (ap₂ ◌++◌ (one_sender n q r.0 0 r.1.sent) (by_records records)
      ∙ (sym (map-append (λ (t : Sending M). (t.sender, t.target, t.message)) (filter (to_them n q) (sendings_from r.0 0 r.1.sent))
      (filter (to_them n q) (sendings_of records)))
      ∙ ap as_sends (sym (filter-append (to_them n q) (sendings_from r.0 0 r.1.sent) (sendings_of records)))))

  -- changes send what the records send that they leave
  pub sends_of_changes : (changes : List (ℕ × Option (Record V M))) (records : List (ℕ × Record V M)) → somes changes ≡ records
      → items_to n q (flat_map sends_of changes) ≡ as_sends (filter (λ t. belongs n q t.target) (sendings_of records))
  sends_of_changes changes records are =
      ap (items_to n q) (sends-somes changes ∙ ap sends_by_records are) ∙ by_records records
