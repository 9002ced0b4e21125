-- Steps and ends of loops that count messages, and where no message is undeliverable.
use Rattle.std.proofs.Common.{◌≡◌, ℕ, ◌+◌, ◌-◌, ◌==◌, ◌≤◌, IsSome, true, false, cond, List, None, Some, [], ◌∷◌, length, get_or, slice_get, refl, ap, ap₂, sym}
use Rattle.std.proofs.Common.{subst, ◌∙◌, arith, Bool, not, is_some}
use Rattle.std.specs.List.{AllByRecursion, sum_by}
use Rattle.std.specs.List.Sorted.{IsNonDecreasingBy}
use Rattle.std.proofs.lemmas.List.Elements.{recursion_from_All}
use Rattle.std.proofs.lemmas.Option.{get_or_from_slice_get}
use Rattle.std.proofs.lemmas.List.Sums.{sum_by-cons}
use Rattle.pg_graph.specs.Rows.{Rows, row_at}
use Rattle.pg_inbox_messages.specs.Contents.{contents_of, message_lists_of}
use Rattle.pg_inbox_messages.specs.Grouping.{before_groups, groups_of}
use Rattle.pg_inbox_bundles.specs.Counting.{messages_where}
use Rattle.pg_inbox_bundles.specs.Sound.{sent_message_lists}

module _ {X : Type 0} where
  pub counted_one : (f : X → ℕ) (rest : List X) (before : ℕ) {x : X} {remaining : List X} {after whole : ℕ} → remaining ≡ x ∷ rest
      → before + sum_by f remaining ≡ whole → after ≡ before + f x → after + sum_by f rest ≡ whole
  counted_one f rest before {x} next so_far counted = omega (arith, so_far, counted, ap (sum_by f) next ∙ sum_by-cons f x rest)

  pub counted_all : (f : X → ℕ) (before : ℕ) {remaining : List X} {whole : ℕ} → remaining ≡ [] → before + sum_by f remaining ≡ whole → before ≡ whole
  counted_all f before {remaining} none so_far =
      let over : sum_by f remaining ≡ 0 = ap (sum_by f) none in
      omega (arith, so_far, over)

abbrev pub is_undeliverable : Rows → ℕ → Bool
is_undeliverable rows id = not (is_some (row_at id rows))

-- ---- no message is undeliverable

module _ {X : Type 0} (P : ℕ → Type 0) where
  groups_all : (items : List (ℕ × X)) → AllByRecursion (λ i. P i.0) items → AllByRecursion (λ g. P g.0) (groups_of items)
  groups_all [] all = tt
  groups_all (i ∷ items) all = by (groups_of items) (groups_all items all.1)
    where
      joined : (b : Bool) (g : ℕ × List X) (groups : List (ℕ × List X)) → P g.0 × AllByRecursion (λ g. P g.0) groups
          → AllByRecursion (λ g. P g.0) (cond b ((i.0, i.1 ∷ g.1) ∷ groups) ((i.0, i.1 ∷ []) ∷ g ∷ groups))
      joined true g groups later = (all.0, later.1)
      joined false g groups later = (all.0, later)

      by : (groups : List (ℕ × List X)) → AllByRecursion (λ g. P g.0) groups → AllByRecursion (λ g. P g.0) (before_groups i groups)
      by [] later = (all.0, tt)
      by (g ∷ groups) later = joined (g.0 == i.0) g groups later

  -- items by rising target lie between the first and the last
  pub all_between : (items : List (ℕ × X)) (first last : ℕ × X) → IsNonDecreasingBy (λ i. i.0) items → Some first ≡ slice_get items 0
      → Some last ≡ slice_get items (length items - 1) → ((id : ℕ) → first.0 ≤ id → id ≤ last.0 → P id) → AllByRecursion (λ i. P i.0) items
  all_between items first last rise begins ends between =
      recursion_from_All (λ i. P i.0) items
      (λ k d within. between (get_or items k d).0
      (subst (λ x. x.0 ≤ (get_or items k d).0) (sym (there first 0 d begins)) (rise 0 k d (omega arith) within))
      (subst (λ x. (get_or items k d).0 ≤ x.0) (sym (there last (length items - 1) d ends)) (rise k (length items - 1) d (omega (arith, within)) (omega (arith, within)))))
    where
      there : (x : ℕ × X) (k : ℕ) (d : ℕ × X) → Some x ≡ slice_get items k → x ≡ get_or items k d
      there x k d is = sym (get_or_from_slice_get items k x d (sym is))

module _ {M : Type 0} (rows : Rows) where
  none_in : (groups : List (ℕ × List (ℕ × M))) → AllByRecursion (λ g. IsSome (row_at g.0 rows)) groups
      → messages_where (is_undeliverable rows) (message_lists_of None groups) ≡ 0
  none_in [] all = refl
  none_in (g ∷ groups) all =
      sum_by-cons (λ p. cond (is_undeliverable rows p.0) (length p.1.envelopes) 0) (g.0, contents_of None g.1) (message_lists_of None groups)
      ∙ ap₂ ◌+◌ (ap (λ b. cond (not b) (length g.1) 0) all.0) (none_in groups all.1)

  pub none_undeliverable : (envelopes : List (ℕ × (ℕ × M))) → AllByRecursion (λ l. IsSome (row_at l.0 rows)) envelopes
      → 0 ≡ messages_where (is_undeliverable rows) (sent_message_lists envelopes)
  none_undeliverable envelopes all = sym (none_in (groups_of envelopes) (groups_all (λ id. IsSome (row_at id rows)) envelopes all))
