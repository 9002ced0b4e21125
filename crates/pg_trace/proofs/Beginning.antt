-- States found by their ids.
use Rattle.std.proofs.Common.{◌≡◌, ℕ, ◌==◌, Bool, true, false, cond, List, [], ◌∷◌, map, Option, None, Some, refl, sym, ap, ◌∙◌, subst, arith}
use Rattle.std.specs.BTreeMap.{insert_entry, is_at}
use Rattle.std.specs.List.Sorted.{IsStrictlySortedBy}
use Rattle.std.specs.Map.{keys_of, remove_entry, values_of}
use Rattle.std.specs.Ordering.{match_ordering, nat_cmp}
use Rattle.std.specs.declared.cmp.Ordering.{Ordering}
use Rattle.std.specs.declared.cmp.Ordering.TheVariants.{Equal, Greater, Less}
use Rattle.std.proofs.lemmas.Bool.Decides.{nat_tests}
use Rattle.pg_map.specs.Entries.{HasRisingIds, value_at, with_changes}
use Rattle.pg_model.specs.declared.configuration.VertexState.{VertexState}
use Rattle.pg_trace.specs.Beginning.{AreById, ChangesById, by_id}
use Rattle.pg_trace.specs.Trace.{StatesRise, state_of}

same_test : (a b : ℕ) → (b == a) ≡ is_at (nat_cmp a) b
same_test a b = grind (arith, nat_tests)

module _ {V : Type 0} where
  pub state_by_id : (id : ℕ) (entries : List (ℕ × VertexState V)) → AreById entries → state_of id (values_of entries) ≡ value_at id entries
  state_by_id id [] are = refl
  state_by_id id (e ∷ entries) are =
      ap (λ (k : ℕ). cond (k == id) (Some e.1) (state_of id (values_of entries))) are.0
      ∙ ap (λ t. cond t (Some e.1) (state_of id (values_of entries))) (same_test id e.0)
      ∙ ap (λ o. cond (is_at (nat_cmp id) e.0) (Some e.1) o) (state_by_id id entries are.1)

  pub values-by_id : (states : List (VertexState V)) → values_of (by_id states) ≡ states
  values-by_id [] = refl
  values-by_id (x ∷ states) = ap (λ l. x ∷ l) (values-by_id states)

  pub are-by_id : (states : List (VertexState V)) → AreById (by_id states)
  are-by_id [] = tt
  are-by_id (x ∷ states) = (refl, are-by_id states)

  keys-by_id : (states : List (VertexState V)) → keys_of (by_id states) ≡ map (λ x. x.id) states
  keys-by_id [] = refl
  keys-by_id (x ∷ states) = ap (λ l. x.id ∷ l) (keys-by_id states)

  pub rise-by_id : (states : List (VertexState V)) → StatesRise states → HasRisingIds (by_id states)
  rise-by_id states rise = subst (IsStrictlySortedBy nat_cmp) (sym (keys-by_id states)) rise

  pub ids-values : (entries : List (ℕ × VertexState V)) → AreById entries → map (λ x. x.id) (values_of entries) ≡ keys_of entries
  ids-values [] are = refl
  ids-values (e ∷ entries) are = ap (λ k. k ∷ map (λ x. x.id) (values_of entries)) are.0 ∙ ap (λ l. e.0 ∷ l) (ids-values entries are.1)

  pub by_id-values : (entries : List (ℕ × VertexState V)) → AreById entries → by_id (values_of entries) ≡ entries
  by_id-values [] are = refl
  by_id-values (e ∷ entries) are = λ i. (are.0 i, e.1) ∷ by_id-values entries are.1 i

  -- ---- changed

  are-insert : (id : ℕ) (x : VertexState V) → x.id ≡ id → (entries : List (ℕ × VertexState V)) → AreById entries → AreById (insert_entry nat_cmp entries id x)
  are-insert id x same [] are = (same, tt)
  are-insert id x same (e ∷ entries) are = by (nat_cmp id e.0) refl (are-insert id x same entries are.1)
    where
      by : (o : Ordering) → nat_cmp id e.0 ≡ o → AreById (insert_entry nat_cmp entries id x)
          → AreById (match_ordering o ((id, x) ∷ e ∷ entries) ((e.0, x) ∷ entries) (e ∷ insert_entry nat_cmp entries id x))
      by Less h later = (same, are)
      by Equal h later = (same ∙ (let equal : id ≡ e.0 = grind (arith, nat_tests) in equal), are.1)
      by Greater h later = (are.0, later)

  are-remove : (id : ℕ) (entries : List (ℕ × VertexState V)) → AreById entries → AreById (remove_entry (is_at (nat_cmp id)) entries)
  are-remove id [] are = tt
  are-remove id (e ∷ entries) are = by (is_at (nat_cmp id) e.0) (are-remove id entries are.1)
    where
      by : (b : Bool) → AreById (remove_entry (is_at (nat_cmp id)) entries) → AreById (cond b entries (e ∷ remove_entry (is_at (nat_cmp id)) entries))
      by true later = are.1
      by false later = (are.0, later)

  pub are-changes : (changes : List (ℕ × Option (VertexState V))) (entries : List (ℕ × VertexState V)) → ChangesById changes → AreById entries
      → AreById (with_changes changes entries)
  are-changes [] entries by are = are
  are-changes ((id, None) ∷ changes) entries by are = are-changes changes (remove_entry (is_at (nat_cmp id)) entries) by.1 (are-remove id entries are)
  are-changes ((id, Some x) ∷ changes) entries by are = are-changes changes (insert_entry nat_cmp entries id x) by.1 (are-insert id x by.0 entries are)
