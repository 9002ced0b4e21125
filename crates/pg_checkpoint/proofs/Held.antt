-- Records that a part may hold, one after another.
use Rattle.std.proofs.Common.{◌≡◌, ℕ, suc, ◌+◌, List, [], ◌∷◌, ◌++◌, length, map, Result, Err, sym, ap, subst, ◌∙◌, arith}
use Rattle.std.specs.List.{AllByRecursion}
use Rattle.std.proofs.lemmas.List.{map-append}
use Rattle.pg_checkpoint.specs.Bounds.{Limits, MayHold, MayHoldAll, MayHoldFrom, Within}
use Rattle.pg_checkpoint.specs.Contents.{record_of, records_of}
use Rattle.pg_checkpoint.specs.declared.reading.RecordParts.{RecordParts}
use Rattle.pg_checkpoint.specs.declared.reading.Unread.{Unread}
use Rattle.pg_checkpoint.specs.declared.reading.Unread.TheVariants.{Damaged, Memory}
use Rattle.pg_map.specs.Entries.{HasRisingIds}
use Rattle.pg_model.specs.declared.record.Record.{Record}

-- the whole may not be, where a part of it may not
pub not_within : {X Y : Type 0} (IsX : X → Type 0) (IsY : Y → Type 0) {A B : Type 0} (e : Unread) {r : Result Y Unread} → r ≡ Err e → (B → A)
    → Within IsX A (Err e) → Within IsY B r
not_within {X} {Y} IsX IsY {A} {B} e is back h = subst (λ (r : Result Y Unread). Within IsY B r) (sym is) (by e h)
  where
    by : (e : Unread) → Within IsX A (Err e) → Within IsY B (Err e)
    by Memory h = tt
    by Damaged h = λ b. h (back b)

-- one more in two lists of the same images
pub images_push : {X Y Z : Type 0} (f : Y → Z) (g : X → Z) (xs : List X) (x : X) (ys : List Y) (y : Y) {after : List Y} → map f ys ≡ map g xs
    → after ≡ ys ++ y ∷ [] → f y ≡ g x → map f after ≡ map g (xs ++ x ∷ [])
images_push f g xs x ys y so_far pushed is =
    ap (map f) pushed ∙ map-append f ys (y ∷ []) ∙ ap (λ l. l ++ f y ∷ []) so_far ∙ ap (λ z. map g xs ++ z ∷ []) is ∙ sym (map-append g xs (x ∷ []))

module _ {X Y : Type 0} (f : X → Y) (P : Y → Type 0) where
  pub each_push : (xs : List X) (x : X) → AllByRecursion P (map f xs) → P (f x) → AllByRecursion P (map f (xs ++ x ∷ []))
  each_push [] x h p = (p, tt)
  each_push (y ∷ xs) x h p = (h.0, each_push xs x h.1 p)

  among : (before : List X) (x : X) (rest : List X) → AllByRecursion P (map f (before ++ x ∷ rest)) → P (f x)
  among [] x rest h = h.0
  among (y ∷ before) x rest h = among before x rest h.1

  pub of_one : (before rest : List X) (x : X) {remaining whole : List X} → remaining ≡ x ∷ rest → before ++ remaining ≡ whole → AllByRecursion P (map f whole) → P (f x)
  of_one before rest x next is all =
      among before x rest (subst (λ (l : List X). AllByRecursion P (map f l)) (sym (ap (λ l. before ++ l) (sym next) ∙ is)) all)

module _ {V M : Type 0} (limits : Limits) where
  -- the records of a superstep
  pub held_all : (s : ℕ) (before whole : List (RecordParts V M)) (records : List (ℕ × Record V M)) → before ≡ whole → records ≡ map record_of before
      → AllByRecursion (MayHold limits s) (map record_of before) → HasRisingIds records → MayHoldAll limits s (map record_of whole)
  held_all s before whole records all made each rise = record {
    ids_rise = subst (λ (l : List (ℕ × Record V M)). HasRisingIds l) (made ∙ ap (map record_of) all) rise;
    each = subst (λ (l : List (RecordParts V M)). AllByRecursion (MayHold limits s) (map record_of l)) all each;
  }

  pub not_held : (s : ℕ) (before whole : List (RecordParts V M)) (records : List (ℕ × Record V M)) → before ≡ whole → records ≡ map record_of before
      → (HasRisingIds records → ⊥) → MayHoldAll limits s (map record_of whole) → ⊥
  not_held s before whole records all made fall may =
      fall (subst (λ (l : List (ℕ × Record V M)). HasRisingIds l) (sym (made ∙ ap (map record_of) all)) may.ids_rise)

  -- those of supersteps
  from_push : (s k : ℕ) (before : List (List (RecordParts V M))) (one : List (RecordParts V M)) → k ≡ s + length before
      → MayHoldFrom limits s (records_of before) → MayHoldAll limits k (map record_of one) → MayHoldFrom limits s (records_of (before ++ one ∷ []))
  from_push s k [] one at h this = (subst (λ (j : ℕ). MayHoldAll limits j (map record_of one)) (omega (arith, at)) this, tt)
  from_push s k (x ∷ before) one at h this = (h.0, from_push (suc s) k before one (omega (arith, at)) h.1 this)

  pub held_push : (k : ℕ) (before : List (List (RecordParts V M))) (one : List (RecordParts V M)) → k ≡ length before
      → MayHoldFrom limits 0 (records_of before) → MayHoldAll limits k (map record_of one) → MayHoldFrom limits 0 (records_of (before ++ one ∷ []))
  held_push k before one at h this = from_push 0 k before one (omega (arith, at)) h this

  from_one : (s k : ℕ) (before : List (List (RecordParts V M))) (one : List (RecordParts V M)) (rest : List (List (RecordParts V M))) → k ≡ s + length before
      → MayHoldFrom limits s (records_of (before ++ one ∷ rest)) → MayHoldAll limits k (map record_of one)
  from_one s k [] one rest at h = subst (λ (j : ℕ). MayHoldAll limits j (map record_of one)) (omega (arith, at)) h.0
  from_one s k (x ∷ before) one rest at h = from_one (suc s) k before one rest (omega (arith, at)) h.1

  pub of_superstep : (k : ℕ) (before rest : List (List (RecordParts V M))) (one : List (RecordParts V M)) {remaining whole : List (List (RecordParts V M))}
      → k ≡ length before → remaining ≡ one ∷ rest → before ++ remaining ≡ whole → MayHoldFrom limits 0 (records_of whole) → MayHoldAll limits k (map record_of one)
  of_superstep k before rest one at next is all =
      from_one 0 k before one rest (omega (arith, at))
      (subst (λ (l : List (List (RecordParts V M))). MayHoldFrom limits 0 (records_of l)) (sym (ap (λ l. before ++ l) (sym next) ∙ is)) all)

  -- their ids rise
  pub all_rise : {L : Type 0} (items : L → List (ℕ × Record V M)) (s : ℕ) (ls : List L) → MayHoldFrom limits s (map items ls)
      → AllByRecursion (λ l. HasRisingIds (items l)) ls
  all_rise items s [] h = tt
  all_rise items s (l ∷ ls) h = (h.0.ids_rise, all_rise items (suc s) ls h.1)
