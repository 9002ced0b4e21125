-- The fields of a record, by their places.
use Rattle.std.proofs.Common.{◌≡◌, ℕ, ◌&&◌, true, false, not, List, [], ◌∷◌, map, Option, None, Some, Err, refl}
use Rattle.std.specs.Char.{is_ascii_digit}
use Rattle.std.specs.Option.{is_some, option_map, option_to_list}
use Rattle.csv.specs.Records.{field_at}
use Rattle.pg_import.specs.Comma.{is_header, trimmed}
use Rattle.pg_import.specs.Import.{begins_with, edge_of}
use Rattle.pg_import.specs.declared.line.ImportKind.TheVariants.{FieldCount}

pub header-none : (fields : List (List ℕ)) → field_at fields 0 ≡ None → is_header (map trimmed fields) ≡ false
unfolding field_at is_header
header-none [] none = refl
header-none (first ∷ others) none = cc none

pub header-one : (fields : List (List ℕ)) → field_at fields 1 ≡ None → is_header (map trimmed fields) ≡ false
unfolding field_at is_header
header-one [] none = refl
header-one (first ∷ []) none = refl
header-one (first ∷ second ∷ others) none = cc none

pub header-two : (fields : List (List ℕ)) (a b : List ℕ) → field_at fields 0 ≡ Some a → field_at fields 1 ≡ Some b
    → is_header (map trimmed fields) ≡ (not (begins_with is_ascii_digit (trimmed a)) && not (begins_with is_ascii_digit (trimmed b)))
unfolding field_at is_header
header-two [] a b first second = cc first
header-two (x ∷ []) a b first second = cc second
header-two (x ∷ y ∷ others) a b first second =
    let e : x ≡ a = cc first in let d : y ≡ b = cc second in rw (e, d) refl

pub edge-none : (fields : List (List ℕ)) → field_at fields 0 ≡ None → edge_of (map trimmed fields) ≡ Err FieldCount
unfolding field_at edge_of
edge-none [] none = refl
edge-none (source ∷ others) none = cc none

pub edge-one : (fields : List (List ℕ)) → field_at fields 1 ≡ None → edge_of (map trimmed fields) ≡ Err FieldCount
unfolding field_at edge_of
edge-one [] none = refl
edge-one (source ∷ []) none = refl
edge-one (source ∷ target ∷ others) none = cc none

pub edge-four : (fields : List (List ℕ)) → is_some (field_at fields 3) ≡ true → edge_of (map trimmed fields) ≡ Err FieldCount
unfolding field_at edge_of
edge-four [] four = cc four
edge-four (source ∷ []) four = cc four
edge-four (source ∷ target ∷ []) four = cc four
edge-four (source ∷ target ∷ weight ∷ []) four = cc four
edge-four (source ∷ target ∷ weight ∷ more ∷ others) four = refl

-- two fields, or three
pub fields_by_place : (fields : List (List ℕ)) (a b : List ℕ) → field_at fields 0 ≡ Some a → field_at fields 1 ≡ Some b → is_some (field_at fields 3) ≡ false
    → map trimmed fields ≡ trimmed a ∷ trimmed b ∷ option_to_list (option_map trimmed (field_at fields 2))
unfolding field_at
fields_by_place [] a b first second three = cc first
fields_by_place (x ∷ []) a b first second three = cc second
fields_by_place (x ∷ y ∷ []) a b first second three = let e : x ≡ a = cc first in let d : y ≡ b = cc second in rw (e, d) refl
fields_by_place (x ∷ y ∷ z ∷ []) a b first second three = let e : x ≡ a = cc first in let d : y ≡ b = cc second in rw (e, d) refl
fields_by_place (x ∷ y ∷ z ∷ more ∷ others) a b first second three = cc three

pub is_some-map : {A B : Type 0} (f : A → B) (o : Option A) → is_some (option_map f o) ≡ is_some o
is_some-map f None = refl
is_some-map f (Some x) = refl
