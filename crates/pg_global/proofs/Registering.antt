-- What an entry more of a registry is to its names.
use Rattle.std.proofs.Common.{◌≡◌, ℕ, ◌+◌, Bool, true, false, cond, List, [], ◌∷◌, ◌++◌, length, None, Some, refl, sym, ap, ◌∙◌, inl, inr, String, Global}
use Rattle.std.specs.List.{position, position_from}
use Rattle.std.specs.Map.{keys_of}
use Rattle.std.specs.Str.{bytes_eq}
use Rattle.std.specs.String.{string_bytes, string_eq}
use Rattle.std.proofs.lemmas.Bool.{cases_Bool}
use Rattle.std.proofs.lemmas.List.{length-map}
use Rattle.std.proofs.lemmas.Iterator.Adapters.{position_from-zero}
use Rattle.indexmap.specs.IndexMap.{insert_entry}
use Rattle.pg_global.specs.Names.{registered_of}
use Rattle.pg_global.specs.Registry.{Registered, place_of}
use Rattle.pg_global.specs.declared.registry.Registration.{Registration}

abbrev Entries : Type 0
Entries = List (String Global × Registration)

-- the place of a name from n on, among the entries and among the names
position_from-names : (name : List ℕ) (n : ℕ) (es : Entries)
    → position_from (λ k. bytes_eq name (string_bytes k)) n (keys_of es) ≡ position_from (bytes_eq name) n (keys_of (registered_of es))
position_from-names name n [] = refl
position_from-names name n (e ∷ es) = ap (cond (bytes_eq name (string_bytes e.0)) (Some n)) (position_from-names name (n + 1) es)

pub place_of-registered : (name : List ℕ) (es : Entries) → position (λ k. bytes_eq name (string_bytes k)) (keys_of es) ≡ place_of name (registered_of es)
place_of-registered name es = position_from-zero (λ k. bytes_eq name (string_bytes k)) (keys_of es) ∙ position_from-names name 0 es

new_from : (name : List ℕ) (key : String Global) (r : Registration) (n : ℕ) (es : Entries) → string_bytes key ≡ name
    → position_from (bytes_eq name) n (keys_of (registered_of es)) ≡ None → insert_entry string_eq es key r ≡ es ++ (key, r) ∷ []
new_from name key r n [] same none = refl
new_from name key r n (e ∷ es) same none =
    let look =
    λ (b : Bool)
    (t : bytes_eq name (string_bytes e.0) ≡ b). sym (ap (λ o. cond o (Some n) (position_from (bytes_eq name) (n + 1) (keys_of (registered_of es)))) t)
    ∙ none in
    elim (cases_Bool (bytes_eq name (string_bytes e.0))) [
      | inl t ↦ let k : Some n ≡ None = look true t in cc
      | inr t ↦
          let apart : string_eq key e.0 ≡ false = ap (λ (bytes : List ℕ). bytes_eq bytes (string_bytes e.0)) same ∙ t in
          ap (λ b. cond b ((e.0, r) ∷ es) (e ∷ insert_entry string_eq es key r)) apart ∙ ap (λ l. e ∷ l) (new_from name key r (n + 1) es same (look false t))
    ]

-- a new name goes last
pub insert_entry-new : (name : List ℕ) (key : String Global) (r : Registration) (es : Entries) → string_bytes key ≡ name
    → place_of name (registered_of es) ≡ None → insert_entry string_eq es key r ≡ es ++ (key, r) ∷ []
insert_entry-new name key r es = new_from name key r 0 es

pub registered_of-push : (name : List ℕ) (key : String Global) (r : Registration) (es : Entries) → string_bytes key ≡ name
    → registered_of (es ++ (key, r) ∷ []) ≡ registered_of es ++ (name, r) ∷ []
registered_of-push name key r [] same = ap (λ (bytes : List ℕ). (bytes, r) ∷ []) same
registered_of-push name key r (e ∷ es) same = ap (λ l. (string_bytes e.0, e.1) ∷ l) (registered_of-push name key r es same)

pub length-registered_of : (es : Entries) → length (registered_of es) ≡ length es
length-registered_of es = simp length-map

-- the names after an entry more, under a new name
pub registered_of-insert : (name : List ℕ) (key : String Global) (r : Registration) (registered : Registered) (es fs : Entries)
    → registered_of es ≡ registered → string_bytes key ≡ name → place_of name registered ≡ None → fs ≡ insert_entry string_eq es key r
    → registered_of fs ≡ registered ++ (name, r) ∷ []
registered_of-insert name key r registered es fs seen same free more =
    ap registered_of (more ∙ insert_entry-new name key r es same (ap (place_of name) seen ∙ free)) ∙ registered_of-push name key r es same
    ∙ ap (λ (l : Registered). l ++ (name, r) ∷ []) seen
