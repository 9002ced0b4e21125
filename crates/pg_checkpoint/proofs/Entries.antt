-- Entries of a shelf in memory.
use Rattle.std.proofs.Common.{◌≡◌, ◌≢◌, ℕ, zero, suc, ◌+◌, ◌<◌, Bool, true, false, cond, List, [], ◌∷◌, length, ◌++◌, map, take, get_or, slice_set, None, Some, refl, sym, ap, subst, ◌∙◌, arith, true≢false}
use Rattle.std.specs.FinMap.{from_entries, get, get-from_entries}
use Rattle.std.specs.FinMap as map
use Rattle.std.specs.Ordering.{nat_cmp}
use Rattle.std.specs.Str.{bytes_eq}
use Rattle.std.specs.Cmp.Lexicographic.{slice_cmp}
use Rattle.std.proofs.lemmas.Cmp.{nat_list_cmp_total}
use Rattle.std.proofs.lemmas.Map.Text.{is_eq-slice_cmp}
use Rattle.std.proofs.lemmas.Slice.Eq.{bytes_eq-Decides}
use Rattle.pg_checkpoint.specs.Mem.{entry_of, bytes_at, IsPlace, lacks}
use Rattle.pg_checkpoint.specs.declared.mem_shelf.Entry.{Entry}

pub lacks_more : (key : List ℕ) (es : List Entry) (i : ℕ) (e : Entry) → i < length es → e ≡ get_or es i e → e.key.items ≢ key
    → lacks key (take i es) → lacks key (take (i + 1) es)
lacks_more key [] i e within is other so_far = absurd (omega arith)
lacks_more key (x ∷ es) zero e within is other so_far = (subst (λ (y : Entry). y.key.items ≢ key) is other, tt)
lacks_more key (x ∷ es) (suc i) e within is other so_far =
    let rest : lacks key (x ∷ take (i + 1) es) = (so_far.0, lacks_more key es i e (omega arith) is other so_far.1) in
    subst (λ (n : ℕ). lacks key (take n (x ∷ es))) (the_next i) rest
  where
    the_next : (i : ℕ) → suc (i + 1) ≡ suc i + 1
    the_next i = omega arith

pub place_found : (key : List ℕ) (es : List Entry) (i : ℕ) (e : Entry) → i < length es → e ≡ get_or es i e → e.key.items ≡ key
    → lacks key (take i es) → IsPlace key es i
place_found key [] i e within is same so_far = absurd (omega arith)
place_found key (x ∷ es) zero e within is same so_far = subst (λ (y : Entry). y.key.items ≡ key) is same
place_found key (x ∷ es) (suc i) e within is same so_far = (so_far.0, place_found key es i e (omega arith) is same so_far.1)

-- what a map made of the entries has
pub stored_at : (es : List Entry) (key : List ℕ) → get (from_entries {R = slice_cmp nat_cmp} (map entry_of es)) key ≡ bytes_at key es
stored_at es key = get-from_entries nat_list_cmp_total (map entry_of es) key ∙ by es
  where
    by : (es : List Entry) → map.find (slice_cmp nat_cmp) key (map entry_of es) ≡ bytes_at key es
    by [] = refl
    by (e ∷ es) = rw (is_eq-slice_cmp key e.key.items) (ap (cond (bytes_eq key e.key.items) (Some e.bytes.items)) (by es))

-- a test of a key
same_key : (q key : List ℕ) → q ≡ key → bytes_eq q key ≡ true
same_key q key h = (bytes_eq-Decides q key).1 h

other_key : (q key : List ℕ) → q ≢ key → bytes_eq q key ≡ false
other_key q key h = by (bytes_eq q key) refl
  where
    by : (b : Bool) → bytes_eq q key ≡ b → bytes_eq q key ≡ false
    by true is = absurd (h ((bytes_eq-Decides q key).0 is))
    by false is = is

-- the first entry with a key has its bytes
pub at_place : (key : List ℕ) (es : List Entry) (i : ℕ) (e : Entry) → IsPlace key es i → e ≡ get_or es i e → bytes_at key es ≡ Some e.bytes.items
at_place key [] i e place is = absurd place
at_place key (x ∷ es) zero e place is = rw (same_key key x.key.items (sym place)) (ap (λ (y : Entry). Some y.bytes.items) (sym is))
at_place key (x ∷ es) (suc i) e place is = rw (other_key key x.key.items (λ h. place.0 (sym h))) (at_place key es i e place.1 is)

pub at_none : (key : List ℕ) (es : List Entry) → lacks key es → bytes_at key es ≡ None
at_none key [] none = refl
at_none key (x ∷ es) none = rw (other_key key x.key.items (λ h. none.0 (sym h))) (at_none key es none.1)

-- with one more entry
pub pushed : (key : List ℕ) (es : List Entry) (e : Entry) → lacks key es → e.key.items ≡ key → bytes_at key (es ++ e ∷ []) ≡ Some e.bytes.items
pushed key [] e none is = rw (same_key key e.key.items (sym is)) refl
pushed key (x ∷ es) e none is = rw (other_key key x.key.items (λ h. none.0 (sym h))) (pushed key es e none.1 is)

pub pushed_others : (key other : List ℕ) (es : List Entry) (e : Entry) → e.key.items ≡ key → other ≢ key → bytes_at other (es ++ e ∷ []) ≡ bytes_at other es
pushed_others key other [] e is not_it = rw (other_key other e.key.items (λ h. not_it (h ∙ is))) refl
pushed_others key other (x ∷ es) e is not_it = ap (cond (bytes_eq other x.key.items) (Some x.bytes.items)) (pushed_others key other es e is not_it)

-- with other bytes in one
pub set : (key : List ℕ) (es : List Entry) (i : ℕ) (e : Entry) → IsPlace key es i → e.key.items ≡ key → bytes_at key (slice_set es i e) ≡ Some e.bytes.items
set key [] i e place is = absurd place
set key (x ∷ es) zero e place is = rw (same_key key e.key.items (sym is)) refl
set key (x ∷ es) (suc i) e place is = rw (other_key key x.key.items (λ h. place.0 (sym h))) (set key es i e place.1 is)

pub set_others : (key other : List ℕ) (es : List Entry) (i : ℕ) (e : Entry) → IsPlace key es i → e.key.items ≡ key → other ≢ key
    → bytes_at other (slice_set es i e) ≡ bytes_at other es
set_others key other [] i e place is not_it = refl
set_others key other (x ∷ es) zero e place is not_it =
    rw (other_key other e.key.items (λ h. not_it (h ∙ is)), other_key other x.key.items (λ h. not_it (h ∙ place))) refl
set_others key other (x ∷ es) (suc i) e place is not_it = ap (cond (bytes_eq other x.key.items) (Some x.bytes.items)) (set_others key other es i e place.1 is not_it)

pub differs : (q key : List ℕ) → bytes_eq q key ≡ false → q ≢ key
differs q key unlike same = absurd (true≢false (sym (same_key q key same) ∙ unlike))

pub place_key : (key : List ℕ) (es : List Entry) (i : ℕ) (e : Entry) → IsPlace key es i → e ≡ get_or es i e → e.key.items ≡ key
place_key key [] i e place is = absurd place
place_key key (x ∷ es) zero e place is = ap (λ (y : Entry). y.key.items) is ∙ place
place_key key (x ∷ es) (suc i) e place is = place_key key es i e place.1 is
