-- What calls make of a shelf in memory.
use Rattle.std.proofs.Common.{◌≡◌, ◌≢◌, ℕ, true, false, List, length, map, Option, None, Some, Result, Ok, Err, refl, sym, ap, subst, ◌∙◌, arith}
use Rattle.std.specs.FinMap.{from_entries, get}
use Rattle.std.specs.Ordering.{nat_cmp}
use Rattle.std.specs.Cmp.Lexicographic.{slice_cmp}
use Rattle.std.proofs.lemmas.List.{take_all}
use Rattle.pg_checkpoint.specs.Mem.{entry_of, mem_state, bytes_at}
use Rattle.pg_checkpoint.specs.Shelf.{ShelfState, Fades, IsPut, IsGot, at_key, is_device}
use Rattle.pg_checkpoint.specs.declared.mem_shelf.Entry.{Entry}
use Rattle.pg_checkpoint.specs.declared.mem_shelf.MemShelf.{MemShelf}
use Rattle.pg_checkpoint.specs.declared.shelf.ShelfFault.{ShelfFault}
use Rattle.pg_checkpoint.specs.declared.shelf.ShelfFault.TheVariants.{Memory}
use Rattle.pg_checkpoint.proofs.Entries.{stored_at}

stays : (o : Option (List ℕ)) → Fades o o
stays None = tt
stays (Some bytes) = (length bytes, sym (take_all (length bytes) bytes (omega arith)))

fades_to : (before after : Option (List ℕ)) → after ≡ before → Fades before after
fades_to before after is = subst (λ (o : Option (List ℕ)). Fades before o) (sym is) (stays before)

abbrev state_of : List Entry → ShelfState
state_of es = record { stored = from_entries (map entry_of es); is_honest = true; failures = 0 }

pub no_put : (key bytes : List ℕ) (s t : MemShelf) (r : Result (Unit {0}) ShelfFault) → r ≡ Err Memory → t.entries.items ≡ s.entries.items
    → IsPut key bytes (mem_state s) r (mem_state t)
no_put key bytes s t (Ok x) is same = absurd cc
no_put key bytes s t (Err e) is same =
    subst (λ (r : Result (Unit {0}) ShelfFault). IsPut key bytes (mem_state s) r (mem_state t)) (sym is) (record {
      counted = record { honest = refl; failures = refl };
      kept = λ _. tt;
      others = λ _ other _. fades_to (at_key (mem_state s) other) (at_key (mem_state t) other)
          (ap (λ (es : List Entry). get (from_entries {R = slice_cmp nat_cmp} (map entry_of es)) other) same);
    })

pub has_put : (key bytes : List ℕ) (s t : MemShelf) → bytes_at key t.entries.items ≡ Some bytes
    → ((other : List ℕ) → other ≢ key → bytes_at other t.entries.items ≡ bytes_at other s.entries.items)
    → IsPut {X = Unit {0}} key bytes (mem_state s) (Ok tt) (mem_state t)
has_put key bytes s t kept others = record {
  counted = record { honest = refl; failures = refl };
  kept = λ _. fades_to (Some bytes) (at_key (mem_state t) key) (stored_at t.entries.items key ∙ kept);
  others = λ _ other not_it. fades_to (at_key (mem_state s) other) (at_key (mem_state t) other)
      (stored_at t.entries.items other ∙ others other not_it ∙ sym (stored_at s.entries.items other));
}

pub has_got : {X : Type 0} (s : MemShelf) (r : Result X ShelfFault) → is_device r ≡ false → IsGot (mem_state s) r (mem_state s)
has_got s r stated = record {
  counted = record { honest = refl; failures = rw stated refl };
  fades = λ _ key. stays (at_key (mem_state s) key);
}

pub is_memory : {X : Type 0} (r : Result X ShelfFault) → r ≡ Err Memory → is_device r ≡ false
is_memory r is = ap is_device is

pub same_state : (s t : MemShelf) → t.entries.items ≡ s.entries.items → mem_state t ≡ mem_state s
same_state s t same = ap (λ (es : List Entry). state_of es) same

-- of any shelf: nothing was put, for want of memory
pub not_put : (key bytes : List ℕ) (s : ShelfState) (r : Result (Unit {0}) ShelfFault) → r ≡ Err Memory → IsPut key bytes s r s
not_put key bytes s r is =
    subst (λ (r : Result (Unit {0}) ShelfFault). IsPut key bytes s r s) (sym is) (record {
      counted = record { honest = refl; failures = refl };
      kept = λ _. tt;
      others = λ _ other _. stays (at_key s other);
    })

-- nor was anything got
pub not_got : {X : Type 0} (s : ShelfState) (r : Result X ShelfFault) → r ≡ Err Memory → IsGot s r s
not_got {X} s r is =
    subst (λ (r : Result X ShelfFault). IsGot s r s) (sym is) (record {
      counted = record { honest = refl; failures = refl };
      fades = λ _ key. stays (at_key s key);
    })

-- the same put, told of an equal key and equal bytes
pub put_as : (key bytes : List ℕ) {other others : List ℕ} {s t : ShelfState} {r : Result (Unit {0}) ShelfFault} → IsPut other others s r t
    → other ≡ key → others ≡ bytes → IsPut key bytes s r t
put_as key bytes {other} {others} {s} {t} {r} h k b =
    subst (λ (l : List ℕ). IsPut key l s r t) b (subst (λ (l : List ℕ). IsPut l others s r t) k h)
