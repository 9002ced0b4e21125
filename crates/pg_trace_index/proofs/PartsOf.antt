-- Parts of a list of runs, as it grows.
use Rattle.std.proofs.Common.{◌≡◌, ℕ, ◌+◌, ◌-◌, ◌≤◌, List, [], ◌∷◌, ◌++◌, length, take, drop, Some, refl, sym, ap, ◌∙◌, subst, arith}
use Rattle.std.proofs.lemmas.List.{drop-append-le, length-append, length-drop, map-append, take-append-le, take_all}
use Rattle.pg_trace_index.specs.History.{Adds, IsPart, part_of, steps_of}
use Rattle.pg_trace_index.specs.Listing.{AreParts, parts_of}
use Rattle.pg_trace_index.specs.Occurrences.{last_of}
use Rattle.pg_trace_index.specs.declared.ran.Occurrence.{Occurrence}
use Rattle.pg_trace_index.specs.declared.listing.ListRange.{ListRange}
use Rattle.pg_trace_index.proofs.InPlace.{last_of-push}

-- all of a list from a place on
from : (xs : List Occurrence) (first end : ℕ) → end ≡ length xs → part_of xs first end ≡ steps_of (drop first xs)
from xs first end is = ap steps_of (take_all (end - first) (drop first xs) (let l = length-drop first xs in omega (arith, l, is)))

pub whole : (xs : List Occurrence) (end : ℕ) → end ≡ length xs → part_of xs 0 end ≡ steps_of xs
whole xs end is = from xs 0 end is

pub part_more : (xs ys : List Occurrence) (first end : ℕ) → first ≤ end → end ≤ length xs → part_of (xs ++ ys) first end ≡ part_of xs first end
part_more xs ys first end start within =
    ap (λ l. steps_of (take (end - first) l)) (drop-append-le first xs ys (omega arith))
    ∙ ap steps_of (take-append-le (end - first) (drop first xs) ys (let l = length-drop first xs in omega (arith, l)))

pub part_pushed : (xs : List Occurrence) (r : Occurrence) (first end : ℕ) → first ≤ end → end ≡ length xs
    → part_of (xs ++ r ∷ []) first (end + 1) ≡ part_of xs first end ++ r.superstep ∷ []
part_pushed xs r first end start is =
    from (xs ++ r ∷ []) first (end + 1) (let l = length-append xs (r ∷ []) in omega (arith, l, is))
    ∙ ap steps_of (drop-append-le first xs (r ∷ []) (omega (arith, is)))
    ∙ map-append (λ x. x.superstep) (drop first xs) (r ∷ [])
    ∙ ap (λ l. l ++ r.superstep ∷ []) (sym (from xs first end is))

pub is_pushed : (xs ys : List Occurrence) (r l : Occurrence) (first end : ℕ) → IsPart xs first end l → ys ≡ xs ++ r ∷ [] → end ≡ length xs → IsPart ys first (end + 1) r
is_pushed xs ys r l first end part now is =
    let start = part.start in
    let len = ap length now ∙ length-append xs (r ∷ []) in record {
      start = omega (arith, start);
      within = omega (arith, len, is);
      last = sym (ap (λ zs. last_of (part_of zs first (end + 1))) now ∙ ap last_of (part_pushed xs r first end start is)
          ∙ last_of-push (part_of xs first end) r.superstep);
    }

-- a part that ends where the list did
added : (xs ys : List Occurrence) → drop (length xs) (xs ++ ys) ≡ ys
added [] ys = refl
added (x ∷ xs) ys = added xs ys

pub part_added : (xs ys : List Occurrence) (first end : ℕ) → first ≡ length xs → end ≡ length (xs ++ ys) → part_of (xs ++ ys) first end ≡ steps_of ys
part_added xs ys first end start is = from (xs ++ ys) first end is ∙ ap (λ n. steps_of (drop n (xs ++ ys))) start ∙ ap steps_of (added xs ys)

pub parts_more : (xs ys : List Occurrence) (parts : List (ℕ × ListRange)) → AreParts xs parts
    → AreParts (xs ++ ys) parts × (parts_of (xs ++ ys) parts ≡ parts_of xs parts)
parts_more xs ys [] are = (tt, refl)
parts_more xs ys (p ∷ parts) are =
    let later = parts_more xs ys parts are.1 in
    let one = are.0 in
    let start = one.start in
    let within = one.within in
    let same = part_more xs ys p.1.first p.1.end start within in
    let len = length-append xs ys in
    let still : IsPart (xs ++ ys) p.1.first p.1.end p.1.latest =
    record { start = start; within = omega (arith, within, len); last = one.last ∙ sym (ap last_of same) } in (
      (still, later.0),
      ap (λ steps. (p.0, steps) ∷ parts_of (xs ++ ys) parts) same ∙ ap (λ l. (p.0, part_of xs p.1.first p.1.end) ∷ l) later.1,
    )

pub parts_last : (runs : List Occurrence) (parts : List (ℕ × ListRange)) (p : ℕ × ListRange) → AreParts runs parts → IsPart runs p.1.first p.1.end p.1.latest
    → AreParts runs (parts ++ p ∷ [])
parts_last runs [] p are last = (last, tt)
parts_last runs (q ∷ parts) p are last = (are.0, parts_last runs parts p are.1 last)

-- the runs of a vertex more
module _ (before after : List Occurrence) (parts : List (ℕ × ListRange)) (are : AreParts before parts) (steps : List ℕ) (adds : Adds steps before after)
    (p : ℕ × ListRange) (first : p.1.first ≡ length before) (end : p.1.end ≡ length after) where
  there : part_of after p.1.first p.1.end ≡ steps
  there =
      ap (λ l. part_of l p.1.first p.1.end) adds.is ∙ part_added before adds.more p.1.first p.1.end first (end ∙ ap length adds.is)
      ∙ adds.steps_are

  pub are_added : Some p.1.latest.superstep ≡ last_of steps → AreParts after (parts ++ p ∷ [])
  are_added last =
      let len = ap length adds.is ∙ length-append before adds.more in
      let part : IsPart after p.1.first p.1.end p.1.latest =
      record { start = omega (arith, len, first, end); within = omega (arith, end); last = last ∙ sym (ap last_of there) } in
      parts_last after parts p (subst (λ l. AreParts l parts) (sym adds.is) (parts_more before adds.more parts are).0) part

  pub listed_added : parts_of after (parts ++ p ∷ []) ≡ parts_of before parts ++ (p.0, steps) ∷ []
  listed_added =
      map-append (λ q. (q.0, part_of after q.1.first q.1.end)) parts (p ∷ [])
      ∙ ap (λ l. l ++ (p.0, part_of after p.1.first p.1.end) ∷ []) (ap (λ l. parts_of l parts) adds.is ∙ (parts_more before adds.more parts are).1)
      ∙ ap (λ l. parts_of before parts ++ (p.0, l) ∷ []) there
