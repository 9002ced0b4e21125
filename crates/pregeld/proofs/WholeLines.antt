-- Texts that are whole lines, each with its line feed.
use Rattle.std.proofs.Common.{◌≡◌, ℕ, ◌+◌, ◌<◌, true, List, [], ◌∷◌, ◌++◌, length, refl, ap, ◌∙◌, arith, inl, inr}
use Rattle.std.proofs.Common.{◌≤◌, ◌-◌, zero, suc, take, get_or, sym, le_refl, take_all, eqb-true, get_or-take, subst}
use Rattle.std.specs.Io.{IsEmptyOrEndsWith}
use Rattle.std.specs.List.{concat, count_by, onto_first}
use Rattle.std.proofs.lemmas.Bool.{cases_Bool}
use Rattle.std.proofs.lemmas.Bool.Decides.{nat_tests}
use Rattle.std.proofs.lemmas.Grind.{common_steps}
use Rattle.std.proofs.lemmas.List.Sums.{count_by_more_no, count_by_more_yes}
use Rattle.memchr.specs.Find.{places_between, places_from}
use Rattle.pg_import.specs.Text.{raw_lines}
use Rattle.pg_import.proofs.TextLines.{is_line_feed, raw_lines-some}

length-onto_first : (b : ℕ) (lines : List (List ℕ)) → 0 < length lines → length (onto_first b lines) ≡ length lines
length-onto_first b [] some = absurd (omega arith)
length-onto_first b (line ∷ lines) some = refl

onto_first-append : (b : ℕ) (lines more : List (List ℕ)) → 0 < length lines → onto_first b (lines ++ more) ≡ onto_first b lines ++ more
onto_first-append b [] more some = absurd (omega arith)
onto_first-append b (line ∷ lines) more some = refl

concat-onto_first : (b : ℕ) (lines : List (List ℕ)) → concat (onto_first b lines) ≡ b ∷ concat lines
concat-onto_first b [] = refl
concat-onto_first b (line ∷ lines) = refl

-- the lines of a text are the text
pub concat_raw_lines : (text : List ℕ) → concat (raw_lines text) ≡ text
concat_raw_lines [] = refl
concat_raw_lines (b ∷ rest) = elim (cases_Bool (is_line_feed b)) [
  | inl ends ↦ rw ends (ap (λ t. b ∷ t) (concat_raw_lines rest))
  | inr other ↦ rw other (concat-onto_first b (raw_lines rest) ∙ ap (λ t. b ∷ t) (concat_raw_lines rest))
]

ends_later : (b c : ℕ) (rest : List ℕ) → IsEmptyOrEndsWith (b ∷ c ∷ rest) 10 → IsEmptyOrEndsWith (c ∷ rest) 10
ends_later b c rest ends some = grind (arith, common_steps, ends (omega arith))

only_feed : (b : ℕ) → IsEmptyOrEndsWith (b ∷ []) 10 → is_line_feed b ≡ true
only_feed b ends = let last = ends (omega arith) in grind (arith, nat_tests, common_steps)

count-first : (b : ℕ) (rest : List ℕ) (n : ℕ) → is_line_feed b ≡ true → n ≡ count_by is_line_feed rest → n + 1 ≡ count_by is_line_feed (b ∷ rest)
count-first b rest n feed same = grind (arith, common_steps)

-- the lines of whole lines are as many as their line feeds
pub length-whole_lines : (text : List ℕ) → IsEmptyOrEndsWith text 10 → length (raw_lines text) ≡ count_by is_line_feed text
length-whole_lines [] ends = refl
length-whole_lines (b ∷ []) ends = rw (only_feed b ends) refl
length-whole_lines (b ∷ c ∷ rest) ends =
    let later = length-whole_lines (c ∷ rest) (ends_later b c rest ends) in
    elim (cases_Bool (is_line_feed b)) [
      | inl feed ↦
          let one_more : length (raw_lines (b ∷ c ∷ rest)) ≡ length (raw_lines (c ∷ rest)) + 1 = rw feed (omega arith) in
          one_more ∙ count-first b (c ∷ rest) (length (raw_lines (c ∷ rest))) feed later
      | inr other ↦ rw other (length-onto_first b (raw_lines (c ∷ rest)) (raw_lines-some (c ∷ rest) (omega arith)) ∙ later)
    ]

-- after whole lines the lines of a text go on
pub raw_lines-append : (front rest : List ℕ) → IsEmptyOrEndsWith front 10 → raw_lines (front ++ rest) ≡ raw_lines front ++ raw_lines rest
raw_lines-append [] rest ends = refl
raw_lines-append (b ∷ []) rest ends = rw (only_feed b ends) refl
raw_lines-append (b ∷ c ∷ front) rest ends =
    let later : raw_lines (c ∷ front ++ rest) ≡ raw_lines (c ∷ front) ++ raw_lines rest = raw_lines-append (c ∷ front) rest (ends_later b c front ends) in
    elim (cases_Bool (is_line_feed b)) [
      | inl feed ↦ rw feed (ap (λ lines. (b ∷ []) ∷ lines) later)
      | inr other ↦ rw other (ap (onto_first b) later ∙ onto_first-append b (raw_lines (c ∷ front)) (raw_lines rest) (raw_lines-some (c ∷ front) (omega arith)))
    ]

-- ---- the line feeds that are left

-- a line feed at x is the next one after the first i bytes of a text, and those after it are left
pub record IsNextFeed (text : List ℕ) (i end x : ℕ) (unread : List ℕ) : Type 0 where
  pub within : x < end
  pub feed : is_line_feed (get_or text x 0) ≡ true
  pub count : count_by is_line_feed (take (x + 1) text) ≡ count_by is_line_feed (take i text) + 1
  pub after : unread ≡ places_between is_line_feed text (x + 1) end

next_feed : (text : List ℕ) (n i x : ℕ) (unread : List ℕ) → i + n ≤ length text → places_from is_line_feed text i n ≡ x ∷ unread → IsNextFeed text i (i + n) x unread
unfolding places_from
next_feed text zero i x unread fits found = absurd cc
next_feed text (suc n) i x unread fits found = elim (cases_Bool (is_line_feed (get_or text i 0))) [
  | inl feed ↦
      let here : i ∷ places_from is_line_feed text (i + 1) n ≡ x ∷ unread = rw feed at found in
      let first : i ≡ x = cc in
      let rest : unread ≡ places_from is_line_feed text (i + 1) n = cc in
      let size : n ≡ i + suc n - (i + 1) = omega arith in
      subst (λ k. IsNextFeed text i (i + suc n) k unread) first (record {
        within = omega arith;
        feed = feed;
        count = count_by_more_yes is_line_feed text i 0 (omega (arith, fits)) feed;
        after = rest ∙ ap (places_from is_line_feed text (i + 1)) size;
      })
  | inr other ↦
      let later : places_from is_line_feed text (i + 1) n ≡ x ∷ unread = rw other at found in
      let end : i + 1 + n ≡ i + suc n = omega arith in
      let next : IsNextFeed text (i + 1) (i + suc n) x unread =
      subst (λ k. IsNextFeed text (i + 1) k x unread) end (next_feed text n (i + 1) x unread (omega (arith, fits)) later) in
      record {
        within = next.within;
        feed = next.feed;
        count = next.count ∙ ap (λ k. k + 1) (count_by_more_no is_line_feed text i 0 (omega (arith, fits)) other);
        after = next.after;
      }
]

no_feed : (text : List ℕ) (n i : ℕ) → i + n ≤ length text → places_from is_line_feed text i n ≡ []
    → count_by is_line_feed (take (i + n) text) ≡ count_by is_line_feed (take i text)
unfolding places_from
no_feed text zero i fits none = ap (λ k. count_by is_line_feed (take k text)) (omega arith)
no_feed text (suc n) i fits none = elim (cases_Bool (is_line_feed (get_or text i 0))) [
  | inl feed ↦
      let here : i ∷ places_from is_line_feed text (i + 1) n ≡ [] = rw feed at none in
      absurd cc
  | inr other ↦
      let later : places_from is_line_feed text (i + 1) n ≡ [] = rw other at none in
      let end : i + suc n ≡ i + 1 + n = omega arith in
      ap (λ k. count_by is_line_feed (take k text)) end
      ∙ (no_feed text n (i + 1) (omega (arith, fits)) later ∙ count_by_more_no is_line_feed text i 0 (omega (arith, fits)) other)
]

to_end : (text : List ℕ) (i : ℕ) → i ≤ length text → i + (length text - i) ≡ length text
to_end text i within = omega (arith, within)

-- the next of the line feeds that are left
pub next_left : (text feeds unread : List ℕ) (i x : ℕ) → i ≤ length text → feeds ≡ places_between is_line_feed text i (length text) → feeds ≡ x ∷ unread
    → IsNextFeed text i (length text) x unread
next_left text feeds unread i x within are found =
    subst (λ k. IsNextFeed text i k x unread) (to_end text i within)
    (next_feed text (length text - i) i x unread (omega (arith, within)) (sym are ∙ found))

-- where none is left, the front has all
pub none_left : (text feeds : List ℕ) (i : ℕ) → i ≤ length text → feeds ≡ places_between is_line_feed text i (length text) → feeds ≡ []
    → count_by is_line_feed text ≡ count_by is_line_feed (take i text)
none_left text feeds i within are none =
    sym (ap (count_by is_line_feed) (take_all (length text) text (le_refl (length text))))
    ∙ (ap (λ k. count_by is_line_feed (take k text)) (sym (to_end text i within))
    ∙ no_feed text (length text - i) i (omega (arith, within)) (sym are ∙ none))

-- a front up to a line feed ends with it
pub ends_at_feed : (text : List ℕ) (x : ℕ) → x < length text → is_line_feed (get_or text x 0) ≡ true → IsEmptyOrEndsWith (take (x + 1) text) 10
ends_at_feed text x within feed some =
    let size : length (take (x + 1) text) - 1 ≡ x = grind (arith, common_steps) in
    rw size (get_or-take (x + 1) text x 0 (omega arith) ∙ eqb-true (get_or text x 0) 10 feed)
