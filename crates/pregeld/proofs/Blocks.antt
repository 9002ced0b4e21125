-- Lines of a text that are taken or set aside, one after another.
use Rattle.std.proofs.Common.{◌≡◌, ◌≢◌, ℕ, ◌+◌, ◌-◌, ◌<◌, ◌≤◌, List, [], ◌∷◌, ◌++◌, length, take, drop, Option, None, Some, IfSome, slice_get, refl}
use Rattle.std.proofs.Common.{ap, sym, subst, ◌∙◌, append-nil, append_assoc, true, false, arith}
use Rattle.std.specs.Io.{StopsAt}
use Rattle.std.specs.Io.BufRead.{DropsThrough, drop_through, take_through}
use Rattle.std.specs.Io.KnownBytes.{Consumes}
use Rattle.std.specs.List.{concat}
use Rattle.std.proofs.Math.Seq.{take-add, take-append_seam, drop-append_seam}
use Rattle.std.proofs.lemmas.Grind.{common_steps}
use Rattle.std.proofs.lemmas.List.{drop-drop}
use Rattle.pg_import.specs.Text.{raw_lines}
use Rattle.pregeld.specs.Reading.{AreWholeLines, SkipsLine, SkipsLines, TakesLines, lines_left}
use Rattle.pregeld.specs.declared.block.Block.{Block}
use Rattle.pregeld.specs.declared.block.Block.TheVariants.{Whole, CutShort, NoMemory}
use Rattle.std.proofs.BufReadLemmas.{take_through_nonempty}
use Rattle.pg_import.proofs.TextLines.{raw_lines-through}
use Rattle.pregeld.proofs.FirstLines.{past_feed, past_no_feed}
use Rattle.pregeld.proofs.WholeLines.{concat_raw_lines, raw_lines-append}

same_lines : (text : List ℕ) (lines : List (List ℕ)) → lines_left (Some text) ≡ Some lines → raw_lines text ≡ lines
same_lines text lines e = cc

-- ---- one line that is read

-- the first line of a text that isn't empty, and those after it
pub next_of_read : (known unread : Option (List ℕ)) (lines : List (List ℕ)) (none line : List ℕ) (n : ℕ) → none ≡ [] → lines_left known ≡ Some lines
    → IfSome known (λ text. line ≡ none ++ take_through 10 text) → DropsThrough known unread 10 → length line ≡ n → (n ≡ 0 → ⊥)
    → (rest : List (List ℕ)) × (lines ≡ line ∷ rest) × (lines_left unread ≡ Some rest)
next_of_read None unread lines none line n none_is there read gone size some = absurd cc
next_of_read (Some text) unread lines none line n none_is there onto gone size some =
    let read : line ≡ take_through 10 text = onto ∙ ap (λ t. t ++ take_through 10 text) none_is in
    let longer : 0 < length (take_through 10 text) = subst (λ l. 0 < length l) read (omega (arith, size, some)) in
    let first : raw_lines text ≡ line ∷ raw_lines (drop_through 10 text) = raw_lines-through text (take_through_nonempty 10 text longer)
    ∙ ap (λ l. l ∷ raw_lines (drop_through 10 text)) (sym read) in
    (raw_lines (drop_through 10 text), sym (same_lines text lines there) ∙ first, ap lines_left gone)

-- the same, onto a text
pub take_of_read : (known unread : Option (List ℕ)) (lines : List (List ℕ)) (old new : List ℕ) (n : ℕ) → lines_left known ≡ Some lines
    → IfSome known (λ text. new ≡ old ++ take_through 10 text) → DropsThrough known unread 10 → length new ≡ length old + n → (n ≡ 0 → ⊥)
    → TakesLines 1 Whole lines old new (lines_left unread)
take_of_read None unread lines old new n there read gone size some = absurd cc
take_of_read (Some text) unread lines old new n there read gone size some =
    let front : List ℕ = take_through 10 text in
    let longer : 0 < length front = by_size in
    let first : lines ≡ front ∷ raw_lines (drop_through 10 text) = sym (same_lines text lines there)
    ∙ raw_lines-through text (take_through_nonempty 10 text longer) in
    rw first (omega arith, read ∙ ap (λ t. old ++ t) (sym (append-nil front)), ap lines_left gone)
  where
    sizes : length old + n ≡ length old + length (take_through 10 text)
    sizes = sym size ∙ (ap length read ∙ grind (arith, common_steps))

    by_size : 0 < length (take_through 10 text)
    by_size = omega (arith, sizes, some)

-- ---- whole lines that the reader holds

pub take_of_held : (known unread : Option (List ℕ)) (lines : List (List ℕ)) (old new front : List ℕ) (n : ℕ) → lines_left known ≡ Some lines
    → Consumes known unread front → AreWholeLines n front → new ≡ old ++ front → TakesLines n Whole lines old new (lines_left unread)
take_of_held None unread lines old new front n there gone whole onto = absurd cc
take_of_held (Some text) None lines old new front n there gone whole onto = absurd gone
take_of_held (Some text) (Some rest) lines old new front n there gone whole onto =
    let parted : lines ≡ raw_lines front ++ raw_lines rest = sym (same_lines text lines there) ∙ (ap raw_lines gone ∙ raw_lines-append front rest whole.1) in
    rw (parted, sym whole.0, take-append_seam, drop-append_seam, concat_raw_lines) (grind (arith, common_steps), onto, refl)

-- ---- lines after lines

concat-append : (xs ys : List (List ℕ)) → concat (xs ++ ys) ≡ concat xs ++ concat ys
concat-append [] ys = refl
concat-append (x ∷ xs) ys = ap (λ t. x ++ t) (concat-append xs ys) ∙ sym (append_assoc x (concat xs) (concat ys))

take_later : (n m : ℕ) (lines : List (List ℕ)) → take (n + m) lines ≡ take n lines ++ take m (drop n lines)
take_later n m lines = take-add n m lines

drop_later : (n m : ℕ) (lines : List (List ℕ)) → drop m (drop n lines) ≡ drop (n + m) lines
drop_later n m lines = drop-drop m n lines

pub more_taken : (n m : ℕ) (lines : List (List ℕ)) (old mid new : List ℕ) (unread : Option (List (List ℕ))) → n ≤ length lines → mid
    ≡ old ++ concat (take n lines)
    → TakesLines m Whole (drop n lines) mid new unread → TakesLines (n + m) Whole lines old new unread
more_taken n m lines old mid new unread within mid_is taken =
    let more : n + m ≤ length lines = grind (arith, common_steps, taken.0) in
    let text : new ≡ old ++ concat (take (n + m) lines) =
    taken.1 ∙ (ap (λ t. t ++ concat (take m (drop n lines))) mid_is
    ∙ (append_assoc old (concat (take n lines)) (concat (take m (drop n lines)))
    ∙ ap (λ t. old ++ t) (sym (ap concat (take_later n m lines) ∙ concat-append (take n lines) (take m (drop n lines)))))) in
    (more, text, taken.2 ∙ ap Some (drop_later n m lines))

pub fewer_lines : (n count : ℕ) (lines : List (List ℕ)) (unread : Option (List (List ℕ))) → n < count → length (drop n lines) < 1 → unread ≡ Some []
    → (length lines < count) × (unread ≡ Some [])
fewer_lines n count lines unread more short at_end = (grind (arith, common_steps), at_end)

-- a line without memory, and the lines after it set aside
pub rest_skipped : (block : Block) (n count : ℕ) (lines : List (List ℕ)) (old new : List ℕ) (unread : Option (List (List ℕ))) → n < count
    → 1 ≤ length (drop n lines)
    → SkipsLines (count - n - 1) block (drop 1 (drop n lines)) unread → TakesLines count block lines old new unread
rest_skipped Whole n count lines old new unread more there skipped = absurd skipped
rest_skipped NoMemory n count lines old new unread more there skipped =
    let size : length (drop 1 (drop n lines)) ≡ length lines - n - 1 = grind (arith, common_steps) in
    let some : n < length lines = grind (arith, common_steps) in
    let sum : n + 1 + (count - n - 1) ≡ count = omega (arith, more) in (
      omega (arith, size, some, skipped.0, more),
      skipped.1 ∙ ap Some (ap (drop (count - n - 1)) (drop_later n 1 lines) ∙ (drop_later (n + 1) (count - n - 1) lines ∙ ap (λ k. drop k lines) sum)),
    )
rest_skipped CutShort n count lines old new unread more there skipped =
    let size : length (drop 1 (drop n lines)) ≡ length lines - n - 1 = grind (arith, common_steps) in
    let some : n < length lines = grind (arith, common_steps) in
    (omega (arith, size, some, skipped.0, more), skipped.1)

-- ---- lines that are set aside

pub skips_one : (text : List ℕ) (unread : Option (List ℕ)) → SkipsLine true text unread → (1 ≤ length (raw_lines text))
    × (lines_left unread ≡ Some (drop 1 (raw_lines text)))
skips_one text unread skipped = rw (raw_lines-through text skipped.0) (omega arith, ap lines_left skipped.1)

-- a front that ends a line was the line
pub aside_at_feed : (front rest old new : List ℕ) (unread : Option (List ℕ)) → slice_get front (length front - 1) ≡ Some 10 → StopsAt front 10 → unread ≡ Some rest
    → TakesLines 1 NoMemory (raw_lines (front ++ rest)) old new (lines_left unread)
aside_at_feed [] rest old new unread last stops left_is = absurd cc
aside_at_feed (b ∷ front) rest old new unread last stops left_is =
    rw (raw_lines-through ((b ∷ front) ++ rest) (omega arith)) (omega arith, ap lines_left (left_is ∙ ap Some (sym (past_feed (b ∷ front) rest stops last))))

-- the front of a line was read, and the rest of the line was set aside
pub aside_with_rest : (front rest old new : List ℕ) (unread : Option (List ℕ)) → slice_get front (length front - 1) ≢ Some 10 → StopsAt front 10
    → SkipsLine true rest unread
    → TakesLines 1 NoMemory (raw_lines (front ++ rest)) old new (lines_left unread)
aside_with_rest front rest old new unread other stops skipped =
    let some : 0 < length (front ++ rest) = grind (arith, common_steps, skipped.0) in
    rw (raw_lines-through (front ++ rest) some) (omega arith, ap lines_left (skipped.1 ∙ ap Some (sym (past_no_feed front rest stops other))))

-- the last line was read, which has no line feed
pub aside_at_end : (front rest old new : List ℕ) (unread : Option (List ℕ)) → 0 < length front → slice_get front (length front - 1) ≢ Some 10
    → StopsAt front 10 → SkipsLine false rest unread
    → TakesLines 1 NoMemory (raw_lines (front ++ rest)) old new (lines_left unread)
aside_at_end [] rest old new unread some other stops skipped = absurd (omega (arith, some))
aside_at_end (b ∷ front) rest old new unread some other stops skipped =
    let none : drop_through 10 ((b ∷ front) ++ rest) ≡ [] = past_no_feed (b ∷ front) rest stops other ∙ ap (drop_through 10) skipped.0 in
    rw (raw_lines-through ((b ∷ front) ++ rest) (omega arith)) (omega arith, ap lines_left (skipped.1 ∙ ap Some (sym none)))

-- no line is left
pub none_aside : (front rest old new : List ℕ) (unread : Option (List ℕ)) → front ≡ [] → SkipsLine false rest unread
    → TakesLines 1 CutShort (raw_lines (front ++ rest)) old new (lines_left unread)
none_aside front rest old new unread none skipped = rw (none, skipped.0) (omega arith, ap lines_left skipped.1)

-- ---- the lines of a reader, one after another

known_lines : (known : Option (List ℕ)) (lines : List (List ℕ)) → lines_left known ≡ Some lines → (text : List ℕ) × (known ≡ Some text)
    × (raw_lines text ≡ lines)
known_lines None lines there = absurd cc
known_lines (Some text) lines there = (text, refl, same_lines text lines there)

-- one more line was set aside
pub one_more_skipped : (n : ℕ) (lines : List (List ℕ)) (known unread : Option (List ℕ)) → n ≤ length lines → lines_left known ≡ Some (drop n lines)
    → ((text : List ℕ) → known ≡ Some text → SkipsLine true text unread) → (n + 1 ≤ length lines) × (lines_left unread ≡ Some (drop (n + 1) lines))
one_more_skipped n lines known unread within there skips =
    let at = known_lines known (drop n lines) there in
    let skipped : (1 ≤ length (drop n lines)) × (lines_left unread ≡ Some (drop 1 (drop n lines))) = subst (λ ls. (1 ≤ length ls)
    × (lines_left unread ≡ Some (drop 1 ls))) at.2 (skips_one at.0 unread (skips at.0 at.1)) in
    (grind (arith, common_steps, skipped.0), skipped.1 ∙ ap Some (drop_later n 1 lines))

pub cut_while_skipping : (n count : ℕ) (lines : List (List ℕ)) (known unread : Option (List ℕ)) → n < count → lines_left known ≡ Some (drop n lines)
    → ((text : List ℕ) → known ≡ Some text → SkipsLine false text unread) → (length lines < count) × (lines_left unread ≡ Some [])
cut_while_skipping n count lines known unread more there skips =
    let at = known_lines known (drop n lines) there in
    let skipped : SkipsLine false at.0 unread = skips at.0 at.1 in
    let none : drop n lines ≡ [] = sym at.2 ∙ ap raw_lines skipped.0 in
    let size : length (drop n lines) < 1 = subst (λ ls. length ls < 1) (sym none) (omega arith) in
    fewer_lines n count lines (lines_left unread) more size (ap lines_left skipped.1)
