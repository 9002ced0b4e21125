-- Vertices that messages make, merged with those that have a state.
use Rattle.std.proofs.Common.{◌≡◌, ℕ, ◌<◌, true, false, cond, ltb, ◌==◌, List, [], ◌∷◌, ◌++◌, length, map, refl, sym, ap, ◌∙◌, subst, arith}
use Rattle.std.specs.List.{AllByRecursion}
use Rattle.std.specs.List.Sorted.{IsStrictlySortedBy}
use Rattle.std.specs.Ordering.{nat_cmp}
use Rattle.std.specs.declared.cmp.Ordering.TheVariants.{Less}
use Rattle.std.proofs.lemmas.Bool.{ltb-true, or_parts}
use Rattle.std.proofs.lemmas.Bool.Decides.{nat_tests}
use Rattle.std.proofs.lemmas.List.{append_assoc}
use Rattle.pg_model.proofs.LawsLists.{all_weaker}
use Rattle.pg_model.specs.InOrder.{AreWaiting}
use Rattle.pg_model.specs.Job.{Program}
use Rattle.pg_model.proofs.LawsMade.{with_made-rise}
use Rattle.pg_model.specs.Superstep.{ids, has_id, placed, made, with_made}
use Rattle.pg_model.specs.declared.configuration.VertexWithInbox.{VertexWithInbox}
use Rattle.pg_scratch.specs.VertexTable.{IsInPlace, Takes, first_is_below}
use Rattle.pg_scratch.specs.Worklist.{ListsActive}
use Rattle.pg_scratch.specs.declared.vertex_table.VertexTable.{VertexTable}

-- where the first waits below, there is a first one
pub first_of : {M : Type 0} (id : ℕ) (ws : List (ℕ × List M)) → first_is_below id ws ≡ true
    → (w : ℕ × List M) × (rest : List (ℕ × List M)) × (ws ≡ w ∷ rest) × (w.0 < id)
first_of id [] h = let k : false ≡ true = h in cc
first_of id (w ∷ ws) h = (w, ws, refl, ltb-true w.0 id h)

lt_from_Less : (a b : ℕ) → nat_cmp a b ≡ Less → a < b
lt_from_Less a b e = grind (arith, nat_tests)

above_unlike : (a b : ℕ) → ltb a b ≡ false → (b == a) ≡ false → b < a
above_unlike a b h k = grind (arith, nat_tests)

module _ {V M : Type 0} (program : Program V M) (id : ℕ) where
  all_below : (taken : List (ℕ × List M)) (w : ℕ × List M) → AllByRecursion (λ (v : ℕ × List M). v.0 < id) taken
      → w.0 < id → AllByRecursion (λ (v : ℕ × List M). v.0 < id) (taken ++ w ∷ [])
  all_below [] w h k = (k, tt)
  all_below (v ∷ taken) w h k = (h.0, all_below taken w h.1 k)

  made_push : (taken : List (ℕ × List M)) (w : ℕ × List M) → map (made program) (taken ++ w ∷ []) ≡ map (made program) taken ++ made program w ∷ []
  made_push [] w = refl
  made_push (v ∷ taken) w = ap (λ l. made program v ∷ l) (made_push taken w)

  -- the first one is taken too
  pub takes_more : (ws now after : List (ℕ × List M)) (xs ys zs : List (VertexWithInbox V M)) → Takes program id ws now xs ys
      → first_is_below id now ≡ true
      → ((w : ℕ × List M) (rest : List (ℕ × List M)) → now ≡ w ∷ rest
      → (after ≡ rest) × (zs ≡ ys ++ made program w ∷ [])) → Takes program id ws after xs zs
  takes_more ws now after xs ys zs takes below step =
      let f = first_of id now below in
      let s = step f.0 f.1 f.2 in
      record {
        taken = takes.taken ++ f.0 ∷ [];
        split = takes.split ∙ (ap (λ l. takes.taken ++ l) (f.2 ∙ ap (λ l. f.0 ∷ l) (sym s.0)) ∙ sym (append_assoc takes.taken (f.0 ∷ []) after));
        below = all_below takes.taken f.0 takes.below f.3;
        added =
            s.1 ∙ (ap (λ l. l ++ made program f.0 ∷ []) takes.added ∙ (append_assoc xs (map (made program) takes.taken) (made program f.0 ∷ [])
            ∙ ap (λ l. xs ++ l) (sym (made_push takes.taken f.0))));
      }

  pub fewer_left : (now after : List (ℕ × List M)) (ys zs : List (VertexWithInbox V M)) → first_is_below id now ≡ true
      → ((w : ℕ × List M) (rest : List (ℕ × List M)) → now ≡ w ∷ rest
      → (after ≡ rest) × (zs ≡ ys ++ made program w ∷ [])) → length after < length now
  fewer_left now after ys zs below step =
      let f = first_of id now below in
      let s = step f.0 f.1 f.2 in
      omega (arith, ap length s.0, ap length f.2)

-- ---- one turn of the merge
module _ {V M : Type 0} (program : Program V M) where
  not_less : (a b : ℕ) → a < b → ltb b a ≡ false
  not_less a b h = grind (arith, nat_tests)

  is_less : (a b : ℕ) → a < b → ltb a b ≡ true
  is_less a b h = grind (arith, nat_tests)

  -- a vertex below all that wait stays in front
  front_stays : (x : VertexWithInbox V M) (xs : List (VertexWithInbox V M)) (ws : List (ℕ × List M))
      → AllByRecursion (λ (w : ℕ × List M). x.state.id < w.0) ws → with_made program (x ∷ xs) ws ≡ x ∷ with_made program xs ws
  front_stays x xs [] h = refl
  front_stays x xs (w ∷ ws) h =
      ap (λ b. with_made program (cond b (made program w ∷ x ∷ xs) (x ∷ placed (made program w) xs)) ws) (not_less x.state.id w.0 h.0)
      ∙ front_stays x (placed (made program w) xs) ws h.1

  above_first : (a : ℕ) (ws : List (ℕ × List M))
      → AllByRecursion (λ id. nat_cmp a id ≡ Less) (map (λ (w : ℕ × List M). w.0) ws)
      → AllByRecursion (λ (w : ℕ × List M). a < w.0) ws
  above_first a [] h = tt
  above_first a (w ∷ ws) h = (lt_from_Less a w.0 h.0, above_first a ws h.1)

  -- those that were taken come before it
  taken_first : (x : VertexWithInbox V M) (xs : List (VertexWithInbox V M)) (taken rest : List (ℕ × List M))
      → AllByRecursion (λ (w : ℕ × List M). w.0 < x.state.id) taken
      → IsStrictlySortedBy nat_cmp (map (λ (w : ℕ × List M). w.0) (taken ++ rest))
      → with_made program (x ∷ xs) (taken ++ rest) ≡ map (made program) taken ++ with_made program (x ∷ xs) rest
  unfolding IsStrictlySortedBy
  taken_first x xs [] rest below rise = refl
  taken_first x xs (w ∷ taken) rest below rise =
      ap (λ b. with_made program (cond b (made program w ∷ x ∷ xs) (x ∷ placed (made program w) xs)) (taken ++ rest)) (is_less w.0 x.state.id below.0)
      ∙ (front_stays (made program w) (x ∷ xs) (taken ++ rest) (above_first w.0 (taken ++ rest) rise.0)
      ∙ ap (λ l. made program w ∷ l) (taken_first x xs taken rest below.1 rise.1))

  -- where nobody has a state, all are made
  all_made : (ws : List (ℕ × List M)) → IsStrictlySortedBy nat_cmp (map (λ (w : ℕ × List M). w.0) ws) → with_made program [] ws ≡ map (made program) ws
  unfolding IsStrictlySortedBy
  all_made [] rise = refl
  all_made (w ∷ ws) rise =
      front_stays (made program w) [] ws (above_first w.0 ws rise.0) ∙ ap (λ l. made program w ∷ l) (all_made ws rise.1)

  -- what is left to be merged: these vertices, and those that wait
  pub record MergedTo (whole : List (VertexWithInbox V M)) (left : List (VertexWithInbox V M)) (waiting : List (ℕ × List M)) (merged : List (VertexWithInbox V M)) : Type 0 where
    pub total : merged ++ with_made program left waiting ≡ whole
    pub rise : IsStrictlySortedBy nat_cmp (map (λ w. w.0) waiting)
    pub apart : AllByRecursion (λ w. has_id (ids left) w.0 ≡ false) waiting

  pub merged_none : (xs : List (VertexWithInbox V M)) (ws : List (ℕ × List M)) (left merged : List (VertexWithInbox V M))
      (waiting : List (ℕ × List M)) → AreWaiting (ids xs) ws → left ≡ xs → waiting ≡ ws → merged ≡ []
      → MergedTo (with_made program xs ws) left waiting merged
  merged_none xs ws left merged waiting waits same_left same_waiting none =
      subst (λ l. MergedTo (with_made program xs ws) l waiting merged) (sym same_left)
      (subst (λ l. MergedTo (with_made program xs ws) xs l merged) (sym same_waiting)
      (subst (λ l. MergedTo (with_made program xs ws) xs ws l) (sym none) (record { total = refl; rise = waits.rise; apart = waits.apart })))

  rest_rises : (taken rest : List (ℕ × List M))
      → IsStrictlySortedBy nat_cmp (map (λ (w : ℕ × List M). w.0) (taken ++ rest))
      → IsStrictlySortedBy nat_cmp (map (λ (w : ℕ × List M). w.0) rest)
  unfolding IsStrictlySortedBy
  rest_rises [] rest rise = rise
  rest_rises (w ∷ taken) rest rise = rest_rises taken rest rise.1

  rest_apart : (P : ℕ × List M → Type 0) (taken rest : List (ℕ × List M)) → AllByRecursion P (taken ++ rest) → AllByRecursion P rest
  rest_apart P [] rest h = h
  rest_apart P (w ∷ taken) rest h = rest_apart P taken rest h.1

  apart_later : (x : VertexWithInbox V M) (xs : List (VertexWithInbox V M)) (ws : List (ℕ × List M))
      → AllByRecursion (λ (w : ℕ × List M). has_id (ids (x ∷ xs)) w.0 ≡ false) ws
      → AllByRecursion (λ (w : ℕ × List M). has_id (ids xs) w.0 ≡ false) ws
  apart_later x xs [] h = tt
  apart_later x xs (w ∷ ws) h = ((or_parts (x.state.id == w.0) (has_id (ids xs) w.0) h.0).1, apart_later x xs ws h.1)

  above_rest : (x : VertexWithInbox V M) (xs : List (VertexWithInbox V M)) (ws : List (ℕ × List M))
      → first_is_below x.state.id ws ≡ false → IsStrictlySortedBy nat_cmp (map (λ (w : ℕ × List M). w.0) ws)
      → AllByRecursion (λ (w : ℕ × List M). has_id (ids (x ∷ xs)) w.0 ≡ false) ws
      → AllByRecursion (λ (w : ℕ × List M). x.state.id < w.0) ws
  unfolding IsStrictlySortedBy
  above_rest x xs [] first rise apart = tt
  above_rest x xs (w ∷ ws) first rise apart =
      let unlike = (or_parts (x.state.id == w.0) (has_id (ids xs) w.0) apart.0).0 in
      let less : x.state.id < w.0 = above_unlike w.0 x.state.id first unlike in
      (less, all_weaker (λ (v : ℕ × List M). w.0 < v.0) (λ (v : ℕ × List M). x.state.id < v.0) (λ v l. omega (arith, l, less)) ws (above_first w.0 ws rise.0))

  pub merged_more : (whole : List (VertexWithInbox V M)) (x : VertexWithInbox V M) (left now : List (VertexWithInbox V M))
      (waiting after : List (ℕ × List M)) (merged pushed merged' : List (VertexWithInbox V M))
      → MergedTo whole now waiting merged → now ≡ x ∷ left → Takes program x.state.id waiting after merged pushed
      → first_is_below x.state.id after ≡ false → merged' ≡ pushed ++ x ∷ [] → MergedTo whole left after merged'
  merged_more whole x left now waiting after merged pushed merged' so_far is takes first push =
      let P : List (ℕ × List M) → Type 0 = λ l. IsStrictlySortedBy nat_cmp (map (λ (w : ℕ × List M). w.0) l) in
      let rise = subst P takes.split so_far.rise in
      let Q : List (VertexWithInbox V M) → List (ℕ × List M) → Type 0 = λ xs l. AllByRecursion (λ (w : ℕ × List M). has_id (ids xs) w.0 ≡ false) l in
      let apart : Q (x ∷ left) (takes.taken ++ after) = subst (Q (x ∷ left)) takes.split (subst (λ xs. Q xs waiting) is so_far.apart) in
      let rise_after = rest_rises takes.taken after rise in
      let apart_after = rest_apart (λ (w : ℕ × List M). has_id (ids (x ∷ left)) w.0 ≡ false) takes.taken after apart in
      let turned : with_made program now waiting ≡ map (made program) takes.taken ++ x ∷ with_made program left after =
      (λ i. with_made program (is i) (takes.split i))
      ∙ (taken_first x left takes.taken after takes.below rise
      ∙ ap (λ l. map (made program) takes.taken ++ l) (front_stays x left after (above_rest x left after first rise_after apart_after))) in
      record {
        total =
            ap (λ l. l ++ with_made program left after) (push ∙ ap (λ l. l ++ x ∷ []) takes.added)
            ∙ (append_assoc (merged ++ map (made program) takes.taken) (x ∷ []) (with_made program left after)
            ∙ (append_assoc merged (map (made program) takes.taken) (x ∷ with_made program left after)
            ∙ (ap (λ l. merged ++ l) (sym turned) ∙ so_far.total)));
        rise = rise_after;
        apart = apart_later x left after apart_after;
      }

  nil_of : (xs : List (VertexWithInbox V M)) → length xs ≡ 0 → xs ≡ []
  nil_of [] e = refl
  nil_of (x ∷ xs) e = absurd (omega (arith, e))

  pub merged_all : (whole : List (VertexWithInbox V M)) (left : List (VertexWithInbox V M)) (waiting : List (ℕ × List M))
      (merged merged' : List (VertexWithInbox V M)) → MergedTo whole left waiting merged → length left ≡ 0
      → merged' ≡ merged ++ map (made program) waiting → merged' ≡ whole
  merged_all whole left waiting merged merged' so_far empty added =
      let none : left ≡ [] = nil_of left empty in
      added ∙ (ap (λ l. merged ++ l) (sym (all_made waiting so_far.rise) ∙ ap (λ xs. with_made program xs waiting) (sym none)) ∙ so_far.total)

  -- the vertices with those that wait are in place
  pub made_in_place : (vertex_table after : VertexTable V M) (waiting ws : List (ℕ × List M)) (seen seen' : List (VertexWithInbox V M))
      → IsInPlace vertex_table → AreWaiting (ids vertex_table.with_inboxes.items) waiting → ws ≡ waiting
      → after.with_inboxes.items ≡ with_made program vertex_table.with_inboxes.items ws → after.ids ≡ ids seen
      → seen ≡ after.with_inboxes.items → ListsActive seen' after.work.items → seen' ≡ after.with_inboxes.items
      → IsStrictlySortedBy nat_cmp after.work.items → IsInPlace after
  made_in_place vertex_table after waiting ws seen seen' place waits same are ids_are seen_is lists seen_is' rises =
      let now = are ∙ ap (with_made program vertex_table.with_inboxes.items) same in
      let ids_now = ids_are ∙ ap (λ (l : List (VertexWithInbox V M)). ids l) seen_is in
      let rise : IsStrictlySortedBy nat_cmp (ids (with_made program vertex_table.with_inboxes.items waiting)) =
      with_made-rise program vertex_table.with_inboxes.items waiting (subst (IsStrictlySortedBy nat_cmp) place.ids_are place.ids_rise) waits.rise waits.apart in
      record {
        ids_are = ids_now;
        ids_rise = subst (IsStrictlySortedBy nat_cmp) (sym (ids_now ∙ ap (λ (l : List (VertexWithInbox V M)). ids l) now)) rise;
        lists = subst (λ (l : List (VertexWithInbox V M)). ListsActive l after.work.items) seen_is' lists;
        in_order = rises;
      }
