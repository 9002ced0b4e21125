-- Which vertices two graphs don't share.
use Rattle.std.proofs.Common.{◌≡◌, ℕ, ◌==◌, ◌&&◌, ◌||◌, cond, not, Bool, true, false, List, [], ◌∷◌, filter, refl, ap, sym, ◌∙◌, is_some, true≢false}
use Rattle.std.specs.List.Sorted.{IsStrictlySortedBy}
use Rattle.std.specs.Ordering.{nat_cmp}
use Rattle.std.proofs.lemmas.Bool.{eqb-true}
use Rattle.std.proofs.lemmas.List.Kept.{IsStrictlySortedBy-filter}
use Rattle.pg_part.specs.PartRun.{AreTouched}
use Rattle.pg_graph.specs.Rows.{Rows}
use Rattle.pg_model.specs.Superstep.{has_id}
use Rattle.pg_part.specs.MemberChanges.{member_changes_among, moves}
use Rattle.pg_stats.specs.MessageCounts.{AreMemberChanges, is_vertex}

-- an id is among those that a test picks where it is among all and passes
has_id-filter : (test : ℕ → Bool) (ids : List ℕ) (id : ℕ) → has_id (filter test ids) id ≡ (has_id ids id && test id)
has_id-filter test [] id = refl
has_id-filter test (i ∷ ids) id = by (test i) refl (i == id) refl (has_id-filter test ids id)
  where
    rest : Bool
    rest = has_id (filter test ids) id

    never : (b : Bool) → (b && false) ≡ false
    never true = refl
    never false = refl

    by : (u : Bool) → test i ≡ u → (t : Bool) → (i == id) ≡ t → rest ≡ (has_id ids id && test id)
        → has_id (cond u (i ∷ filter test ids) (filter test ids)) id ≡ ((t || has_id ids id) && test id)
    by true h true e k = ap (λ (b : Bool). b || rest) e ∙ sym (ap test (sym (eqb-true i id e)) ∙ h)
    by true h false e k = ap (λ (b : Bool). b || rest) e ∙ k
    by false h true e k =
        let fails : test id ≡ false = ap test (sym (eqb-true i id e)) ∙ h in
        k ∙ (ap (λ (b : Bool). has_id ids id && b) fails ∙ (never (has_id ids id) ∙ sym fails))
    by false h false e k = k

both : (a b : Bool) → (a && b) ≡ true → b ≡ true
both true b h = h
both false b h = absurd (true≢false (sym h))

one_of : (a b : Bool) → not (cond a b (not b)) ≡ true → b ≡ not a
one_of true true h = absurd (true≢false (sym h))
one_of true false h = refl
one_of false true h = refl
one_of false false h = absurd (true≢false (sym h))

alike : (a b : Bool) → not (cond a b (not b)) ≡ false → b ≡ a
alike true true h = refl
alike true false h = absurd (true≢false h)
alike false true h = absurd (true≢false h)
alike false false h = refl

-- those of the touched ids, rising
pub member_changes_are : (before after : Rows) (touched ids : List ℕ) → IsStrictlySortedBy nat_cmp ids → ((id : ℕ) → has_id ids id ≡ has_id touched id)
    → AreTouched touched before after → AreMemberChanges (member_changes_among before after ids) before after
member_changes_are before after touched ids rise same untouched = record {
  rise = IsStrictlySortedBy-filter nat_cmp (moves before after) ids rise;
  member_changes = λ id among. one_of (is_vertex before id) (is_vertex after id)
      (both (has_id ids id) (moves before after id) (sym (has_id-filter (moves before after) ids id) ∙ among));
  others = λ id other. by id (has_id ids id) refl (sym (has_id-filter (moves before after) ids id) ∙ other);
}
  where
    by : (id : ℕ) (b : Bool) → has_id ids id ≡ b → (has_id ids id && moves before after id) ≡ false → is_vertex after id ≡ is_vertex before id
    by id true e h =
        alike (is_vertex before id) (is_vertex after id) (sym (ap (λ (b : Bool). b && moves before after id) e) ∙ h)
    by id false e h = ap is_some (sym (untouched id (sym (same id) ∙ e)))
