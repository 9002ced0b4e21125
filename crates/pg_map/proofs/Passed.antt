-- Parts that are passed over, since no change falls into them.
use Rattle.std.proofs.Common.{◌≡◌, ℕ, zero, suc, ◌+◌, sum_by, ◌<◌, ◌≤◌, inl, inr, List, [], ◌∷◌, ◌++◌, length, get_or, take, drop, Option, refl, sym, ap, ap₂, ◌∙◌, subst, arith}
use Rattle.std.specs.List.{AllByRecursion, flat_map}
use Rattle.std.proofs.lemmas.Grind.{flat_map-append}
use Rattle.std.proofs.lemmas.List.{length-append, take-append-drop}
use Rattle.pg_map.specs.Chunks.{AreChunks, AreGroups, AreParts, ArePast, chunks_in, grouped}
use Rattle.pg_map.specs.Entries.{ChangesRise, HasRisingIds, with_changes}
use Rattle.pg_map.specs.declared.part.Node.{Node}
use Rattle.pg_map.proofs.Cut.{all_front, all_later}
use Rattle.pg_map.proofs.InParts.{below_part, counted_all, firsts_rise}
use Rattle.pg_map.proofs.Parts.{Below, changes-right, from_first, from_weaker, rises_right}

module _ {X T : Type 0} (listed : Node T → List (ℕ × X)) where
  below_higher : (a b : ℕ) (es : List (ℕ × X)) → a ≤ b → Below a es → Below b es
  below_higher a b [] h all = tt
  below_higher a b (e ∷ es) h all = (omega (arith, all.0, h), below_higher a b es h all.1)

  below_both : (m : ℕ) (a b : List (ℕ × X)) → Below m a → Below m b → Below m (a ++ b)
  below_both m [] b h g = g
  below_both m (e ∷ a) b h g = (h.0, below_both m a b h.1 g)

  -- all entries before a part are below its first id
  below_nth : (parts : List (Node T)) (n : ℕ) (d : Node T) → AreParts listed parts → HasRisingIds (flat_map listed parts) → n < length parts
      → Below (get_or parts n d).first (flat_map listed (take n parts))
  below_nth [] n d are rise within = absurd (omega (arith, within))
  below_nth (c ∷ parts) zero d are rise within = tt
  below_nth (c ∷ []) (suc n) d are rise within = absurd (omega (arith, within))
  below_nth (c ∷ b ∷ parts) (suc n) d are rise within =
      let later = rises_right (listed c) (flat_map listed (b ∷ parts)) rise in
      below_both (get_or (b ∷ parts) n d).first (listed c) (flat_map listed (take n (b ∷ parts)))
      (below_higher b.first (get_or (b ∷ parts) n d).first (listed c)
      (firsts_rise listed (b ∷ parts) are.1 later 0 n d (omega arith) (omega (arith, within)))
      (below_part listed c b parts are rise))
      (below_nth (b ∷ parts) n d are.1 later (omega (arith, within)))

  module _ (all : List (Node T)) (n : ℕ) (are : AreParts listed all) (rise : HasRisingIds (flat_map listed all)) where
    passed_whole : flat_map listed all ≡ flat_map listed (take n all) ++ flat_map listed (drop n all)
    passed_whole = ap (flat_map listed) (sym (take-append-drop n all)) ∙ flat_map-append listed (take n all) (drop n all)

    passed_are : AreParts listed (drop n all)
    passed_are =
        all_later _ (take n all) (drop n all) (subst (AreParts listed) (sym (take-append-drop n all)) are)

    passed_rise : HasRisingIds (flat_map listed (drop n all))
    passed_rise = rises_right (flat_map listed (take n all)) (flat_map listed (drop n all)) (subst HasRisingIds passed_whole rise)

    passed_made : (changes : List (ℕ × Option X)) → ChangesRise changes → ArePast n all changes
        → flat_map listed (take n all) ++ with_changes changes (flat_map listed (drop n all)) ≡ with_changes changes (flat_map listed all)
    passed_made changes changes_rise past = by changes changes_rise past ∙ sym (ap (with_changes changes) passed_whole)
      where
        front : List (ℕ × X)
        front = flat_map listed (take n all)

        others : List (ℕ × X)
        others = flat_map listed (drop n all)

        nothing : (n : ℕ) → n ≡ 0 → flat_map listed (take n all) ≡ []
        nothing n none = ap (λ k. flat_map listed (take k all)) none

        some : (all : List (Node T)) → n < length all → Node T
        some [] within = absurd (omega (arith, within))
        some (p ∷ parts) within = p

        by : (changes : List (ℕ × Option X)) → ChangesRise changes → ArePast n all changes
            → front ++ with_changes changes others ≡ with_changes changes (front ++ others)
        by [] rises past = refl
        by (c ∷ cs) rises (inl none) =
            ap (λ l. l ++ with_changes (c ∷ cs) others) (nothing n none)
            ∙ sym (ap (λ l. with_changes (c ∷ cs) (l ++ others)) (nothing n none))
        by (c ∷ cs) rises (inr past) =
            let d = some all past.0 in
            let m = (get_or all n d).first in
            sym (changes-right m (c ∷ cs) front others (below_nth all n d are rise past.0)
            (from_weaker m c.0 (c ∷ cs) (past.1 d) (from_first c cs rises)))

    module _ (front others : List (Node T)) (front_is : front ≡ take n all) (others_is : others ≡ drop n all) where
      -- changes of the others are changes of all
      pub passed_over : (changes : List (ℕ × Option X)) → ChangesRise changes → ArePast n all changes → (new : List (Node T))
          → flat_map listed new ≡ with_changes changes (flat_map listed others) → flat_map listed (front ++ new) ≡ with_changes changes (flat_map listed all)
      passed_over changes changes_rise past new made =
          flat_map-append listed front new
          ∙ (ap₂ ◌++◌ (ap (flat_map listed) front_is) (made ∙ ap (λ l. with_changes changes (flat_map listed l)) others_is)
          ∙ passed_made changes changes_rise past)

      pub passed_counted : (entries : ℕ) → entries ≡ sum_by (λ p. p.count) front → (new : List (Node T))
          → length (flat_map listed (front ++ new)) ≡ entries + length (flat_map listed new)
      passed_counted entries is new =
          let are_front = subst (AreParts listed) (sym front_is) (all_front _ (take n all) (drop n all) (subst (AreParts listed) (sym (take-append-drop n all)) are)) in
          omega (
            arith,
            is,
            counted_all listed front are_front,
            ap length (flat_map-append listed front new),
            length-append (flat_map listed front) (flat_map listed new),
          )

      pub others_stand : AreParts listed others
      others_stand = subst (AreParts listed) (sym others_is) passed_are

      pub others_rise_on : HasRisingIds (flat_map listed others)
      others_rise_on = subst (λ l. HasRisingIds (flat_map listed l)) (sym others_is) passed_rise

-- groups behind those that are passed over
pub passed_groups : {X : Type 0} (all others : List (Node (Node (ℕ × X)))) (n : ℕ) → others ≡ drop n all → AreGroups all → AreGroups others
passed_groups all others n is are = (
  subst (AreParts grouped) (sym is) (all_later _ (take n all) (drop n all) (subst (AreParts grouped) (sym (take-append-drop n all)) are.0)),
  subst (AllByRecursion (λ g. AreChunks (chunks_in g))) (sym is)
      (all_later _ (take n all) (drop n all) (subst (AllByRecursion (λ g. AreChunks (chunks_in g))) (sym (take-append-drop n all)) are.1)),
)
