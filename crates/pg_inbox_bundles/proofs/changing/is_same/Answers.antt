use Rattle.std.proofs.Common.{◌≡◌, ℕ, Bool, true, false, not, is_some, List, [], ◌∷◌, Option, None, Some, ap, refl, subst, sym, ◌∙◌, true≢false}
use Rattle.std.specs.Option.{option_copied, option_map}
use Rattle.pg_model.specs.Superstep.{is_empty}
use Rattle.pg_inbox_messages.specs.declared.message_list.Contents.{Contents}
use Rattle.pg_inbox_bundles.specs.Bundles.{entries_in, entries_of}
use Rattle.pg_inbox_bundles.specs.Holding.{HoldsAt}
use Rattle.pg_inbox_bundles.proofs.changing.is_same.Goals as goal

module _ {M : Type 0} (target : ℕ) where
  some_entries : (contents : Contents M) → is_empty contents.envelopes ≡ false → entries_of target contents ≡ [] → ⊥
  some_entries contents some none = by contents.folded contents.envelopes some none
    where
      by : (m : Option M) (envelopes : List (ℕ × M)) → is_empty envelopes ≡ false → entries_of target (record { envelopes = envelopes; folded = m }) ≡ [] → ⊥
      by None [] some none = true≢false some
      by None (l ∷ envelopes) some none = cc
      by (Some m) envelopes some none = cc

  same_as_none : {X : Type 0} (is_value : M → Type 0) (f : X → Contents M) (o : Option X) (is_none : Bool) → is_some o ≡ not is_none
      → HoldsAt is_value (option_map f o)
      → (is_none ≡ true → [] ≡ entries_in target (option_map f o)) × ([] ≡ entries_in target (option_map f o) → is_none ≡ true)
  same_as_none is_value f None true is holds = ((λ h. refl), λ same. refl)
  same_as_none is_value f None false is holds = absurd (true≢false (sym is))
  same_as_none is_value f (Some x) true is holds = absurd (true≢false is)
  same_as_none is_value f (Some x) false is holds = ((λ h. absurd (true≢false (sym h))), λ same. absurd (some_entries (f x) holds.0 (sym same)))

pub is_same_contents-requires-clause-old : goal.is_same_contents-requires-clause-old
is_same_contents-requires-clause-old g c κs within = subst (HoldsAt g.M.Plain.is_value) (ap option_copied c.in-Some.is) c.requires.old

pub is_same_contents-requires-clause-new : goal.is_same_contents-requires-clause-new
is_same_contents-requires-clause-new g c κs within = subst (HoldsAt g.M.Plain.is_value) (ap option_copied c.in-Some-new.is) c.requires.new

pub returns-in-Some-new : goal.returns-in-Some-new
returns-in-Some-new g c target =
    let old = ap (λ o. entries_in target (option_copied o)) c.in-Some.is in
    let new = ap (λ o. entries_in target (option_copied o)) c.in-Some-new.is in
    let stated = c.is_same_contents.ensures target in
    ((λ h. old ∙ stated.0 h ∙ sym new), λ same. stated.1 (sym old ∙ same ∙ new))

pub returns-in-None-new : goal.returns-in-None-new
returns-in-None-new g c target =
    let old = ap (λ o. entries_in target (option_copied o)) c.in-Some.is in
    let new = ap (λ o. entries_in target (option_copied o)) c.in-None-new.is in
    let holds = subst (HoldsAt g.M.Plain.is_value) (ap option_copied c.in-Some.is) c.requires.old in
    ((λ h. absurd (true≢false (sym h))), λ same. absurd (some_entries target c.in-Some.old.now holds.0 (sym old ∙ same ∙ new)))

pub returns-in-None : goal.returns-in-None
returns-in-None g c target =
    let old = ap (λ o. entries_in target (option_copied o)) c.in-None.is in
    let stated = same_as_none target g.M.Plain.is_value (λ p. p.now) c.args.new c.is_none.result c.is_none.ensures c.requires.new in
    ((λ h. old ∙ stated.0 h), λ same. stated.1 (sym old ∙ same))
