-- Each step of a seat keeps the rule that all seats name the history that is shown.
use Rattle.std.proofs.Common.{◌≡◌, ℕ, ◌≢◌, List, [], ◌∷◌, ◌++◌, slice_set, refl, sym, subst, ⊎_elim}
use Rattle.std.proofs.lemmas.Bool.{true≢false}
use mathlib.Core.Option.{some}
use lib.ListN.{get_elem?}
use Rattle.left_right.specs.Register.{Admits, TurnsAt, Forks, Merges}
use Rattle.atomic_table.proofs.Lists.{at_set, at_snoc}
use Rattle.logbook.specs.Pages.{Book}
use Rattle.pg_publish.specs.History.{Beginning}
use Rattle.pg_publish.specs.Views.{AllName, Finds, NamesNoOther, nameless, naming}
use Rattle.pg_publish.specs.declared.shown.KnownPrefix.{KnownPrefix}

nameless_names : (publisher : Book) → NamesNoOther publisher nameless
nameless_names publisher named = absurd (true≢false (sym named))

set_names : (publisher : Book) (knowns : List KnownPrefix) (seat : ℕ) (known : KnownPrefix) → AllName publisher knowns → NamesNoOther publisher known
    → AllName publisher (slice_set knowns seat known)
set_names publisher knowns seat known all it j u at =
    ⊎_elim (λ (t : (j ≡ seat) × (known ≡ u)). subst (NamesNoOther publisher) t.1 it)
    (λ (t : (j ≢ seat) × (get_elem? knowns j ≡ some u)). all j u t.1) (at_set knowns seat j known u at)

snoc_names : (publisher : Book) (knowns : List KnownPrefix) (known : KnownPrefix) → AllName publisher knowns → NamesNoOther publisher known
    → AllName publisher (knowns ++ known ∷ [])
snoc_names publisher knowns known all it j u at =
    ⊎_elim (all j u) (λ (same : known ≡ u). subst (NamesNoOther publisher) same it) (at_snoc knowns known u j at)

module _ {E : Type 0} where
  abbrev rule : Beginning E → List KnownPrefix → Type 0
  rule shown knowns = AllName shown.publisher knowns

  -- a new seat knows nothing
  pub admits : Admits rule nameless
  admits shown knowns all = snoc_names shown.publisher knowns nameless all (nameless_names shown.publisher)

  -- whoever steps, and whatever of this history is shown next, finds out which history it is
  pub finds : (seat : ℕ) (known : KnownPrefix) (x y : Beginning E) → y.publisher ≡ x.publisher
      → TurnsAt rule seat known x y (λ before found shown after. Finds before shown.publisher after)
  finds seat known x y same knowns all at =
      let all' : AllName y.publisher knowns = subst (λ p. AllName p knowns) (sym same) all in
      (naming y.publisher, set_names y.publisher knowns seat (naming y.publisher) all' (λ named. refl), (all' seat known at, refl))

  -- what is known may be told
  pub forks : (seat : ℕ) (known : KnownPrefix) → Forks rule seat known known known
  forks seat known shown knowns all at =
      snoc_names shown.publisher (slice_set knowns seat known) known (set_names shown.publisher knowns seat known all (all seat known at)) (all seat known at)

  -- and learned
  pub merges : (seat : ℕ) (known : KnownPrefix) (other : ℕ) (told : KnownPrefix) → Merges rule seat known other told told nameless
  merges seat known other told shown knowns all at apart there =
      let names : NamesNoOther shown.publisher told =
      ⊎_elim (λ (t : (other ≡ seat) × (told ≡ told)). absurd (apart t.0)) (λ (t : (other ≢ seat) × (get_elem? knowns other ≡ some told)). all other told t.1)
      (at_set knowns seat other told told there) in
      set_names shown.publisher (slice_set knowns seat told) other nameless (set_names shown.publisher knowns seat told all names)
      (nameless_names shown.publisher)
