-- What waits for the targets of messages that were undeliverable.
use Rattle.std.proofs.Common.{◌≡◌, ℕ, zero, suc, Bool, true, false, List, [], ◌∷◌, map, Option, None, Some, refl, sym, ap, ◌∙◌, subst}
use Rattle.std.specs.List.{AllByRecursion, slice_get}
use Rattle.pg_model.specs.Job.{Combining}
use Rattle.pg_model.specs.Superstep.{ids, is_active, delivered}
use Rattle.pg_model.specs.declared.configuration.VertexWithInbox.{VertexWithInbox}
use Rattle.pg_scratch.specs.Undeliverable.{blank}
use Rattle.pg_scratch.specs.Inbox.{with_messages}
use Rattle.pg_scratch.specs.Worklist.{ListsActive}

module _ (M : Type 0) where
  ids_of_blanks : (is : List ℕ) → ids (map (blank {M = M}) is) ≡ is
  ids_of_blanks [] = refl
  ids_of_blanks (id ∷ is) = ap (λ l. id ∷ l) (ids_of_blanks is)

  nothing_received : (is : List ℕ) → AllByRecursion (λ (x : VertexWithInbox Bool M). x.inbox ≡ []) (map (blank {M = M}) is)
  nothing_received [] = tt
  nothing_received (id ∷ is) = (refl, nothing_received is)

  nobody_active : (is : List ℕ) (i : ℕ) (x : VertexWithInbox Bool M) → slice_get (map (blank {M = M}) is) i ≡ Some x → is_active x ≡ false
  nobody_active [] i x at = let k : None ≡ Some x = at in cc
  nobody_active (id ∷ is) zero x at = let same : blank {M = M} id ≡ x = (let k : Some (blank {M = M} id) ≡ Some x = at in cc) in sym (ap is_active same)
  nobody_active (id ∷ is) (suc i) x at = nobody_active is i x at

  received : (combining : Option (Combining M)) (sent : List (ℕ × M)) (is : List ℕ)
      → map {B = ℕ × List M} (λ x. (x.state.id, x.inbox))
      (with_messages combining sent (map (blank {M = M}) is)) ≡ map {B = ℕ × List M}
      (λ id. (id, delivered combining id sent)) is
  received combining sent [] = refl
  received combining sent (id ∷ is) = ap (λ l. (id, delivered combining id sent) ∷ l) (received combining sent is)

module _ {M : Type 0} where
  module _ (blanks : List (VertexWithInbox Bool M)) (is : List ℕ) where
    pub blank_ids : blanks ≡ map blank is → is ≡ ids blanks
    blank_ids are = sym (ap (λ (l : List (VertexWithInbox Bool M)). ids l) are ∙ ids_of_blanks M is)

    pub blank_empty : blanks ≡ map blank is → AllByRecursion (λ (x : VertexWithInbox Bool M). x.inbox ≡ []) blanks
    blank_empty are = subst (λ (l : List (VertexWithInbox Bool M)). AllByRecursion (λ (x : VertexWithInbox Bool M). x.inbox ≡ []) l) (sym are) (nothing_received M is)

    pub blank_idle : (places : List ℕ) → blanks ≡ map blank is → places ≡ [] → ListsActive blanks places
    blank_idle places are none =
        subst (λ l. ListsActive blanks l) (sym none) (subst (λ (l : List (VertexWithInbox Bool M)). ListsActive l []) (sym are) (record {
          within = λ place h. let k : false ≡ true = h in cc;
          covers = λ place x at active. let k : false ≡ true = sym (nobody_active M is place x at) ∙ active in cc;
        }))

  pub blank_inboxes : (combining : Option (Combining M)) (sent : List (ℕ × M)) (is wanted : List ℕ)
      (blanks after : List (VertexWithInbox Bool M)) (inboxes : List (ℕ × List M)) → blanks ≡ map blank is → is ≡ wanted
      → after ≡ with_messages combining sent blanks
      → inboxes ≡ map {B = ℕ × List M} (λ x. (x.state.id, x.inbox)) after
      → inboxes ≡ map {B = ℕ × List M} (λ id. (id, delivered combining id sent)) wanted
  blank_inboxes combining sent is wanted blanks after inboxes are same delivers lists =
      lists
      ∙ (ap (map {B = ℕ × List M} (λ (x : VertexWithInbox Bool M). (x.state.id, x.inbox))) (delivers ∙ ap (with_messages combining sent) are)
      ∙ (received M combining sent is ∙ ap (map {B = ℕ × List M} (λ id. (id, delivered combining id sent))) same))
