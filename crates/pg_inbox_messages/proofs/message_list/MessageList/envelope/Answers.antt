use Rattle.std.proofs.Common.{◌≡◌, ℕ, ◌<◌, zero, suc, List, [], ◌∷◌, length, get_or, ap, arith, refl, subst, sym, ◌∙◌}
use Rattle.pg_inbox_messages.specs.Repr.{contents_in}
use Rattle.pg_inbox_messages.proofs.message_list.MessageList.envelope.Goals as goal

only : {X : Type 0} (x : X) (place : ℕ) {l : List X} → l ≡ x ∷ [] → place < length l → x ≡ get_or l place x
only {X} x place is within =
    subst (λ l. x ≡ get_or l place x) (sym is) (one place (subst (λ l. place < length l) is within))
  where
    one : (place : ℕ) → place < 1 → x ≡ get_or (x ∷ []) place x
    one zero within = refl
    one (suc place) within = absurd (omega arith)

pub returns-in-Single : goal.returns-in-Single
returns-in-Single g c =
    only c.in-Single.envelope c.args.place (ap (λ p. p.envelopes) (sym c.self.view_is ∙ ap contents_in c.in-Single.is)) c.requires

pub returns-in-Combined : goal.returns-in-Combined
returns-in-Combined g c =
    only c.in-Combined.envelope c.args.place (ap (λ p. p.envelopes) (sym c.self.view_is ∙ ap contents_in c.in-Combined.is)) c.requires

pub bounds-as_slice-place : goal.bounds-as_slice-place
bounds-as_slice-place g c =
    let is = c.deref.ensures ∙ sym (sym c.self.view_is ∙ ap contents_in c.in-Many.is) in
    subst (λ l. c.args.place < length l) (sym (c.as_slice.ensures ∙ ap (λ p. p.envelopes) is)) c.requires

pub returns-in-Many : goal.returns-in-Many
returns-in-Many g c =
    let envelope = c.index-as_slice-place.result in
    let is = c.deref.ensures ∙ sym (sym c.self.view_is ∙ ap contents_in c.in-Many.is) in
    c.index-as_slice-place.is ∙ ap (λ l. get_or l c.args.place envelope) (c.as_slice.ensures ∙ ap (λ p. p.envelopes) is)
