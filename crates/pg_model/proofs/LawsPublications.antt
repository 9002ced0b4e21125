-- What a reader has seen stays the beginning of what is published.
use Rattle.std.proofs.Common.{[], ◌∷◌, ◌++◌, ap, sym, ◌∙◌, refl}
use Rattle.std.proofs.lemmas.List.{append-nil, append_assoc}
use Rattle.pg_model.specs.Publications.{Publication, Publications, Begins}

module _ {V : Type 0} where
  -- a list begins with itself
  pub Begins-refl : (ps : Publications V) → Begins ps ps
  Begins-refl ps = record { more = []; whole = sym (append-nil ps) }

  -- what begins with a list that begins with another begins with that
  pub Begins-trans : (ps qs rs : Publications V) → Begins ps qs → Begins qs rs → Begins ps rs
  Begins-trans ps qs rs p q = record {
    more = p.more ++ q.more;
    whole = q.whole ∙ (ap (◌++ q.more) p.whole ∙ append_assoc ps p.more q.more);
  }

  -- every list begins with the empty one
  pub Begins-nil : (ps : Publications V) → Begins [] ps
  Begins-nil ps = record { more = ps; whole = refl }

  -- one more publication leaves the beginning
  pub Begins-push : (ps : Publications V) (p : Publication V) → Begins ps (ps ++ p ∷ [])
  Begins-push ps p = record { more = p ∷ []; whole = refl }
