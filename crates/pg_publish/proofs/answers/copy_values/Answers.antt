use Rattle.std.proofs.Common.{◌≡◌, ℕ, ◌+◌, ◌<◌, List, [], ◌∷◌, ◌++◌, length, get_or, take, ap, ap₂, sym, ◌∙◌}
use Rattle.std.proofs.lemmas.List.{take_all, take_more}
use Rattle.pg_publish.proofs.answers.copy_values.Goals as goal

copied_more : {V : Type 0} (values : List (ℕ × V)) (i : ℕ) {entry : ℕ × V} {value : V} {before after : List (ℕ × V)} → i < length values
    → entry ≡ get_or values i entry → before ≡ take i values → value ≡ entry.1 → after ≡ before ++ (entry.0, value) ∷ [] → after ≡ take (i + 1) values
copied_more values i {entry} within is so_far same pushed =
    pushed ∙ ap₂ (λ l v. l ++ (entry.0, v) ∷ []) so_far same
    ∙ ap (λ e. take i values ++ e ∷ []) is
    ∙ sym (take_more values i entry within)

pub loop-entry-preserved : goal.loop-entry-preserved
loop-entry-preserved g c =
    copied_more c.args.values.now c.loop-entry.entry-index c.loop-entry-test.true c.entry-item.is c.loop-entry.invariant c.in_ok-value.ensures
    c.in_ok-push.ensures.items

pub returns : goal.returns
returns g c = c.from_vec.ensures ∙ c.loop-entry.invariant ∙ take_all c.loop-entry.entry-index c.args.values.now c.loop-entry-test.false
