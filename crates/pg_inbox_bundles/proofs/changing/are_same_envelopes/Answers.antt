use Rattle.std.proofs.Common.{[], ◌∷◌, ◌++◌, ◌≤◌, ◌<◌, length, ap, ap₂, refl, rules, subst, sym, ◌∙◌}
use Rattle.std.proofs.lemmas.List.{take_all}
use Rattle.pg_map.proofs.Filling.{joined_more}
use Rattle.pg_inbox_bundles.proofs.changing.are_same_envelopes.Goals as goal

pub returns-then-len : goal.returns-then-len
returns-then-len g c = (
  (λ h. absurd (search (rules, h))),
  λ same. absurd (c.if-len.true (c.len.ensures ∙ ap length same ∙ sym c.len-2.ensures)),
)

pub envelope-requires-after_bounds : goal.envelope-requires-after_bounds
envelope-requires-after_bounds g c κs within = subst (λ n. c.loop-place.place < n) c.len-place-end.ensures c.loop-place-test.true

pub envelope-requires-in-loop-place-after_bounds : goal.envelope-requires-in-loop-place-after_bounds
envelope-requires-in-loop-place-after_bounds g c κs within =
    subst (λ n. c.loop-place.place < n) (c.len-place-end.ensures ∙ c.loop-place.invariant.lengths) c.loop-place-test.true

pub loop-place-preserved : goal.loop-place-preserved
loop-place-preserved g c =
    let i = c.loop-place.place in
    let old = c.args.old.now.envelopes in
    let new = c.args.new.now.envelopes in
    let within = subst (λ n. i < n) c.len-place-end.ensures c.loop-place-test.true in
    record {
      so_far = sym (joined_more (λ l. l) (λ xs ys. refl) old i within c.envelope.ensures refl refl)
          ∙ ap₂ (λ l x. l ++ x ∷ []) c.loop-place.invariant.so_far (c.if-not-is_same_envelope.ensures.0 refl)
          ∙ joined_more (λ l. l) (λ xs ys. refl) new i (subst (λ n. i < n) c.loop-place.invariant.lengths within) c.envelope-in-loop-place.ensures refl refl;
      lengths = c.loop-place.invariant.lengths;
    }

pub returns : goal.returns
returns g c =
    let i = c.loop-place.place in
    let old = c.args.old.now.envelopes in
    let new = c.args.new.now.envelopes in
    let over = subst (λ n. n ≤ i) c.len-place-end.ensures c.loop-place-test.false in (
      (λ same. sym (take_all i old over) ∙ c.loop-place.invariant.so_far ∙ take_all i new (subst (λ n. n ≤ i) c.loop-place.invariant.lengths over)),
      λ same. refl,
    )
