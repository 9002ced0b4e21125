use Rattle.std.proofs.Common.{◌≡◌, ◌∙◌, ap, arith, sym}
use Rattle.pg_checkpoint.proofs.PartRunState.{is_rising, not_rising, rises_on}
use Rattle.pg_checkpoint.proofs.bounds.rise.Goals as goal

pub returns-then-number-clause-no : goal.returns-then-number-clause-no
returns-then-number-clause-no g c = λ _ rise.
    let e = c.index-entries-place.result in
    let before = c.index-entries-place-in-loop-place.result in
    let high : c.number.result ≡ e.0 = c.number.ensures.value ∙ sym (ap (λ x. x.0) c.index-entries-place.is) in
    let low : c.number-in-loop-place.result ≡ before.0 = c.number-in-loop-place.ensures.value ∙ sym (ap (λ x. x.0) c.index-entries-place-in-loop-place.is) in
    not_rising c.args.entries.now c.loop-place.place e before c.loop-place-test.true c.loop-place.auto.place c.index-entries-place.is
    c.index-entries-place-in-loop-place.is (omega (arith, high, low, c.if-number.true)) rise

pub loop-place-preserved : goal.loop-place-preserved
loop-place-preserved g c =
    let e = c.index-entries-place.result in
    let before = c.index-entries-place-in-loop-place.result in
    let high : c.number.result ≡ e.0 = c.number.ensures.value ∙ sym (ap (λ x. x.0) c.index-entries-place.is) in
    let low : c.number-in-loop-place.result ≡ before.0 = c.number-in-loop-place.ensures.value ∙ sym (ap (λ x. x.0) c.index-entries-place-in-loop-place.is) in
    rises_on c.args.entries.now c.loop-place.place e before c.loop-place-test.true c.loop-place.auto.place c.index-entries-place.is
    c.index-entries-place-in-loop-place.is (omega (arith, high, low, c.if-number.false)) c.loop-place.invariant

pub returns-clause-yes : goal.returns-clause-yes
returns-clause-yes g c = λ _. is_rising c.args.entries.now c.loop-place.place c.loop-place-test.false c.loop-place.invariant
