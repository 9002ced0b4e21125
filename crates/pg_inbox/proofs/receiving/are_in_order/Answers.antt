use Rattle.std.proofs.Common.{◌≡◌, ◌+◌, ◌-◌, ◌<◌, ◌≤◌, drop, arith, subst}
use Rattle.pg_model.proofs.LawsByNumber.{IsUp}
use Rattle.pg_inbox_bundles.proofs.Senders.{up_in_order, up_short, up_step}
use Rattle.pg_inbox.proofs.receiving.are_in_order.Goals as goal

pub loop-place-preserved : goal.loop-place-preserved
loop-place-preserved g c =
    let envelopes = c.args.message_list.now.envelopes in
    let place = c.loop-place.place in
    let from = c.loop-place.invariant.from in
    let within = subst (λ n. place < n) c.len-place-end.ensures c.loop-place-test.true in
    let le : c.envelope-in-loop-place.result.now.0 ≤ c.envelope.result.now.0 = grind (arith, c.lt.ensures, c.if-lt.false) in
    let next : place - 1 + 1 ≡ place = omega (arith, from) in
    let same : place + 1 - 1 ≡ place = omega arith in
    record {
      from = omega arith;
      up = λ later. c.loop-place.invariant.up
          (up_step envelopes (place - 1) place next within c.envelope-in-loop-place.ensures c.envelope.ensures le
          (subst (λ n. IsUp (λ x. x.0) (drop n envelopes)) same later));
    }

pub returns : goal.returns
returns g c =
    let envelopes = c.args.message_list.now.envelopes in
    let place = c.loop-place.place in
    let all = subst (λ n. n ≤ place) c.len-place-end.ensures c.loop-place-test.false in
    λ _. up_in_order envelopes (c.loop-place.invariant.up (up_short envelopes (place - 1) (omega (arith, all, c.loop-place.invariant.from))))
