use Rattle.std.proofs.Common.{◌-◌, subst, sym, ap, arith, length, Some}
use Rattle.std.proofs.lemmas.List.{length-drop}
use Rattle.std.specs.Option.{option_map}
use Rattle.pg_program.specs.Coding.{IsRead}
use Rattle.pg_program.proofs.InTurn.{IsBehind, goes_on, ends, is_done, read_at, decoded_at, read_decoded, no_list, list_decoded}
use Rattle.pg_program.proofs.coded.SequenceCoded.decode.Goals as goal

pub loop-remaining-preserved : goal.loop-remaining-preserved
loop-remaining-preserved g c =
    let item : IsRead g.T.Plain.is_value g.T.Coded.coding c.loop-remaining.rest.now (Some (c.in-Some-2.item, c.behind-rest.result.now)) =
    read_at (read_decoded _ (decoded_at c.in_ok-item.ensures c.in-Some-2.is)) (ap (λ l. Some (c.in-Some-2.item, l)) (sym c.behind-rest.ensures)) in
    record {
      shorter = omega (arith, c.loop-remaining.invariant.shorter, ap length c.behind-rest.ensures, length-drop c.in-Some-2.len c.loop-remaining.rest.now);
      so_far = subst (λ l. IsBehind g.T.Plain.is_value g.T.Coded.coding c.in-Some.count c.in-Some.bodies.now l
          (c.loop-remaining.remaining - 1) c.behind-rest.result.now) (sym c.in_ok-push-in-Some-2.ensures.ok)
          (goes_on g.T.Plain.is_value g.T.Coded.coding c.in-Some.count c.in-Some.bodies.now c.loop-remaining.items c.loop-remaining.remaining
          c.loop-remaining.rest.now c.in-Some-2.item c.behind-rest.result.now c.loop-remaining-test.true item c.loop-remaining.invariant.so_far);
    }

pub returns-in-None : goal.returns-in-None
returns-in-None g c =
    no_list g.T.Plain.is_value g.T.Coded.coding c.args.bytes.now c.in-Some.count c.in-Some.bodies.now
    (read_at c.word_at.ensures (ap (option_map (λ x. (x.0, x.1.now))) c.in-Some.is))
    (ends g.T.Plain.is_value g.T.Coded.coding c.in-Some.count c.in-Some.bodies.now c.loop-remaining.items c.loop-remaining.remaining
    c.loop-remaining.rest.now c.loop-remaining-test.true (read_decoded _ (decoded_at c.in_ok-item.ensures c.in-None.is)) c.loop-remaining.invariant.so_far)

pub returns : goal.returns
returns g c =
    list_decoded g.T.Plain.is_value g.T.Coded.coding c.args.bytes.now c.in-Some.count c.in-Some.bodies.now
    c.loop-remaining.items c.loop-remaining.rest.now (read_at c.word_at.ensures (ap (option_map (λ x. (x.0, x.1.now))) c.in-Some.is))
    (is_done g.T.Plain.is_value g.T.Coded.coding c.in-Some.count c.in-Some.bodies.now c.loop-remaining.items c.loop-remaining.remaining
    c.loop-remaining.rest.now c.loop-remaining-test.false c.loop-remaining.invariant.so_far)
