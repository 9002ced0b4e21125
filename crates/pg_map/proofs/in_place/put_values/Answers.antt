use Rattle.std.proofs.Common.{◌+◌, ◌<◌, drop, length, ap, sym, ◌∙◌, arith}
use Rattle.std.proofs.lemmas.List.{drop-set-lt}
use Rattle.pg_map.proofs.InPlace.{gives_some, next_there, put_over, put_turn}
use Rattle.pg_map.proofs.in_place.put_values.Goals as goal
use Rattle.pg_map.proofs.in_place.put_values.Goals.{in-Some, in_default}

pub put_value-requires-clause-there : goal.put_value-requires-clause-there
put_value-requires-clause-there g c =
    let now = c.loop-id in
    let within : now.id-index < length now.id-items = omega (arith, c.loop-id-test.true, now.auto.id-items) in
    (next_there now.id-items now.entries now.id-index c.loop-id-item.result within now.invariant.there).0.1

pub loop-id-preserved : goal.loop-id-preserved
loop-id-preserved g c =
    let now = c.loop-id in
    let i = now.id-index in
    let d = c.loop-id-item.result in
    let within : i < length now.id-items = omega (arith, c.loop-id-test.true, now.auto.id-items) in
    elim c.match-take.branch [
      | in-Some w ↦
          let remaining = ap (drop (i + 1)) w.id-items-is ∙ drop-set-lt (i + 1) now.id-items i _ (omega arith) in
          let done = put_turn now.id-items now.entries i d within now.invariant.there c.match-take.id-items c.match-take.entries _ w.in-Some.value remaining
          (sym c.take.ensures.value ∙ w.in-Some.is) (w.entries-is ∙ w.put_value.ensures) now.invariant.made now.invariant.rise in
          record { made = done.0; there = done.1; rise = done.2 }
      | in_default w ↦
          absurd (gives_some now.id-items now.entries i d within now.invariant.there (sym c.take.ensures.value ∙ w.in_default.is))
    ]

pub returns : goal.returns
returns g c =
    let now = c.loop-id in
    put_over now.id-items c.args.changes.now now.entries c.args.entries.now now.id-index (omega (arith, c.loop-id-test.false, now.auto.id-items))
    now.invariant.made
