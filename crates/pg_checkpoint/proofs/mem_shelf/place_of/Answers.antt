use Rattle.std.proofs.Common.{sym, ap, ◌∙◌}
use Rattle.std.specs.Str.{bytes_eq}
use Rattle.std.proofs.lemmas.Slice.Eq.{bytes_eq-Decides}
use Rattle.pg_checkpoint.proofs.Entries.{differs, lacks_more, place_found}
use Rattle.pg_checkpoint.proofs.mem_shelf.place_of.Goals as goal

pub returns-then-eq-clause-found : goal.returns-then-eq-clause-found
returns-then-eq-clause-found c =
    let same = (bytes_eq-Decides c.as_slice.result.now c.args.key.now).0 (sym c.if-eq.ensures) in (
      c.loop-place-test.true,
      place_found c.args.key.now c.args.entries.now c.loop-place.place c.index-entries-place.result c.loop-place-test.true
          c.index-entries-place.is (sym c.as_slice.ensures.value ∙ same) c.loop-place.invariant,
    )

pub loop-place-preserved : goal.loop-place-preserved
loop-place-preserved c =
    lacks_more c.args.key.now c.args.entries.now c.loop-place.place c.index-entries-place.result c.loop-place-test.true c.index-entries-place.is
    (differs c.index-entries-place.result.key.items c.args.key.now (ap (λ l. bytes_eq l c.args.key.now) (sym c.as_slice.ensures.value) ∙ sym c.if-eq.ensures)) c.loop-place.invariant
