use Rattle.pg_map.proofs.InPlace.{is_within, put_here}
use Rattle.pg_map.proofs.in_place.put_value.Goals as goal

pub returns-then-place-entries : goal.returns-then-place-entries
returns-then-place-entries g c =
    put_here c.args.entries.now c.count_below-place.result c.args.id c.index-entries-place.result c.requires.rise c.count_below-place.ensures
    c.requires.there c.args.value c.if-place-entries.true

pub returns-else-place-entries : goal.returns-else-place-entries
returns-else-place-entries g c =
    absurd
    (is_within c.args.entries.now c.count_below-place.result c.args.id (c.args.id, c.args.value) c.requires.rise c.count_below-place.ensures
    c.requires.there c.if-place-entries.false)
