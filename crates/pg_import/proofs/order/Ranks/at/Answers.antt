use Rattle.pg_import.specs.Ranks.{sources_of, targets_of}
use Rattle.pg_import.proofs.KnownRanks.{ends_at}
use Rattle.pg_import.proofs.order.Ranks.at.Goals as goal

pub returns : goal.returns
returns c = λ rows lines line at known.
    let ends = ends_at lines c.args.place at in
    (c.at.ensures rows (sources_of lines) line.source ends.0 known.0, c.at-2.ensures rows (targets_of lines) line.target ends.1 known.1)
