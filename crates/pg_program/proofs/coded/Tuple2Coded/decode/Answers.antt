use Rattle.std.proofs.Common.{subst}
use Rattle.pg_program.specs.Coding.{IsDecoded}
use Rattle.pg_program.proofs.InTurn.{pair_decoded, decoded_at}
use Rattle.pg_program.proofs.coded.Tuple2Coded.decode.Goals as goal

pub returns : goal.returns
returns g c =
    let first = decoded_at c.in_ok-first.ensures c.in-Some.is in
    let behind = subst (λ l. IsDecoded g.B.Plain.is_value g.B.Coded.coding l c.in_ok-second.field-0) c.behind.ensures c.in_ok-second.ensures in
    pair_decoded g.A.Plain.is_value g.A.Coded.coding g.B.Plain.is_value g.B.Coded.coding
    c.args.bytes.now c.in-Some.first c.in-Some.len c.in-Some-2.second c.in-Some-2.more first (decoded_at behind c.in-Some-2.is)
