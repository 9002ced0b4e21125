use Rattle.pg_import.proofs.PlainLines.{reads-three, reads-two}
use Rattle.pg_import.proofs.list.plain_edge.Goals as goal

pub returns-in-Some : goal.returns-in-Some
returns-in-Some c =
    rw c.in_ok-line.ensures (reads-two c.args.text.now _ _ _ c.in-Some.rest.now _ _ c.in_ok-source.ensures c.in_ok-after_blank.ensures
    c.in_ok-target.ensures c.in-Some.ensures)

pub returns : goal.returns
returns c =
    rw c.in_ok-line-2.ensures (reads-three c.args.text.now _ _ _ _ _ c.in_ok-rest.rest.now _ _ _ c.in_ok-source.ensures
    c.in_ok-after_blank.ensures c.in_ok-target.ensures c.in_ok-after_blank-2.ensures c.in_ok-weight.ensures c.in_ok-rest.ensures)
