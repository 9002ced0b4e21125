use Rattle.std.proofs.Common.{◌++◌, ◌∙◌, ap}
use Rattle.pg_checkpoint.specs.Bytes.{contributed_coding, edge_coding, sent_coding}
use Rattle.pg_checkpoint.proofs.Appending.{parts_are, six_parts}
use Rattle.pg_program.specs.Coding.{list_coding, natural_coding, truth_coding}
use Rattle.pg_checkpoint.proofs.writing.put_record.Goals as goal

pub returns-clause-bytes : goal.returns-clause-bytes
returns-clause-bytes g c =
    six_parts c.put_list-3.result c.args.bytes.now.items (natural_coding c.args.id) (truth_coding c.args.given.now.halted)
    (g.V.Coded.coding c.args.given.now.value) (list_coding edge_coding c.args.given.now.edges)
    (list_coding (sent_coding g.M.Coded.coding) c.args.given.now.sent) (list_coding contributed_coding c.args.given.now.contributed)
    _ _ _ _ _ _ c.in_ok-encode.ensures.ok
    (c.in_ok-encode-2.ensures.ok ∙ ap (λ h. c.encode.new.bytes.items ++ truth_coding h) c.halted.ensures)
    (c.in_ok-encode-3.ensures.ok ∙ ap (λ v. c.encode-2.new.bytes.items ++ g.V.Coded.coding v) c.value-2.ensures)
    (c.in_ok-put_list.ensures.bytes
    ∙ ap (λ l. c.encode-3.new.bytes.items ++ list_coding edge_coding l) (c.as_slice.ensures.value ∙ c.edges.ensures))
    (c.in_ok-put_list-2.ensures.bytes ∙ ap (λ l. c.put_list.new.bytes.items ++ list_coding (sent_coding g.M.Coded.coding) l) c.sent.ensures)
    (parts_are c.put_list-3.result (list_coding contributed_coding) c.put_list-2.new.bytes.items c.put_list-3.new.bytes.items
    c.contributed.result.now c.args.given.now.contributed c.put_list-3.ensures.bytes c.contributed.ensures)
