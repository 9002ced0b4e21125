use Rattle.std.proofs.Common.{◌<◌, ◌++◌, [], ◌∷◌, length, arith, ap, ◌∙◌}
use Rattle.std.proofs.lemmas.List.{get_or_default, length-set}
use Rattle.pg_part_routing.proofs.Splitting.{item_put}
use Rattle.pg_part_routing.proofs.sending.put_send.Goals as goal

pub returns-clause-len : goal.returns-clause-len
returns-clause-len g c = length-set c.args.parts.now.items c.number-place.result c.push.new.self ∙ c.requires

pub returns-clause-more : goal.returns-clause-more
returns-clause-more g c before are q below =
    let parts = c.args.parts.now.items in
    let place = c.number-place.result in
    let within : place < length parts = omega (arith, c.number-place.ensures, c.partition.ensures.within, c.requires) in
    let part = c.in_ok-push.ensures ∙ ap (λ l. l ++ (c.args.sender, c.args.target, c.args.message) ∷ [])
    (c.index_mut.ensures.value ∙ get_or_default parts place c.index_mut.result.now [] within) in
    item_put c.args.partitions q parts place before c.args.target (c.args.sender, c.args.target, c.args.message) c.push.new.self
    (c.number-place.ensures ∙ c.partition.ensures.value) within part (are q below)
