use Rattle.std.proofs.Common.{ap, ◌∙◌}
use Rattle.std.specs.Map.{keys_of}
use Rattle.std.proofs.lemmas.List.{take_all}
use Rattle.pg_map.proofs.Filling.{mapped_more}
use Rattle.pg_part.proofs.resumed.ids_of.Goals as goal

pub loop-id-init : goal.loop-id-init
loop-id-init g c = c.in_ok-ids.ensures.items

pub loop-id-preserved : goal.loop-id-preserved
loop-id-preserved g c =
    mapped_more (λ e. e.0) c.args.entries.now c.loop-id.id-index c.loop-id-test.true c.loop-id-item.is c.loop-id.invariant c.in_ok-push.ensures.items

pub returns : goal.returns
returns g c = c.loop-id.invariant ∙ ap keys_of (take_all c.loop-id.id-index c.args.entries.now c.loop-id-test.false)
