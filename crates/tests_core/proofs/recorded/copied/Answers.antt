use Rattle.std.proofs.Common.{ap, ◌∙◌}
use Rattle.std.specs.Map.{keys_of}
use Rattle.std.proofs.lemmas.List.{map-append, take_all}
use Rattle.pg_map.proofs.Filling.{mapped_more}
use Rattle.tests_core.proofs.recorded.copied.Goals as goal

pub loop-vertex-init : goal.loop-vertex-init
loop-vertex-init g c = ap keys_of c.in_ok-list.ensures.items

pub loop-vertex-preserved : goal.loop-vertex-preserved
loop-vertex-preserved g c =
    mapped_more (λ e. e.0) c.args.records.now c.loop-vertex.vertex-index c.loop-vertex-test.true c.loop-vertex-item.is c.loop-vertex.invariant
    (ap keys_of c.in_ok-push.ensures.items ∙ map-append (λ e. e.0) c.loop-vertex.list.items _)

pub returns : goal.returns
returns g c = c.loop-vertex.invariant ∙ ap keys_of (take_all c.loop-vertex.vertex-index c.args.records.now c.loop-vertex-test.false)
