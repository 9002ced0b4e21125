use Rattle.std.proofs.Common.{◌∙◌}
use Rattle.pg_part_compute.proofs.found.copied.Goals as goal

pub returns : goal.returns
returns g c = λ i. record {
  id = c.id.ensures i;
  value = (c.in_ok-copy.ensures ∙ c.value.ensures) i;
  edges = (c.in_ok-copy-2.ensures ∙ c.edges.ensures) i;
  halted = c.halted.ensures i;
}
