use Rattle.std.proofs.Common.{ap, ◌∙◌, subst, sum_by, sym}
use Rattle.pg_map.specs.Chunks.{StartsAt, entries_of, listed}
use Rattle.pg_map.proofs.InParts.{counted_all, starts_at_first}
use Rattle.pg_map.proofs.part.group_of.Goals as goal

pub returns-clause-part : goal.returns-clause-part
returns-clause-part g c =
    let chunks = c.args.chunks.items in (
      subst (λ p. StartsAt p.first (entries_of chunks)) (sym c.index.ensures)
          (starts_at_first listed chunks c.index.result.now c.requires.some c.requires.chunks),
      c.in_ok-count.ensures ∙ ap (sum_by (λ p. p.count)) c.as_slice.ensures.value ∙ counted_all listed chunks c.requires.chunks,
    )
