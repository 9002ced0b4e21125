use Rattle.std.proofs.Common.{Some, get_or, sym, ap, ◌∙◌}
use Rattle.pg_trace_index.specs.Chunks.{listed}
use Rattle.pg_trace_index.proofs.InChunks.{value_found}
use Rattle.pg_trace_index.proofs.chunk.get.Goals as goal

pub returns : goal.returns
returns g c =
    ap (λ e. Some e.1) (c.index.ensures ∙ ap (λ d. get_or (listed d) c.in_ok-chunk.place c.index.result.now) (sym c.index-chunks-chunk.is))
    ∙ sym (value_found c.args.id c.args.chunks.now c.requires c.in_ok-chunk.chunk c.in_ok-chunk.place c.in_ok-chunk.ensures.some
    c.index-chunks-chunk.result c.index-chunks-chunk.is c.index.result.now)
