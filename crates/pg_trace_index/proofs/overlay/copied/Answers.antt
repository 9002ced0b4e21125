use Rattle.std.proofs.Common.{◌++◌, ap, sym, ◌∙◌}
use Rattle.std.proofs.lemmas.List.{take_all}
use Rattle.pg_trace_index.specs.Chunks.{all_of, listed}
use Rattle.pg_trace_index.proofs.InChunks.{one_more}
use Rattle.pg_trace_index.proofs.overlay.copied.Goals as goal

pub loop-chunk-preserved : goal.loop-chunk-preserved
loop-chunk-preserved c =
    let done = c.loop-chunk.copies.items in
    c.in_ok-copy_of.ensures ∙ ap (λ l. done ++ l) c.as_slice.ensures.value ∙ ap (λ l. l ++ listed c.chunk-item.result) c.loop-chunk.invariant
    ∙ sym (one_more c.args.overlay.now c.loop-chunk.chunk-index c.chunk-item.result c.loop-chunk-test.true c.chunk-item.is)

pub returns : goal.returns
returns c = c.loop-chunk.invariant ∙ ap all_of (take_all c.loop-chunk.chunk-index c.args.overlay.now c.loop-chunk-test.false)
