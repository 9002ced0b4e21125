use Rattle.std.proofs.Common.{◌++◌, take, sym, ap, ◌∙◌}
use Rattle.std.proofs.lemmas.List.{map-append}
use Rattle.pg_trace_index.specs.Chunks.{all_of, listed}
use Rattle.pg_trace_index.specs.LogEntry.{chain, chains}
use Rattle.pg_trace_index.proofs.InChunks.{one_more}
use Rattle.pg_trace_index.proofs.listing.listed.Goals as goal

pub loop-chunk-preserved : goal.loop-chunk-preserved
loop-chunk-preserved c =
    let log = c.args.earlier.now in
    let cs = c.args.last.now in
    let i = c.loop-chunk.chunk-index in
    let chunk = c.chunk-item.result in record {
      parts = c.in_ok-list_chunk.ensures.parts;
      listed = c.in_ok-list_chunk.ensures.listed ∙ ap (λ l. l ++ chains log c.as_slice.result.now) c.loop-chunk.invariant.listed
          ∙ ap (λ l. chains log (all_of (take i cs)) ++ chains log l) c.as_slice.ensures.value
          ∙ sym (map-append (λ x. (x.0, chain log x.1)) (all_of (take i cs)) (listed chunk))
          ∙ ap (chains log) (sym (one_more cs i chunk c.loop-chunk-test.true c.chunk-item.is));
    }
