use Rattle.std.proofs.Common.{◌≡◌, ◌+◌, ◌++◌, ◌∷◌, [], take, sym, ap, ◌∙◌, append_assoc}
use Rattle.std.proofs.lemmas.List.{map-append, take_all, take_more}
use Rattle.pg_trace_index.specs.Listing.{parts_of}
use Rattle.pg_trace_index.specs.LogEntry.{chain, chains}
use Rattle.pg_trace_index.proofs.listing.list_chunk.Goals as goal

pub loop-id-preserved : goal.loop-id-preserved
loop-id-preserved c =
    let log = c.args.earlier.now in
    let last = c.args.last.now in
    let i = c.loop-id.id-index in
    let e = c.loop-id-item.result in
    let start = parts_of c.args.runs.now.items c.args.parts.now.items in
    let more : chains log (take (i + 1) last) ≡ chains log (take i last) ++ (e.0, chain log e.1) ∷ [] =
    ap (chains log) (take_more last i e c.loop-id-test.true ∙ ap (λ x. take i last ++ x ∷ []) (sym c.loop-id-item.is))
    ∙ map-append (λ x. (x.0, chain log x.1)) (take i last) (e ∷ []) in record {
      parts = c.in_ok-list_one.ensures.parts;
      listed = c.in_ok-list_one.ensures.listed ∙ ap (λ l. l ++ (e.0, chain log e.1) ∷ []) c.loop-id.invariant.listed
          ∙ append_assoc start (chains log (take i last)) ((e.0, chain log e.1) ∷ []) ∙ ap (λ l. start ++ l) (sym more);
    }

pub returns-clause-listed : goal.returns-clause-listed
returns-clause-listed c =
    let start = parts_of c.args.runs.now.items c.args.parts.now.items in
    c.loop-id.invariant.listed ∙ ap (λ l. start ++ chains c.args.earlier.now l) (take_all c.loop-id.id-index c.args.last.now c.loop-id-test.false)
