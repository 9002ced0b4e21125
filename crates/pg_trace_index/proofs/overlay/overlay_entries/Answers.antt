use Rattle.std.proofs.Common.{◌≡◌, ◌++◌, append_assoc, refl, ap, sym, ◌∙◌}
use Rattle.std.proofs.lemmas.List.{append-nil}
use Rattle.pg_trace_index.specs.Chunks.{all_of, listed}
use Rattle.pg_trace_index.proofs.Tested.{nil_from_test}
use Rattle.pg_trace_index.proofs.overlay.overlay_entries.Goals as goal

pub loop-chunk-preserved : goal.loop-chunk-preserved
loop-chunk-preserved c =
    let before = c.loop-chunk.list.items in
    let remaining = c.next.new.self.rest.items in
    let added : c.append.new.self.items ≡ before ++ listed c.in-Some.chunk = c.in_ok-append.ensures.items in
    ap (λ l. l ++ all_of remaining) added ∙ append_assoc before (listed c.in-Some.chunk) (all_of remaining)
    ∙ ap (λ l. before ++ all_of l) (sym c.in-Some.ensures.steps.0) ∙ c.loop-chunk.invariant

pub returns : goal.returns
returns c =
    let all = c.loop-chunk.list.items in
    let rest = c.loop-chunk.chunk-iterator.rest in
    let none = nil_from_test rest.items 0 (sym c.in-None.ensures.steps.0 ∙ rest.ok.0) refl in
    sym (append-nil all) ∙ ap (λ l. all ++ all_of l) (sym none) ∙ c.loop-chunk.invariant
