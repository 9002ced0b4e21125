use Rattle.std.proofs.Common.{◌≡◌, ◌+◌, ◌-◌, ◌<◌, false, leb, length, sym, ap, ◌∙◌, arith}
use Rattle.std.proofs.lemmas.Bool.Decides.{nat_tests}
use Rattle.pg_map.proofs.Begun.{no_by}
use Rattle.pg_trace_index.proofs.InChunks.{all_below}
use Rattle.pg_trace_index.proofs.chunk.are_below.Goals as goal

pub returns : goal.returns
returns g c = λ yes.
    let es = c.args.entries.now in
    let last = c.index-entries-count.result in
    let count : length es - 1 + 1 ≡ length es = omega (arith, c.if-count-eq0.false) in
    let above : leb c.args.id last.0 ≡ false = ap (λ e. leb c.args.id e.0) c.index-entries-count.is ∙ sym c.is_at_most.ensures ∙ no_by _ yes in
    let low : last.0 < c.args.id = grind (arith, nat_tests) in
    all_below es c.args.id (length es - 1) last c.requires count c.index-entries-count.is low
