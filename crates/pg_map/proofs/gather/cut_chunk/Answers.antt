use Rattle.std.proofs.Common.{◌++◌, ap, drop, ◌∙◌}
use Rattle.std.proofs.lemmas.List.{append_assoc}
use Rattle.std.proofs.lemmas.Result.{on_ok_weaker}
use Rattle.pg_map.specs.Chunks.{listed}
use Rattle.pg_map.proofs.Cut.{cut_leaves, cut_whole}
use Rattle.pg_map.proofs.gather.cut_chunk.Goals as goal

pub returns-clause-entries : goal.returns-clause-entries
returns-clause-entries g c =
    let made = c.args.made.now in
    let piece = c.replace.result.items in
    let front = c.in_ok-front.front.items in
    let later = c.in_ok-front.later.items in
    let chunk = listed c.in_ok-chunk_of.field-0 in
    on_ok_weaker c.push.result
    (λ grown. ap (λ l. l ++ later) grown ∙ append_assoc made chunk later
    ∙ ap (λ l. made ++ (l ++ later)) c.in_ok-chunk_of.ensures.entries
    ∙ ap (λ l. made ++ l) (cut_whole piece front later c.args.count c.in_ok-front.ensures.front c.in_ok-front.ensures.others)
    ∙ ap (λ v. made ++ v.items) c.replace.ensures.value)
    c.push.ensures

pub returns-clause-remaining : goal.returns-clause-remaining
returns-clause-remaining g c =
    let was = ap (λ v. v.items) c.replace.ensures.value in
    on_ok_weaker c.push.result
    (λ grown. cut_leaves c.args.piece.now.items c.in_ok-front.later.items c.args.count c.requires
    (c.in_ok-front.ensures.others ∙ ap (drop c.args.count) was))
    c.push.ensures
