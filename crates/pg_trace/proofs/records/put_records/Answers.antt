use Rattle.std.proofs.Common.{◌≡◌, ◌++◌, [], ◌∷◌, ◌≤◌, ◌<◌, length, set, sym, ap, ◌∙◌, subst, arith}
use Rattle.std.proofs.lemmas.List.{get_or_default}
use Rattle.pg_map.specs.Entries.{HasRisingIds, with_changes}
use Rattle.pg_trace_index.proofs.InPlace.{put-next, put-there}
use Rattle.pg_trace_index.proofs.Noting.{rises_past}
use Rattle.pg_trace.proofs.records.put_records.Goals as goal

pub returns-then-place-len-clause-put : goal.returns-then-place-len-clause-put
returns-then-place-len-clause-put g c =
    let rs = c.args.supersteps.items in
    let here : c.args.place ≡ length rs = omega (arith, c.if-place-len.true, c.len.ensures) in
    c.in_ok-push.ensures.items ∙ ap (λ r. rs ++ r ∷ []) c.in_ok-of.ensures ∙ sym (put-next rs c.args.place c.args.changes here)

pub returns-then-place-len-clause-rising : goal.returns-then-place-len-clause-rising
returns-then-place-len-clause-rising g c =
    let past : length c.args.supersteps.items ≤ c.args.place = omega (arith, c.if-place-len.true, c.len.ensures) in
    rises_past c.args.supersteps.items c.args.place past

pub returns-clause-put : goal.returns-clause-put
returns-clause-put g c =
    let rs = c.args.supersteps.items in
    let s = c.args.place in
    let changes = c.args.changes in
    let within : s < length rs = omega (arith, c.if-place-len.false, c.len.ensures, c.requires.within) in
    ap (set rs s) (c.in_ok-changed.ensures.records ∙ ap (with_changes changes) (c.index.ensures ∙ get_or_default rs s c.index.result.now [] within))
    ∙ sym (put-there rs s changes within)

pub returns-clause-rising : goal.returns-clause-rising
returns-clause-rising g c =
    let rs = c.args.supersteps.items in
    let s = c.args.place in
    let within : s < length rs = omega (arith, c.if-place-len.false, c.len.ensures, c.requires.within) in
    subst (λ l. HasRisingIds l) (c.index.ensures ∙ get_or_default rs s c.index.result.now [] within) c.changed.ensures.rising
