use Rattle.std.proofs.Common.{◌≡◌, ◌++◌, [], ◌∷◌, IfOk, append_assoc, sym, ap, ◌∙◌, subst}
use Rattle.std.proofs.lemmas.List.{append-nil, nil_from_length}
use Rattle.std.proofs.lemmas.Result.{IfOk-from_err}
use Rattle.pg_map.specs.Entries.{HasRisingIds, somes}
use Rattle.pg_map.proofs.Somes.{somes_are, somes_rise}
use Rattle.pg_trace_index.proofs.maps.fresh.Goals as goal

pub loop-id-preserved-in-Continue-branch-2 : goal.loop-id-preserved-in-Continue-branch-2
loop-id-preserved-in-Continue-branch-2 g c =
    let there = c.loop-id.there.items in
    let remaining = c.next.new.self.rest.items in
    ap (λ l. l ++ somes remaining) c.in_ok-push.ensures.items ∙ append_assoc there ((c.in-Some.id, c.in-Some-change.value) ∷ []) (somes remaining)
    ∙ ap (λ o. there ++ somes ((c.in-Some.id, o) ∷ remaining)) (sym c.in-Some-change.is)
    ∙ ap (λ l. there ++ somes l) (sym c.in-Some.ensures.steps.0) ∙ c.loop-id.invariant

pub loop-id-preserved : goal.loop-id-preserved
loop-id-preserved g c =
    let there = c.loop-id.there.items in
    ap (λ o. there ++ somes ((c.in-Some.id, o) ∷ c.next.new.self.rest.items)) (sym c.in_default.is)
    ∙ ap (λ l. there ++ somes l) (sym c.in-Some.ensures.steps.0) ∙ c.loop-id.invariant

pub from_rising-requires : goal.from_rising-requires
from_rising-requires g c =
    let remaining = c.loop-id.id-iterator.rest in
    let done : remaining.items ≡ [] = nil_from_length remaining.items (sym remaining.ok.0 ∙ c.in-None.ensures.steps.0) in
    let all = sym (append-nil c.loop-id.there.items) ∙ ap (λ l. c.loop-id.there.items ++ somes l) (sym done) ∙ c.loop-id.invariant in
    subst (λ l. HasRisingIds l) (sym all) (somes_rise c.args.changes.items c.requires)

pub returns : goal.returns
returns g c =
    let remaining = c.loop-id.id-iterator.rest in
    let done : remaining.items ≡ [] = nil_from_length remaining.items (sym remaining.ok.0 ∙ c.in-None.ensures.steps.0) in
    let all = sym (append-nil c.loop-id.there.items) ∙ ap (λ l. c.loop-id.there.items ++ somes l) (sym done) ∙ c.loop-id.invariant in
    subst (λ l. IfOk c.from_rising.result (λ records. records ≡ l)) (all ∙ somes_are c.args.changes.items c.requires) c.from_rising.ensures

pub loop-id-init : goal.loop-id-init
loop-id-init g c =
    let start = c.into_iter-id-iterator in
    ap (λ l. l ++ somes start.result.rest.items) c.in_ok-there.ensures.items ∙ ap somes start.ensures.into_iter_gives.0

pub returns-in_err-there : goal.returns-in_err-there
returns-in_err-there g c = IfOk-from_err c.from_residual.result _ c.from_residual.ensures.0

pub returns-in_err-push : goal.returns-in_err-push
returns-in_err-push g c = IfOk-from_err c.from_residual-in_err-push.result _ c.from_residual-in_err-push.ensures.0
