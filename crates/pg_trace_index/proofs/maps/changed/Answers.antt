use Rattle.std.proofs.Common.{◌≡◌, IfOk, ap, subst, sym, ◌∙◌}
use Rattle.std.proofs.lemmas.List.{nil_from_length}
use Rattle.std.proofs.lemmas.Result.{IfOk-weaker}
use Rattle.pg_map.specs.Entries.{HasRisingIds, with_changes}
use Rattle.pg_map.proofs.Changing.{rises-changes}
use Rattle.pg_trace_index.proofs.Tested.{nil_from_test}
use Rattle.pg_trace_index.proofs.maps.changed.Goals as goal

pub returns-then-len-eq0-clause-map : goal.returns-then-len-eq0-clause-map
returns-then-len-eq0-clause-map g c =
    subst (λ l. IfOk c.fresh.result (λ after. after ≡ with_changes c.args.changes.items l))
    (sym (nil_from_length c.args.map (sym c.len.ensures.value ∙ c.if-len-eq0.true))) c.fresh.ensures

pub returns-then-len-eq0-clause-rising : goal.returns-then-len-eq0-clause-rising
returns-then-len-eq0-clause-rising g c =
    let none = nil_from_length c.args.map (sym c.len.ensures.value ∙ c.if-len-eq0.true) in
    let rise = rises-changes c.args.changes.items c.args.map c.len.ensures.rising in
    IfOk-weaker c.fresh.result _ _
    (λ after is. subst (λ l. HasRisingIds l) (ap (with_changes c.args.changes.items) none ∙ sym is) rise) c.fresh.ensures

pub returns-then-is_empty-clause-map : goal.returns-then-is_empty-clause-map
returns-then-is_empty-clause-map g c =
    ap (λ l. with_changes l c.args.map) (sym (nil_from_test c.args.changes.items c.args.changes.len c.args.changes.ok.0 c.if-is_empty.ensures))

pub returns-clause-map : goal.returns-clause-map
returns-clause-map g c = c.in_ok-change.ensures.ok ∙ ap (λ l. with_changes l c.args.map) c.as_slice.ensures.value
