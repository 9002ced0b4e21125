use Rattle.std.proofs.Common.{◌≡◌, ◌<◌, ◌≤◌, length, ap, sym, ◌∙◌, subst}
use Rattle.std.specs.List.{zip}
use Rattle.std.proofs.lemmas.List.{take_all}
use Rattle.pg_trace_records.proofs.Senders.{AreWarm, all_warm, none_warm, one_warm}
use Rattle.pg_trace_records.proofs.changes.RecordChanges.all_sent.Goals as goal

pub loop-place-init : goal.loop-place-init
loop-place-init g c = none_warm c.self.inside.sent.items c.self.inside.contributed.items c.in_ok-senders.ensures.items

pub loop-place-preserved : goal.loop-place-preserved
loop-place-preserved g c =
    let entries = c.self.inside.entries in
    one_warm c.self.inside.sent.items c.self.inside.contributed.items entries.items c.loop-place.place c.index.result.now c.loop-place.senders.items
    c.add_senders.new.senders.items (subst (λ n. c.loop-place.place < n) (c.len-place-end.ensures ∙ entries.ok.0) c.loop-place-test.true) c.index.ensures
    c.self.invariant c.loop-place.invariant (c.in_ok-add_senders.ensures c.if-not-branch.false)

pub returns-clause-len : goal.returns-clause-len
returns-clause-len g c =
    sym c.loop-place.senders.ok.0 ∙ sym c.len-2.ensures ∙ c.if-len.false ∙ c.len-3.ensures ∙ c.self.inside.sent.ok.0 ∙ ap length (sym c.as_slice.ensures.value)

pub returns-clause-sent : goal.returns-clause-sent
returns-clause-sent g c =
    let entries = c.self.inside.entries in
    let sent = c.self.inside.sent in
    let senders = c.loop-place.senders in
    let long : length senders.items ≡ length sent.items = sym senders.ok.0 ∙ sym c.len-2.ensures ∙ c.if-len.false ∙ c.len-3.ensures ∙ sent.ok.0 in
    let done = take_all c.loop-place.place entries.items (subst (λ n. n ≤ c.loop-place.place) (c.len-place-end.ensures ∙ entries.ok.0) c.loop-place-test.false) in
    ap (zip senders.items) c.as_slice.ensures.value
    ∙ all_warm sent.items c.self.inside.contributed.items entries.items senders.items
    (subst (λ l. AreWarm sent.items c.self.inside.contributed.items l senders.items) done c.loop-place.invariant) long c.self.view_is
