use Rattle.std.proofs.Common.{ℕ, Bool, List, ◌++◌, map, refl, ap, ◌∙◌, arith}
use Rattle.pg_model.specs.declared.configuration.VertexWithInbox.{VertexWithInbox}
use Rattle.pg_scratch.proofs.Mapped.{made_all, made_more}
use Rattle.pg_scratch.proofs.undeliverable.inboxes_of.Goals as goal

abbrev inbox_of : {M : Type 0} → VertexWithInbox Bool M → ℕ × List M
inbox_of x = (x.state.id, x.inbox)

pub loop-blank-init : goal.loop-blank-init
loop-blank-init g c =
    let all = c.into_iter-blank-iterator.ensures.into_iter_gives.0 in
    ap (λ l. l ++ map inbox_of c.into_iter-blank-iterator.result.rest.items) c.new-inboxes.ensures ∙ ap (map inbox_of) all

pub loop-blank-preserved : goal.loop-blank-preserved
loop-blank-preserved g c =
    made_more inbox_of c.in-Some.blank _ c.next.new.self.rest.items c.loop-blank.blank-iterator.rest.items c.loop-blank.inboxes
    c.push.new.self _ c.in-Some.ensures.steps.0 refl c.in_ok-push.ensures.ok c.loop-blank.invariant

pub returns : goal.returns
returns g c =
    made_all inbox_of c.loop-blank.blank-iterator.rest.items c.loop-blank.inboxes _
    (omega (arith, c.in-None.ensures.steps.0, c.loop-blank.blank-iterator.rest.ok.0)) c.loop-blank.invariant
