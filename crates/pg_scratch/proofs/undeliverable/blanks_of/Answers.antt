use Rattle.std.proofs.Common.{◌≡◌, ℕ, ℤ, List, [], ◌∷◌, ◌++◌, Bool, false, true, ap, ◌∙◌}
use Rattle.pg_model.specs.declared.configuration.VertexWithInbox.{VertexWithInbox}
use Rattle.pg_scratch.specs.Undeliverable.{blank}
use Rattle.pg_scratch.proofs.Mapped.{mapped_all, mapped_more}
use Rattle.pg_scratch.proofs.undeliverable.blanks_of.Goals as goal

abbrev made : {M : Type 0} → ℕ → List (ℕ × ℤ) → List M → VertexWithInbox Bool M
made id edges inbox = record { state = record { id = id; value = false; edges = edges; halted = true }; inbox = inbox }

made_blank : {M : Type 0} (id : ℕ) (edges : List (ℕ × ℤ)) (inbox : List M) → edges ≡ [] → inbox ≡ [] → made id edges inbox ≡ blank id
made_blank id edges inbox p q = cc

pub loop-id-preserved : goal.loop-id-preserved
loop-id-preserved g c =
    let is = made_blank c.id-item.result _ _ c.new.ensures c.new-in-loop-id.ensures in
    mapped_more blank c.args.ids.now c.loop-id.id-index c.id-item.result _ _ c.loop-id-test.true c.id-item.is
    c.loop-id.invariant (c.in_ok-push.ensures.items ∙ ap (λ x. c.loop-id.blanks.items ++ x ∷ []) is)

pub returns : goal.returns
returns g c = mapped_all blank c.args.ids.now c.loop-id.id-index _ c.loop-id-test.false c.loop-id.invariant
