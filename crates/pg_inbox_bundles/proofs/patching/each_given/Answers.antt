use Rattle.std.proofs.Common.{ℕ, Option, map, [], ◌∷◌, ◌++◌, ap, append_assoc, sym, ◌∙◌}
use Rattle.std.proofs.lemmas.List.{nil_from_length}
use Rattle.pg_map.proofs.Filling.{mapped_taken}
use Rattle.pg_map.proofs.Moved.{moved_all}
use Rattle.pg_inbox_messages.specs.declared.message_list.Contents.{Contents}
use Rattle.pg_inbox_bundles.specs.Sound.{needed}
use Rattle.pg_inbox_bundles.proofs.patching.each_given.Goals as goal

pub loop-id-init : goal.loop-id-init
loop-id-init g c = record { so_far = c.in_ok-given.ensures.items; whole = c.into_iter-id-iterator.ensures.into_iter_gives.0 }

pub loop-id-preserved : goal.loop-id-preserved
loop-id-preserved g c =
    let yielded = c.loop-id.yielded in
    let change : ℕ × Option (Contents g.row.M.Denot) = (c.in-Some.id, c.in-Some.change) in
    record {
      so_far = mapped_taken (needed c.args.envelopes.now) yielded change c.loop-id.invariant.so_far
          (c.in_ok-push.ensures.items ∙ ap (λ e. c.loop-id.given.items ++ e ∷ []) c.needed.ensures);
      whole = append_assoc yielded (change ∷ []) c.next.new.self.rest.items
          ∙ ap (λ l. yielded ++ l) (sym c.in-Some.ensures.steps.0) ∙ c.loop-id.invariant.whole;
    }

pub returns : goal.returns
returns g c =
    let remaining = c.loop-id.id-iterator.rest in
    c.loop-id.invariant.so_far
    ∙ ap (map (needed c.args.envelopes.now))
    (moved_all c.loop-id.yielded (nil_from_length remaining.items (sym remaining.ok.0 ∙ c.in-None.ensures.steps.0)) c.loop-id.invariant.whole)
