use Rattle.std.proofs.Common.{◌∷◌, [], ◌++◌, ap, ◌∙◌, map}
use Rattle.std.proofs.lemmas.List.{take_all}
use Rattle.pg_map.proofs.Filling.{all_pushed, mapped_after}
use Rattle.pg_inbox_messages.proofs.making.add_copies.Goals as goal

pub loop-envelope-preserved : goal.loop-envelope-preserved
loop-envelope-preserved g c =
    let before = c.loop-envelope.copied.items in
    let pushed = c.in_ok-push.ensures.items in
    record {
      envelopes = mapped_after (λ l. l.1) c.args.copied.now.items c.args.envelopes.now c.loop-envelope.envelope-index c.loop-envelope-test.true
          c.loop-envelope-item.is c.loop-envelope.invariant.envelopes (pushed ∙ ap (λ l. before ++ l ∷ []) c.in_ok-copied_envelope.ensures.envelope);
      values = all_pushed (λ l. g.M.Plain.is_value l.1) before c.loop-envelope.invariant.values pushed c.in_ok-copied_envelope.ensures.value;
    }

pub returns-clause-envelopes : goal.returns-clause-envelopes
returns-clause-envelopes g c =
    c.loop-envelope.invariant.envelopes
    ∙ ap (λ l. c.args.copied.now.items ++ map (λ l. l.1) l) (take_all c.loop-envelope.envelope-index c.args.envelopes.now c.loop-envelope-test.false)
