use Rattle.std.proofs.Common.{subst₂, sym}
use Rattle.pg_inbox_bundles.specs.Sound.{IsSound}
use Rattle.pg_inbox_bundles.proofs.Sent.{sound_sent}
use Rattle.pg_inbox_bundles.proofs.making.sent_bundle.Goals as goal

pub invariant_of-result : goal.invariant_of-result
invariant_of-result g c =
    subst₂ (IsSound g.M.Plain.is_value) (sym c.new.ensures) (sym c.in_ok-envelopes.ensures)
    (sound_sent g.M.Plain.is_value c.args.envelopes.items c.requires.rise c.requires.values)
