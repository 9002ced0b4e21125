use Rattle.std.proofs.Common.{subst}
use Rattle.pg_map.specs.Entries.{HasRisingIds}
use Rattle.pg_inbox_bundles.specs.Shared.{envelopes_of}
use Rattle.pg_inbox_bundles.proofs.Sent.{with_rise}
use Rattle.pg_inbox_bundles.proofs.bundles.Bundle.unchanged.Goals as goal

pub returns-then-len-gt0-clause-ids_rise : goal.returns-then-len-gt0-clause-ids_rise
returns-then-len-gt0-clause-ids_rise g c =
    subst HasRisingIds c.self.view_is (with_rise c.self.inside.changes (envelopes_of c.self.inside.envelopes) c.self.invariant.envelopes_rise)

pub returns-clause-ids_rise : goal.returns-clause-ids_rise
returns-clause-ids_rise g c =
    subst HasRisingIds c.self.view_is (with_rise c.self.inside.changes (envelopes_of c.self.inside.envelopes) c.self.invariant.envelopes_rise)
