use Rattle.std.proofs.Common.{subst}
use Rattle.pg_map.specs.Entries.{HasRisingIds}
use Rattle.pg_inbox_bundles.specs.Shared.{envelopes_of}
use Rattle.pg_inbox_bundles.proofs.Sent.{with_rise}
use Rattle.pg_inbox_bundles.proofs.bundles.Bundle.cursor.Goals as goal

pub returns-clause-rise : goal.returns-clause-rise
returns-clause-rise g c =
    subst HasRisingIds c.self.view_is (with_rise c.self.inside.changes (envelopes_of c.self.inside.envelopes) c.self.invariant.envelopes_rise)
