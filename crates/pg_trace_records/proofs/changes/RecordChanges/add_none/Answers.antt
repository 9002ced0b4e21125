use Rattle.pg_map.proofs.Filling.{all_pushed}
use Rattle.pg_trace_records.specs.Parts.{IsWithin}
use Rattle.pg_trace_records.proofs.changes.RecordChanges.add_none.Goals as goal

pub invariant_of-self-2 : goal.invariant_of-self-2
invariant_of-self-2 g c =
    all_pushed (λ e. IsWithin c.self.inside.sent.items c.self.inside.contributed.items e.1) c.self.inside.entries.items c.self.invariant
    c.in_ok-push.ensures.items tt
