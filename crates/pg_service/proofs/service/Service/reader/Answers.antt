use Rattle.std.proofs.Common.{◌≡◌, rules}
use Rattle.pg_service.proofs.Leading.{reader_leads}
use Rattle.pg_service.proofs.service.Service.reader.Goals as goal

pub returns-clause-made : goal.returns-clause-made
returns-clause-made g c = search rules

pub returns-clause-leads : goal.returns-clause-leads
returns-clause-leads g c batches led =
    reader_leads _ _ _ _ c.reader.result (λ r. r ≡ c.args.self.now.told) c.args.self.now _ (returns-clause-made g c) batches led
