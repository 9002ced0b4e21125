use Rattle.tests_checkpoint.proofs.Single.{of_one}
use Rattle.tests_checkpoint.proofs.saving.stepped.Goals as goal

pub resume-requires-clause-rise : goal.resume-requires-clause-rise
resume-requires-clause-rise c κs =
    of_one (λ l. l.items) c.push-2.new.self.items c.new-supersteps.result.items c.push.new.self c.new-records.result.items _ c.new-supersteps.ensures.items
    c.in_ok-push-2.ensures.items c.new-records.ensures.items c.in_ok-push.ensures.items
