use Rattle.pg_service.proofs.Leading.{follows}
use Rattle.pg_service.proofs.laws.publications_are_answers.Goals as goal

pub returns : goal.returns
returns g c = follows
