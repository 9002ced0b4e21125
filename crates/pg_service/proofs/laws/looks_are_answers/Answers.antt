use Rattle.pg_service.proofs.Leading.{looks_follow}
use Rattle.pg_service.proofs.laws.looks_are_answers.Goals as goal

pub returns : goal.returns
returns g c = looks_follow
