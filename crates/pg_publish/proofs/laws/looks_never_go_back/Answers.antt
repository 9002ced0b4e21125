use Rattle.pg_publish.proofs.EditionsKept.{looks_go_on}
use Rattle.pg_publish.proofs.laws.looks_never_go_back.Goals as goal

pub returns : goal.returns
returns g c = looks_go_on _
