use Rattle.pg_publish.proofs.StepsKept.{readers_begin}
use Rattle.pg_publish.proofs.laws.readers_see_beginnings.Goals as goal

pub returns : goal.returns
returns g c = readers_begin
