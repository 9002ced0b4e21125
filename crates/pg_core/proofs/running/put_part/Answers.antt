use Rattle.std.proofs.Common.{set, arith}
use Rattle.pg_core.proofs.running.put_part.Goals as goal

pub index_mut-requires : goal.index_mut-requires
index_mut-requires g c = omega (arith, c.number.ensures, c.requires, c.args.parts.now.ok)

pub returns : goal.returns
returns g c = λ i. set c.args.parts.now.items (c.number.ensures i) (c.replace.ensures.after i)
