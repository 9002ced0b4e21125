use Rattle.std.proofs.Common.{subst, sym}
use Rattle.pg_part_routing.proofs.Beginning.{states_rise}
use Rattle.pg_trace.specs.Trace.{StatesRise}
use Rattle.pg_part_routing.proofs.partitioner.Rows.first_states.Goals as goal

pub returns-clause-rise : goal.returns-clause-rise
returns-clause-rise g c =
    subst StatesRise (sym c.in_ok-states.ensures.states)
    (states_rise
    (g.P.Computation.program c.args.program.now) c.self.inside.partitions c.self.inside.partition c.self.inside.graph.now c.in_ok-states.ensures.rising)
