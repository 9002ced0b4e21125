use Rattle.std.proofs.Common.{Some, ap, sym, ◌∙◌}
use Rattle.std.specs.Option.{option_copied}
use Rattle.pg_trace.specs.Trace.{state_of}
use Rattle.pg_trace.proofs.Beginning.{state_by_id}
use Rattle.pg_trace.proofs.beginnings.InitialCursor.get.Goals as goal

pub returns-in_err-begun-clause-value : goal.returns-in_err-begun-clause-value
returns-in_err-begun-clause-value g c =
    ap option_copied c.from_residual.ensures ∙ c.in_err-begun.ensures.value
    ∙ sym (state_by_id c.args.id c.self.inside.states c.self.invariant) ∙ ap (state_of c.args.id) c.self.view_is

pub returns-clause-value : goal.returns-clause-value
returns-clause-value g c =
    ap Some c.state.ensures ∙ c.in_ok-begun.ensures.value
    ∙ sym (state_by_id c.args.id c.self.inside.states c.self.invariant) ∙ ap (state_of c.args.id) c.self.view_is
