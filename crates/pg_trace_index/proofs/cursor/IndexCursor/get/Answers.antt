use Rattle.std.proofs.Common.{None, Some, ap, sym, ◌∙◌}
use Rattle.pg_map.specs.Entries.{value_at}
use Rattle.pg_trace_index.specs.Chunks.{all_of}
use Rattle.pg_trace_index.proofs.Over.{over}
use Rattle.pg_trace_index.proofs.cursor.IndexCursor.get.Goals as goal

pub returns-in-Some-clause-value : goal.returns-in-Some-clause-value
returns-in-Some-clause-value c =
    let there = sym (c.in-Some.ensures ∙ ap (λ l. value_at c.args.id (all_of l)) c.as_slice.ensures.value) in
    c.noted.ensures
    ∙ sym (over c.self.inside.base (all_of c.self.inside.overlay.now.items) c.self.invariant.0 c.self.invariant.1.rise c.args.id (Some c.in-Some.steps.now) there)
    ∙ ap (value_at c.args.id) c.self.view_is

pub returns-in-None-clause-value : goal.returns-in-None-clause-value
returns-in-None-clause-value c =
    let none = sym (c.in-None.ensures ∙ ap (λ l. value_at c.args.id (all_of l)) c.as_slice.ensures.value) in
    c.get-in-None.ensures.value
    ∙ sym (over c.self.inside.base (all_of c.self.inside.overlay.now.items) c.self.invariant.0 c.self.invariant.1.rise c.args.id None none)
    ∙ ap (value_at c.args.id) c.self.view_is
