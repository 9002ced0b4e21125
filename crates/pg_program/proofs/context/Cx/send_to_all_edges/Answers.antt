use Rattle.std.proofs.Common.{ℕ, List, ◌++◌, map, take, ap, ◌∙◌}
use Rattle.pg_program.specs.Context.{Context}
use Rattle.pg_program.proofs.context.Cx.send_to_all_edges.Goals as goal

abbrev with_sent : {M : Type 0} → Context M → List (ℕ × M) → Context M
with_sent cx sent = record cx { sent = sent }

pub returns-in-Ok-clause-ok : goal.returns-in-Ok-clause-ok
returns-in-Ok-clause-ok g c =
    let now : Context g.row.M.Denot = record {
      view = c.self.inside.view;
      writes = c.self.inside.writes;
      sent = c.self.inside.sent;
      contributed = c.self.inside.contributed;
      calls = c.self.inside.meter;
    } in
    let added : List (ℕ × g.row.M.Denot) = map (λ e. (e.0, c.args.message.now)) c.args.vertex.now.edges in
    ap (with_sent now) (c.in-Ok.ensures.ok ∙ ap (λ l. c.self.inside.sent ++ map (λ e. (e.0, c.args.message.now)) l) c.edges.ensures.value)
    ∙ ap (λ (cx : Context g.row.M.Denot). with_sent cx (cx.sent ++ added)) c.self.view_is

pub returns-in-Err-clause-err : goal.returns-in-Err-clause-err
returns-in-Err-clause-err g c =
    let now : Context g.row.M.Denot = record {
      view = c.self.inside.view;
      writes = c.self.inside.writes;
      sent = c.self.inside.sent;
      contributed = c.self.inside.contributed;
      calls = c.self.inside.meter;
    } in
    ap (with_sent now) (c.truncate.ensures ∙ ap (λ n. take n c.push_to_all.new.sent) c.len-before.ensures ∙ c.in-Err.ensures.err) ∙ c.self.view_is
