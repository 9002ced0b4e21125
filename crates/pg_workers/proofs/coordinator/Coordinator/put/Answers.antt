use Rattle.std.proofs.Common.{ℕ, subst}
use Rattle.pg_workers.specs.Running.{Coordination, HasPut}
use Rattle.pg_workers.proofs.coordinator.Coordinator.put.Goals as goal

pub returns : goal.returns
returns g c =
    let inside = c.self.inside in
    let part = c.part-part.result.now in (
      part,
      subst (λ (s : Coordination _ _ _ _ _). HasPut g.P.Value.Plain.is_value g.P.Value.Coded.coding g.P.Message.Plain.is_value g.P.Message.Coded.coding
          s.core c.args.partition part (g.S.Shelf.state c.args.shelf.now) c.save.result (g.S.Shelf.state c.save.new.shelf)) c.self.view_is
          (subst (λ (run : ℕ). HasPut g.P.Value.Plain.is_value g.P.Value.Coded.coding g.P.Message.Plain.is_value g.P.Message.Coded.coding
          (record inside.core { run = run }) c.args.partition part (g.S.Shelf.state c.args.shelf.now) c.save.result (g.S.Shelf.state c.save.new.shelf))
          c.run-run.ensures
          (record {
            here = c.part-part.ensures.value;
            at = c.part-part.ensures.at;
            put = c.save.ensures.put;
            codable = c.save.ensures.codable;
            fits = c.save.ensures.fits;
          })),
    )
