use Rattle.pg_workers.proofs.coordinator.Coordinator.restore_at.Goals as goal

pub returns-clause-keeps : goal.returns-clause-keeps
returns-clause-keeps g c fated first runs =
    let hosted = c.in_ok-host.ensures.keeps fated first (g.S.Shelf.state c.args.shelf.now) runs in
    c.in_ok-restore.ensures.keeps fated first (g.S.Shelf.state c.found.new.shelf) (c.in_ok-found.ensures.keeps fated first hosted)
    (c.in_ok-found.ensures.right fated first hosted)
