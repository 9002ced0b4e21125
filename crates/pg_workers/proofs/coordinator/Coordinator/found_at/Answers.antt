use Rattle.std.proofs.Common.{rules, ◌≡◌, ◌<◌, ℕ, List, ap, sym, ◌∙◌, subst, subst₂, Some}
use Rattle.pg_workers.specs.Meaning.{meaning}
use Rattle.pg_checkpoint.specs.Loading.{Asked, IsLoaded, key_of}
use Rattle.pg_checkpoint.specs.Shelf.{at_key}
use Rattle.pg_core.specs.Handed.{saved_at}
use Rattle.pg_workers_rounds.specs.Handed.{PartRows}
use Rattle.pg_stats.specs.GlobalStats.{aggregators_of}
use Rattle.pg_workers.specs.Recovering.{IsFoundRight}
use Rattle.pg_workers.specs.Running.{Coordination, IsRunning}
use Rattle.pg_workers.proofs.Saved.{found_right, running_got}
use Rattle.pg_workers.proofs.coordinator.Coordinator.found_at.Goals as goal

pub returns-in_default-clause-keeps : goal.returns-in_default-clause-keeps
returns-in_default-clause-keeps g c fated first runs =
    let own = meaning g.P.Computation.program g.C.MessageCombiner.combining g.M.MasterCompute.master g.P.Value.PartialEq.eq g.P.Message.PartialEq.eq
    g.P.Value.Plain.is_value g.P.Value.Coded.coding g.P.Message.Plain.is_value g.P.Message.Coded.coding in
    running_got own fated first (g.S.Shelf.state c.args.shelf.now) (g.S.Shelf.state c.load.new.shelf) _ c.args.self.now c.load.ensures.got runs

pub returns-in-Found-clause-keeps : goal.returns-in-Found-clause-keeps
returns-in-Found-clause-keeps g c fated first runs =
    let own = meaning g.P.Computation.program g.C.MessageCombiner.combining g.M.MasterCompute.master g.P.Value.PartialEq.eq g.P.Message.PartialEq.eq
    g.P.Value.Plain.is_value g.P.Value.Coded.coding g.P.Message.Plain.is_value g.P.Message.Coded.coding in
    running_got own fated first (g.S.Shelf.state c.args.shelf.now) (g.S.Shelf.state c.load.new.shelf) _ c.args.self.now c.load.ensures.got runs

pub returns-in-Found-clause-right : goal.returns-in-Found-clause-right
returns-in-Found-clause-right g c fated first runs =
    let own = meaning g.P.Computation.program g.C.MessageCombiner.combining g.M.MasterCompute.master g.P.Value.PartialEq.eq g.P.Message.PartialEq.eq
    g.P.Value.Plain.is_value g.P.Value.Coded.coding g.P.Message.Plain.is_value g.P.Message.Coded.coding in
    let inside = c.self.inside in
    let before : Coordination _ _ _ _ _ = record { core = inside.core; calls = inside.calls; losses = inside.losses.items } in
    let p = c.args.partition in
    let part = c.in-Found.part in
    let new = g.S.Shelf.state c.load.new.shelf in
    let asked : Asked _ _ = record {
      run = c.run.result;
      rows = c.rows.result;
      missing = c.missing.result;
      program = own.program c.program.result.now;
      aggregators = aggregators_of c.registry.result.now;
    } in
    let now = subst (IsRunning own fated first new) (sym c.self.view_is)
    (running_got own fated first (g.S.Shelf.state c.args.shelf.now) new _ c.args.self.now c.load.ensures.got runs) in
    let mine = subst (λ (s : Coordination _ _ _ _ _). p < s.core.limits.partitions) (sym c.self.view_is) c.requires.inside in
    let at = subst (λ (s : Coordination _ _ _ _ _). saved_at p s.core.state ≡ Some c.args.place) (sym c.self.view_is) c.requires.saved in
    let place : part.part_run.place ≡ c.args.place = search rules in
    let rows : c.rows.result ≡ record { graph = inside.core.graph; partition = p; partitions = inside.core.limits.partitions } = search rules in
    let key : key_of c.rows.result.partition ≡ key_of p = ap (λ (r : PartRows). key_of r.partition) rows in
    let loaded = subst₂ (λ (k : List ℕ) (l : _). IsLoaded own.is_value own.value own.is_message own.message asked (at_key new k) l) key c.in-Found.is
    c.in_ok-loaded.ensures.loaded in
    subst (λ (s : Coordination _ _ _ _ _). IsFoundRight own first new s.core p (Some part)) c.self.view_is
    (found_right own fated first new before asked p c.args.place part now c.run.ensures rows (ap own.program (sym c.program.ensures))
    (sym (c.missing.ensures ∙ ap (λ (l : _). l.missing) c.limits-2.ensures)) (ap aggregators_of (sym c.registry.ensures)) mine at c.requires.later place loaded)
