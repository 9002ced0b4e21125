use Rattle.std.proofs.Common.{ℤ, ◌++◌, List, ◌∙◌, ap}
use Rattle.std.specs.Prelude.{◌&&◌}
use Rattle.std.specs.List.{enumerate_from}
use Rattle.pg_model.specs.Superstep.{gathered_from}
use Rattle.pg_stats.specs.GlobalStats.{aggregators_of}
use Rattle.pg_stats.proofs.Adding.{stats_of_all-push}
use Rattle.pg_stats.proofs.global_stats.GlobalStats.add.Goals as goal

pub returns-clause-ok : goal.returns-clause-ok
returns-clause-ok c =
    stats_of_all-push c.args.registry.now c.args.stats.now c.args.self.now _ (record {
      vertices = c.in-Some.ensures.1;
      edges = c.saturating_add-self.ensures;
      idle = ap (λ b. c.args.self.now.is_idle && b) c.is_idle.ensures;
      sent = c.saturating_add-self-2.ensures;
      dropped = c.saturating_add-self-3.ensures;
      gathered = λ visible contributed so_far.
          c.from_vec.ensures
          ∙ (c.aggregate_all.ensures visible contributed (c.into_vec-gathered.ensures ∙ (c.replace.ensures.value ∙ so_far))
          ∙ ap (λ (l : List ℤ). gathered_from 0 (aggregators_of c.args.registry.now) visible (contributed ++ enumerate_from 0 l)) c.as_slice.ensures);
    })
