use Rattle.std.proofs.Common.{ℕ, ap, sym, ◌∙◌, subst₂}
use Rattle.pg_part.specs.Part.{HasMadeStep}
use Rattle.pg_stats.specs.GlobalStats.{aggregators_of}
use Rattle.pg_workers_rounds.proofs.working.step_one.Goals as goal

pub returns : goal.returns
returns g c = record {
  advanced = c.in_ok-part.ensures.advanced;
  stepped = λ job kept rows n p r program combining aggregators holds step_input warm.
      subst₂ (λ (x y : ℕ). HasMadeStep job g.P.Value.PartialEq.eq g.P.Message.PartialEq.eq kept rows n p r c.in_ok-part.part c.in_ok-part.sent x y)
      c.new-meter.ensures (sym c.count.ensures.value)
      (c.in_ok-part.ensures.stepped job kept rows n p r program combining
      (aggregators ∙ ap aggregators_of (sym c.registry.ensures))
      holds
      (rw (c.logs.ensures, c.visible.ensures.value) step_input)
      (rw (c.logs.ensures, c.old_logs.ensures, c.old_visible.ensures.value) warm));
}
