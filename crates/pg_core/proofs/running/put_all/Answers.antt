use Rattle.std.proofs.Common.{◌≡◌, ℕ, ◌+◌, cond, Some, ap, sym, ◌∙◌, subst}
use Rattle.std.proofs.lemmas.List.{length_push}
use Rattle.pg_core.proofs.Putting.{HasPut-more}
use Rattle.pg_inbox.specs.LoggedBundle.{is_pair, slot_at}
use Rattle.pg_core.proofs.running.put_all.Goals as goal

pub loop-logged-preserved : goal.loop-logged-preserved
loop-logged-preserved g c = record {
  to_is = ap (λ (k : ℕ). k + 1) c.loop-logged.invariant.to_is ∙ sym (length_push c.loop-logged.yielded c.in-Some.logged);
  put = HasPut-more c.args.superstep c.args.from c.loop-logged.yielded c.in-Some.logged c.args.logs.now
      c.loop-logged.logs c.put.new.self c.loop-logged.invariant.put
      (λ t other q. subst (λ (to : ℕ). slot_at c.put.new.self t other q ≡ cond (is_pair c.args.superstep c.args.from to t other q)
      (Some c.in-Some.logged) (slot_at c.loop-logged.logs t other q))
      (c.new.ensures ∙ c.loop-logged.invariant.to_is) (c.in_ok-put.ensures.ok t other q));
}
