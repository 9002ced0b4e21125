use Rattle.std.proofs.Common.{◌≡◌, ℕ, ◌++◌, ◌∷◌, [], true, length, set, None, Some, ap, sym, ◌∙◌, subst, subst₂, arith}
use Rattle.pg_core.specs.Losing.{HasSentAgain, IsOf, place_found, with_event}
use Rattle.pg_core.specs.Progress.{IsLawful, IsRight, job_of_core}
use Rattle.pg_core.proofs.Recovery.{IsLawful-restore, IsRight-restore, as_found_place, restored_within}
use Rattle.pg_core_machine.specs.Machine.{Reaches, after, first_state, is_allowed}
use Rattle.pg_core_machine.specs.declared.event.Event.TheVariants.{Restore}
use Rattle.pg_part.specs.Part.{HoldsShare}
use Rattle.pg_part.proofs.Resuming.{fresh_is_sent}
use Rattle.pg_core.proofs.Moved.{moved}
use Rattle.pg_core.proofs.running.Core.restore.Goals as goal

pub returns-clause-core : goal.returns-clause-core
returns-clause-core g c =
    let inside = c.self.inside in
    let core = c.args.self.now in
    let p = c.args.partition in
    let part = c.in_ok-part.part in
    let logs = c.send_again.new.logs in
    let found_at = as_found_place c.args.found part c.in_ok-part.ensures.found in
    record {
      part = part;
      as_found = c.in_ok-part.ensures.found;
      core_is = moved c.self.view_is c.restore.ensures c.in_ok-push.ensures.items c.put_part.ensures
          ∙ (ap (λ core. record (with_event (Restore p c.place-place.result) core) { parts = set core.parts p (Some part); logs = logs }) c.self.view_is
          ∙ ap (λ (r : ℕ). record (with_event (Restore p r) core) { parts = set core.parts p (Some part); logs = logs })
          (c.place-place.ensures ∙ sym found_at));
      logs = subst (λ core. HasSentAgain (g.C.MessageCombiner.combining core.combiner) core.limits.partitions p (place_found c.args.found)
          part.part_run.trace core.logs logs) c.self.view_is
          (subst₂ (λ (n r : ℕ). HasSentAgain (g.C.MessageCombiner.combining inside.combiner.now) n p r part.part_run.trace inside.logs logs)
          (c.in_ok-part.ensures.own.partitions_are ∙ ap (λ core. core.limits.partitions) (sym c.self.view_is)) (sym found_at)
          c.in_ok-send_again.ensures);
    }

pub returns-clause-right : goal.returns-clause-right
unfolding returns-clause-core
returns-clause-right g c kept right share =
    let inside = c.self.inside in
    let core = c.args.self.now in
    let p = c.args.partition in
    let part = c.in_ok-part.part in
    let job = job_of_core g.P.Computation.program g.C.MessageCombiner.combining g.M.MasterCompute.master core in
    let n = core.limits.partitions in
    let r = place_found c.args.found in
    let logs = c.send_again.new.logs in
    let events =
    subst (λ core. Reaches (first_state core.limits.partitions core.limits.workers) core.history core.state) c.self.view_is c.self.invariant.events in
    let each = subst (λ core. length core.parts ≡ core.limits.partitions) c.self.view_is c.self.invariant.each in
    let within = restored_within core.limits core.state core.history events p r c.requires.allowed in
    let found_at = as_found_place c.args.found part c.in_ok-part.ensures.found in
    let held = subst (λ (r : ℕ). HoldsShare job None core.graph n p r part) (sym found_at) (c.in_ok-part.ensures.share share) in
    let restored = returns-clause-core g c in
    subst (IsRight job kept) (sym restored.core_is)
    (IsRight-restore job kept core right events p r part logs c.requires.allowed (omega (arith, within, each)) held
    (λ s q before mine. fresh_is_sent job core.graph n p None r q s part _ held before (restored.logs.sent s q before mine)) restored.logs.others)

pub found_or_begun-requires-clause-inside : goal.found_or_begun-requires-clause-inside
found_or_begun-requires-clause-inside g c =
    let inside = c.self.inside in
    let core = c.args.self.now in
    let events =
    subst (λ core. Reaches (first_state core.limits.partitions core.limits.workers) core.history core.state) c.self.view_is c.self.invariant.events in
    λ κs lives. restored_within core.limits core.state core.history events c.args.partition (place_found c.args.found) c.requires.allowed

pub put_part-requires-after_bounds : goal.put_part-requires-after_bounds
put_part-requires-after_bounds g c =
    let inside = c.self.inside in
    let core = c.args.self.now in
    let events =
    subst (λ core. Reaches (first_state core.limits.partitions core.limits.workers) core.history core.state) c.self.view_is c.self.invariant.events in
    let within = restored_within core.limits core.state core.history events c.args.partition (place_found c.args.found) c.requires.allowed in
    let many = ap (λ core. core.limits.partitions) c.self.view_is in
    λ κs lives. omega (arith, within, c.self.invariant.each, many)

pub invariant_of-self-2 : goal.invariant_of-self-2
invariant_of-self-2 g c =
    let inside = c.self.inside in
    let declared = (g.P.Computation.program inside.program.now).declared in
    let registered = (g.M.MasterCompute.master inside.master.now).registrations in
    let p = c.args.partition in
    let part = c.in_ok-part.part in
    let found_at = as_found_place c.args.found part c.in_ok-part.ensures.found in
    let allowed =
    subst (λ core. is_allowed core.state (Restore p part.part_run.place) ≡ true) (sym c.self.view_is)
    (subst (λ (r : ℕ). is_allowed c.args.self.now.state (Restore p r) ≡ true) found_at c.requires.allowed) in
    let own = subst (λ (n : ℕ). IsOf n p part) (ap (λ core. core.limits.partitions) (sym c.self.view_is)) c.in_ok-part.ensures.own in
    subst (λ state. IsLawful inside.limits declared registered inside.registry state c.push.new.self.items c.put_part.new.parts.items
    inside.shown.items inside.run_totals) (sym c.restore.ensures)
    (subst (λ events. IsLawful inside.limits declared registered inside.registry (after inside.state (Restore p c.place-place.result)) events
    c.put_part.new.parts.items inside.shown.items inside.run_totals) (sym c.in_ok-push.ensures.items)
    (subst (λ parts. IsLawful inside.limits declared registered inside.registry (after inside.state (Restore p c.place-place.result))
    (inside.history.items ++ Restore p c.place-place.result ∷ []) parts inside.shown.items inside.run_totals) (sym c.put_part.ensures)
    (subst (λ (r : ℕ). IsLawful inside.limits declared registered inside.registry (after inside.state (Restore p r))
    (inside.history.items ++ Restore p r ∷ []) (set inside.parts.items p (Some part)) inside.shown.items inside.run_totals) (sym c.place-place.ensures)
    (IsLawful-restore c.self.invariant p part allowed own))))
