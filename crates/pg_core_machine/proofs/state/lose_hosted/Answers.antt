use Rattle.std.proofs.Common.{◌≡◌, ℕ, take, cond, get_or, set, None, ap, sym, ◌∙◌, add-one}
use Rattle.std.specs.Prelude.{◌==◌}
use Rattle.pg_core_machine.specs.Machine.{places_without}
use Rattle.pg_core_machine.proofs.LawsMachine.{without_next}
use Rattle.pg_core_machine.proofs.state.lose_hosted.Goals as goal

pub loop-index-preserved : goal.loop-index-preserved
loop-index-preserved c =
    let w = c.args.worker in
    let hosts = c.args.hosts.now in
    let places = c.args.places.now.items in
    let p : ℕ = c.loop-index.index in
    let host : ℕ = c.index-hosts-index.result in
    let so_far = c.loop-index.invariant.so_far in
    record {
      so_far =
          c.lose_if_hosted.ensures
          ∙ (λ i. cond (c.index-hosts-index.is i == w) (set (so_far i) p None) (so_far i))
          ∙ sym (without_next w hosts places p host c.loop-index-test.true)
          ∙ ap (λ (n : ℕ). places_without w (take n hosts) places) (sym (add-one p));
    }
