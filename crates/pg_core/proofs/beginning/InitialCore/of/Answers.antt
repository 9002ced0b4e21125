use Rattle.std.proofs.Common.{◌≡◌, ℕ, ◌≤◌, map, length, All, ap, sym, ◌∙◌, subst}
use Rattle.std.proofs.lemmas.List.{length-map}
use Rattle.std.proofs.lemmas.Simd.{map-map}
use Rattle.pg_core_machine.specs.Machine.{first_state}
use Rattle.pg_core.proofs.beginning.InitialCore.of.Goals as goal
use Rattle.pg_global.specs.Registry.{aggregating_of}

pub returns : goal.returns
returns g c =
    let master = g.M.MasterCompute.master c.args.master.now in
    let registry_is = c.in_ok-registry.ensures in
    let many = ap length c.in_ok-gathered.ensures.value ∙ (length-map _ _ ∙ ap length registry_is) in
    record {
      rising = c.in_ok-shown.ensures.rising;
      limits_are = c.partitions.ensures.are;
      registry_is = registry_is;
      few = subst (λ (n : ℕ). n ≤ 16) (ap length registry_is) c.in_ok-gathered.ensures.few;
      state_is = c.in_ok-state.ensures ∙ (λ i. first_state (c.partitions.ensures.value i) (c.workers.ensures.value i));
      run_totals_is = (λ i. record {
        gathered =
            (c.in_ok-gathered.ensures.value ∙
            (ap (map (λ e. (aggregating_of e.1).initial)) registry_is ∙ sym (map-map (λ a. a.initial) (λ e. aggregating_of e.1) master.registrations))) i;
        sent = 0;
        dropped = 0;
      });
      shown_is = c.in_ok-shown.ensures.value;
      places = subst (λ (n : ℕ). All (λ v. length v.values ≡ n) c.in_ok-shown.shown.items) many c.in_ok-shown.ensures.places;
    }
