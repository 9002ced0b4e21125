-- A search is refused for want of memory alone: what its master registers is lawful, and is all
-- that its program has declared.
use Rattle.std.proofs.Common.{ℤ, ℕ, ◌≡◌, Result, Ok, Err, IfErr, Option, None, [], true, false}
use Rattle.std.proofs.Common.{refl, rules, subst, sym, true≢false, ◌∙◌}
use Rattle.std.specs.Prelude.{IsErrOf, IsSome}
use Rattle.pg_global.specs.Master.{is_registered}
use Rattle.pg_global.specs.Registry.{first_refusal, refusal_of}
use Rattle.pg_global.specs.declared.registry.RegisterFault.{RegisterFault}
use Rattle.pg_scratch.specs.declared.runner.RunFault.{RunFault}
use Rattle.pg_scratch.specs.declared.runner.RunFault.TheVariants.{Memory, Unregistered, Register}
use Rattle.example_widest.specs.Widest.{found, widest, widest_master}

pub lawful : first_refusal [] found ≡ None
unfolding first_refusal refusal_of
lawful = refl

pub all_registered : (source target : ℕ) (enough : ℤ)
    → is_registered (widest source target) (widest_master enough) ≡ true
all_registered source target enough = refl

pub only_memory : {T : Type 0} (source target : ℕ) (enough : ℤ) (result : Result T RunFault)
    → (IsErrOf result Register → IsSome (first_refusal [] found))
    → (IsErrOf result Unregistered → (first_refusal [] found ≡ None)
    × (is_registered (widest source target) (widest_master enough) ≡ false))
    → IfErr result (λ fault. fault ≡ Memory)
only_memory source target enough (Ok run) register unregistered = search rules
only_memory source target enough (Err Memory) register unregistered = refl
only_memory source target enough (Err Unregistered) register unregistered =
    absurd (true≢false (sym (all_registered source target enough) ∙ (unregistered refl).1))
only_memory source target enough (Err Register) register unregistered =
    let P : Option RegisterFault → Type 0 = λ o. IsSome o in
    absurd (true≢false (sym (subst P lawful (register refl))))
