-- A ready program can always run with its master.
use Rattle.std.proofs.Common.{◌≡◌, Option, [], true≢false, sym, ◌∙◌, subst}
use Rattle.std.specs.Prelude.{false, IsSome}
use Rattle.pg_global.specs.Master.{is_registered}
use Rattle.pg_global.specs.Registry.{first_refusal}
use Rattle.pg_global.specs.declared.registry.RegisterFault.{RegisterFault}
use Rattle.pregeld_programs.proofs.Lawful.{all_registered, lawful}
use Rattle.pregeld_programs.specs.Ready.{master_of, program_of}
use Rattle.pregeld_programs.specs.declared.ready.ReadyProgram.{ReadyProgram}

pub registers : (p : ReadyProgram) → IsSome (first_refusal [] (master_of p).registrations) → ⊥
registers p refused =
    let P : Option RegisterFault → Type 0 = λ o. IsSome o in
    true≢false (sym (subst P (lawful p) refused))

pub declares : (p : ReadyProgram) → is_registered (program_of p) (master_of p) ≡ false → ⊥
declares p missing = true≢false (sym (all_registered p) ∙ missing)
