-- What the ready master registers is lawful, and is what the programs have declared.
use Rattle.std.proofs.Common.{◌≡◌, true, None, refl, []}
use Rattle.pg_global.specs.Master.{is_registered}
use Rattle.pg_global.specs.Registry.{first_refusal, refusal_of}
use Rattle.pregeld_programs.specs.Ready.{program_of, master_of}
use Rattle.pregeld_programs.specs.declared.ready.ReadyProgram.{ReadyProgram}
use Rattle.pregeld_programs.specs.declared.ready.ReadyProgram.TheVariants.{Sssp, Cc, MaxValue, Indegree, Pagerank, Peel}

pub lawful : (p : ReadyProgram) → first_refusal [] (master_of p).registrations ≡ None
unfolding first_refusal refusal_of
lawful (Sssp p) = refl
lawful (Cc p) = refl
lawful (MaxValue p) = refl
lawful (Indegree p) = refl
lawful (Pagerank p) = refl
lawful (Peel p) = refl

pub all_registered : (p : ReadyProgram) → is_registered (program_of p) (master_of p) ≡ true
all_registered (Sssp p) = refl
all_registered (Cc p) = refl
all_registered (MaxValue p) = refl
all_registered (Indegree p) = refl
all_registered (Pagerank p) = refl
all_registered (Peel p) = refl
