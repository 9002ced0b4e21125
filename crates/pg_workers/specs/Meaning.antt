-- What the types of a run mean.
use Rattle.std.specs.Prelude.{ℕ, Bool, List, Option}
use Rattle.pg_core.specs.Progress.{Progress, job_of_core}
use Rattle.pg_global.specs.Master.{Master}
use Rattle.pg_model.specs.Job.{Combining, Job, Program}

-- what a program, a combiner and a master mean, when two values or messages are equal, which of them there are, and
-- their bytes
pub record Meaning (P C A V M : Type 0) : Type 1 where
  pub program : P → Program V M
  pub combining : C → Option (Combining M)
  pub master : A → Master
  pub value_eq : V → V → Bool
  pub message_eq : M → M → Bool
  pub is_value : V → Type 0
  pub value : V → List ℕ
  pub is_message : M → Type 0
  pub message : M → List ℕ

abbrev pub meaning : {P C A V M : Type 0} → (P → Program V M) → (C → Option (Combining M)) → (A → Master)
    → (V → V → Bool) → (M → M → Bool)
    → (V → Type 0) → (V → List ℕ) → (M → Type 0) → (M → List ℕ) → Meaning P C A V M
meaning program combining master value_eq message_eq is_value value is_message message = record {
  program = program;
  combining = combining;
  master = master;
  value_eq = value_eq;
  message_eq = message_eq;
  is_value = is_value;
  value = value;
  is_message = is_message;
  message = message;
}

-- the job of a run
abbrev pub job_of_meaning : {P C A V M : Type 0} → Meaning P C A V M → Progress P C A V M → Job V M
job_of_meaning own core = job_of_core own.program own.combining own.master core
