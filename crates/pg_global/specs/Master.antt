-- Masters, and the job that a program, a combiner and a master make.
use Rattle.std.specs.Prelude.{ℕ, ℤ, Bool, List, map, length, ◌==◌, ◌/◌, ◌^◌, ◌&&◌, Option}
use Rattle.pg_graph.specs.declared.missing.Missing.{Missing}
use Rattle.pg_model.specs.Job.{Program, Combining, Decision, Deciding, Job}
use Rattle.pg_model.specs.Programs.{decides_nothing}
use Rattle.pg_model.specs.declared.view.Declared.{Declared}
use Rattle.pg_global.specs.Registry.{Registered, aggregating_of}

-- a master: its aggregators, and its decisions
pub record Master : Type 0 where
  pub registrations : Registered
  pub deciding : Deciding

-- what a master works on
pub record MasterView : Type 0 where
  pub superstep : ℕ
  pub total_vertices : ℕ
  pub total_edges : ℕ
  pub values : List ℤ
  pub halt : Bool

-- the state as the master's decision leaves it
abbrev pub decided : Master → MasterView → MasterView
decided master state =
    let decision : Decision = master.deciding state.superstep
    (record { vertices = state.total_vertices; edges = state.total_edges }) state.values in
    record state { values = decision.values; halt = decision.halt }

-- a master that sets nothing and never halts
abbrev pub leaves_all : Registered → Master
leaves_all registrations = record { registrations = registrations; deciding = decides_nothing }

-- the job of a program, a combiner and a master, with a policy for undeliverable messages and a limit
abbrev pub job_of : {V M : Type 0} → Program V M → Option (Combining M) → Master → Missing → ℕ → Job V M
job_of program combining master missing limit = record {
  program = program;
  combining = combining;
  aggregators = map (λ e. aggregating_of e.1) master.registrations;
  deciding = master.deciding;
  missing = missing;
  limit = limit;
}

-- no place from n on is declared
abbrev pub has_places : Declared → ℕ → Bool
has_places declared n = (declared.reads / 2 ^ n == 0) && (declared.writes / 2 ^ n == 0)

-- each declared place is registered
abbrev pub is_registered : {V M : Type 0} → Program V M → Master → Bool
is_registered program master = has_places program.declared (length master.registrations)
