-- A job: a program, a combiner, aggregators and a master, each as pure functions, what becomes of undeliverable
-- messages, and a limit.
use Rattle.std.specs.Prelude.{ℕ, ◌/◌, ◌%◌, ◌^◌, ◌==◌, Bool, List, Option, ℤ}
use Rattle.pg_graph.specs.Handed.{EdgeList}
use Rattle.pg_graph.specs.declared.missing.Missing.{Missing}
use Rattle.pg_model.specs.declared.record.Record.{Record}
use Rattle.pg_model.specs.declared.view.Declared.{Declared}
use Rattle.pg_model.specs.declared.view.View.{View}

-- what one execution reads (Pregel, section 3.1: the vertex, the messages sent to it, and the aggregates of the
-- superstep before)
pub record Inputs (V M : Type 0) : Type 0 where
  pub view : View
  pub id : ℕ
  pub value : V
  pub edges : EdgeList
  pub inbox : List M

-- a vertex program: what it has declared, the value that a vertex begins with, and one step
pub record Program (V M : Type 0) : Type 0 where
  pub declared : Declared
  pub initial : ℕ → ℤ → V
  pub step : Inputs V M → Record V M

-- how messages to one vertex are made into one (Pregel, section 3.2)
pub record Combining (M : Type 0) : Type 0 where
  pub combine : M → M → M
  pub initial : M

-- how contributions are made into one value (Pregel, section 3.3). A persistent aggregator goes on from what was
-- visible; any other starts each superstep from its initial value.
pub record Aggregating : Type 0 where
  pub aggregate : ℤ → ℤ → ℤ
  pub initial : ℤ
  pub persistent : Bool

-- the numbers of vertices and edges as a superstep begins
pub record Totals : Type 0 where
  pub vertices : ℕ
  pub edges : ℕ

-- what the master makes of a superstep: a value for each place, and whether the run ends with it
pub record Decision : Type 0 where
  pub values : List ℤ
  pub halt : Bool

-- the master's function of superstep, totals and gathered aggregates
abbrev pub Deciding : Type 0
Deciding = ℕ → Totals → List ℤ → Decision

pub record Job (V M : Type 0) : Type 0 where
  pub program : Program V M
  pub combining : Option (Combining M)
  pub aggregators : List Aggregating
  pub deciding : Deciding
  pub missing : Missing
  pub limit : ℕ

-- whether a set of places has a place
abbrev pub has_place : ℕ → ℕ → Bool
has_place places place = (places / 2 ^ place) % 2 == 1
