-- Hops from a source: what a vertex does in one superstep.
use Rattle.std.specs.Prelude.{ℕ, ◌==◌, nat_lt, Bool, true, cond, not, ◌&&◌, ◌||◌, [], ℤ, pos, negsuc}
use Rattle.std.specs.Ordering.{int_eq}
use Rattle.pregel.specs.Handed.{Inputs, Program, Record, is_empty, only_writes, to_all}

-- the value of a vertex that isn't reached, -1
abbrev pub far : ℤ
far = negsuc 0

-- the source and each vertex with a message are reached; the first time, the superstep is the number of hops
unfoldable pub hops_step : ℕ → ℕ → Inputs ℤ ℤ → Record ℤ ℤ
hops_step source most i =
    let superstep : ℕ = i.view.superstep in
    let is_reached : Bool = (i.id == source) || not (is_empty i.inbox) in
    let is_new : Bool = is_reached && int_eq i.value far in
    record {
      value = cond is_new (pos superstep) i.value;
      edges = i.edges;
      halted = true;
      sent = cond (is_new && nat_lt superstep most) (to_all (pos superstep) i.edges) [];
      contributed = [];
    }

abbrev pub hops_within : ℕ → ℕ → Program ℤ ℤ
hops_within source most =
    record { declared = only_writes 0; initial = λ id input. far; step = hops_step source most }
