use Rattle.std.proofs.Common.{◌≡◌, ◌++◌, map}
use Rattle.std.specs.List.{AllByRecursion}
use Rattle.pg_checkpoint.specs.Bounds.{MayHold}
use Rattle.pg_checkpoint.specs.Contents.{record_of}
use Rattle.pg_checkpoint.proofs.bounds.superstep_within.Given as goal

abbrev pub invariant-loop-one : goal.invariant-loop-one
invariant-loop-one g l = record {
  whole : l.yielded ++ l.one-iterator.rest.items ≡ l.fn.parts;
  made : l.records ≡ map record_of l.yielded;
  each : AllByRecursion (MayHold l.bounds l.superstep) (map record_of l.yielded);
}
