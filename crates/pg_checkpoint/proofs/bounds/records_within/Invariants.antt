use Rattle.std.proofs.Common.{◌≡◌, ◌++◌, length, map}
use Rattle.pg_checkpoint.specs.Bounds.{MayHoldFrom}
use Rattle.pg_checkpoint.specs.Contents.{records_of}
use Rattle.pg_checkpoint.proofs.bounds.records_within.Given as goal

abbrev pub invariant-loop-parts : goal.invariant-loop-parts
invariant-loop-parts g l = record {
  whole : l.yielded ++ l.parts-iterator.rest.items ≡ l.fn.supersteps;
  count : l.number ≡ length l.yielded;
  made : map (λ x. x.items) l.records ≡ records_of l.yielded;
  held : MayHoldFrom l.bounds 0 (records_of l.yielded);
}
