use Rattle.std.specs.List.{AllWithin}
use Rattle.pg_program.proofs.plain.SequencePlain.fits.Given as goal

abbrev pub invariant-loop-item : goal.invariant-loop-item
invariant-loop-item g l = AllWithin g.T.Plain.is_value l.items 0 l.item-index
