use Rattle.std.proofs.Common.{rules}
use Rattle.pregeld_args.proofs.arguments.combiner_option.Goals as goal

pub returns-clause-rule : goal.returns-clause-rule
returns-clause-rule c = (c.as_slice.result, search rules, search rules)
