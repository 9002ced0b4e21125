-- The numbers of the faults of a line.
use Rattle.std.specs.Prelude.{ℕ}
use Rattle.pregeld_commands.specs.declared.command.LineFault.{LineFault}
use Rattle.pregeld_commands.specs.declared.command.LineFault.TheVariants.{NoCommand, WordCount, BadWord}
use Rattle.pregeld_commands.specs.declared.command.LineFault.TheVariants.{CutShort, EditsPending}

abbrev pub fault_number : LineFault → ℕ
fault_number NoCommand = 1
fault_number WordCount = 2
fault_number BadWord = 3
fault_number CutShort = 4
fault_number EditsPending = 5
