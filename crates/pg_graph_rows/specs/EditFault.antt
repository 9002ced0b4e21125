-- The fault of no edit.
use Rattle.pg_graph_rows.specs.declared.edit.EditFault.{EditFault}
use Rattle.pg_graph_rows.specs.declared.edit.EditKind.TheVariants.{Memory}

-- out of memory, which is no edit's fault
abbrev pub memory_fault : EditFault
memory_fault = record { position = 0; kind = Memory }
