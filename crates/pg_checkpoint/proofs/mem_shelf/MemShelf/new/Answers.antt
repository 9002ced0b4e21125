use Rattle.std.proofs.Common.{◌∙◌, ap}
use Rattle.pg_checkpoint.specs.Mem.{bytes_at}
use Rattle.pg_checkpoint.proofs.Entries.{stored_at}
use Rattle.pg_checkpoint.proofs.mem_shelf.MemShelf.new.Goals as goal

pub returns : goal.returns
returns c key = stored_at c.new.result.items key ∙ ap (bytes_at key) c.new.ensures.items
