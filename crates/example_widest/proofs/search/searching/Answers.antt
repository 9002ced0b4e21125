use Rattle.example_widest.proofs.OnlyMemory.{only_memory}
use Rattle.example_widest.proofs.search.searching.Goals as goal

pub returns-clause-memory : goal.returns-clause-memory
returns-clause-memory g c =
    let search = c.args.search.now in
    only_memory search.source search.target search.enough c.new.result
    c.new.ensures.register c.new.ensures.unregistered
