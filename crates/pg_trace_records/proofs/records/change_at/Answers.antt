use Rattle.std.proofs.Common.{ap, sym, ◌∙◌}
use Rattle.std.proofs.lemmas.List.{nil_from_length}
use Rattle.pg_map.specs.Entries.{value_at}
use Rattle.pg_trace_records.proofs.records.change_at.Goals as goal

pub returns-then-len-eq0 : goal.returns-then-len-eq0
returns-then-len-eq0 g c = ap (value_at c.args.id) (sym (nil_from_length c.args.changes.now (sym c.len.ensures.value ∙ c.if-len-eq0.true)))
