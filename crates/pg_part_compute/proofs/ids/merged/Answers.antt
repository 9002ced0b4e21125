use Rattle.std.proofs.Common.{◌==◌, ap, sym, ◌∙◌}
use Rattle.std.proofs.lemmas.List.Sorted.{list_any-IsPermutation}
use Rattle.pg_model.specs.Superstep.{has_id}
use Rattle.pg_part_compute.proofs.ids.merged.Goals as goal

pub returns : goal.returns
returns c id =
    sym (list_any-IsPermutation (λ other. other == id) c.in_ok-all.all.items c.sort.new.self.items c.in_ok-sort.ensures.permutation)
    ∙ ap (λ l. has_id l id) c.in_ok-all.ensures
