use Rattle.std.proofs.Common.{◌++◌, ap, sym, ◌∙◌}
use Rattle.std.proofs.lemmas.Result.{IfOk-weaker}
use Rattle.pg_model.specs.Superstep.{has_id}
use Rattle.pg_inbox.proofs.Among.{in_neither}
use Rattle.pg_part_compute.proofs.changed.add_unhalted.Goals as goal

pub returns : goal.returns
returns g c =
    let before = c.args.ids.now.items in
    let unhalted = c.in_ok-unhalted.unhalted.items in
    IfOk-weaker c.add_all.result _ _ (λ done is id other.
    let parts = in_neither before unhalted c.add_all.new.ids.items (is ∙ ap (λ l. before ++ l) c.as_slice.ensures.value) id other in
    (parts.0, λ same_view. sym (ap (λ l. has_id l id) c.in_ok-unhalted.ensures.ids) ∙ parts.1)) c.add_all.ensures
