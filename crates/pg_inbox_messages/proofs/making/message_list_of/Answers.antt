use Rattle.std.proofs.Common.{◌==◌, ap, length, ◌∙◌}
use Rattle.std.proofs.lemmas.List.{length-map}
use Rattle.pg_inbox_messages.proofs.making.message_list_of.Goals as goal

pub of-requires-after_bounds : goal.of-requires-after_bounds
of-requires-after_bounds g c κs within =
    (ap (λ n. n == 0) (ap length c.in_ok-copied.ensures.envelopes ∙ length-map _ _) ∙ c.requires, c.in_ok-copied.ensures.values)
