use Rattle.std.proofs.Common.{◌++◌, ap, ◌∙◌}
use Rattle.std.specs.Map.{keys_of}
use Rattle.pg_model.proofs.LawsListed.{ordered-rising, ordered-same}
use Rattle.pg_trace_records.proofs.Changed.{not_first, not_second}
use Rattle.pg_trace_records.proofs.records.ids_of_both.Goals as goal

pub returns-clause-rise : goal.returns-clause-rise
returns-clause-rise g c =
    ordered-rising c.add_ids.new.ids.items c.sort.new.self.items c.dedup.new.self.items
    c.in_ok-sort.ensures.permutation c.dedup.ensures.filtered c.in_ok-sort.ensures.sorted

pub returns-clause-given : goal.returns-clause-given
returns-clause-given g c id none =
    let ids = c.add_ids.new.ids.items in
    let all = c.in_ok-add_ids.ensures ∙ ap (λ l. l ++ keys_of c.args.changes.now) (c.in_ok-add_given_ids.ensures
    ∙ ap (λ l. l ++ keys_of c.args.given.now) c.in_ok-ids.ensures.items) in
    not_first c.args.given.now c.args.changes.now ids c.dedup.new.self.items all
    (ordered-same ids c.sort.new.self.items c.dedup.new.self.items c.in_ok-sort.ensures.permutation c.dedup.ensures.filtered) id none

pub returns-clause-changes : goal.returns-clause-changes
returns-clause-changes g c id none =
    let ids = c.add_ids.new.ids.items in
    let all = c.in_ok-add_ids.ensures ∙ ap (λ l. l ++ keys_of c.args.changes.now) (c.in_ok-add_given_ids.ensures
    ∙ ap (λ l. l ++ keys_of c.args.given.now) c.in_ok-ids.ensures.items) in
    not_second c.args.given.now c.args.changes.now ids c.dedup.new.self.items all
    (ordered-same ids c.sort.new.self.items c.dedup.new.self.items c.in_ok-sort.ensures.permutation c.dedup.ensures.filtered) id none
