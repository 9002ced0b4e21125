use Rattle.std.proofs.Common.{◌≡◌, ◌++◌, ◌∷◌, ◌≤◌, [], ap, ap₂, drop, length, map, refl, subst, sym, take, ◌∙◌}
use Rattle.pg_map.proofs.Cut.{cut_leaves}
use Rattle.pg_map.proofs.Moved.{first_of_rest, moved_one}
use Rattle.pg_inbox_messages.specs.Grouping.{groups_of, run_len}
use Rattle.pg_inbox_messages.proofs.Grouping.{first_group_is, run_within}
use Rattle.pg_inbox.specs.Inboxes.{inboxes_of, received_of}
use Rattle.pg_inbox.proofs.receivers.with_first.Goals as goal

pub split_at-requires : goal.split_at-requires
split_at-requires g c = subst (λ n. n ≤ length c.args.message_lists.now) (sym c.run_len-count.ensures) (run_within _ c.args.message_lists.now)

pub returns-clause-more : goal.returns-clause-more
returns-clause-more g c =
    let combining = g.C.MessageCombiner.combining c.args.combiner.now in
    let made = inboxes_of combining in
    let items = c.args.message_lists.now in
    let first = c.index-message_lists-0.result in
    let n = c.run_len-count.result in
    let counted : n ≡ run_len first.0 items = c.run_len-count.ensures ∙ ap (λ e. run_len e.0 items) (sym c.index-message_lists-0.is) in
    let within : n ≤ length items = subst (λ n. n ≤ length items) (sym counted) (run_within first.0 items) in
    let group = first_group_is items first (drop 1 items) (take n items) (drop n items) n (first_of_rest items 0 c.requires.some c.index-message_lists-0.is) counted refl refl
    (cut_leaves items (drop n items) n within refl) in
    moved_one c.args.inboxes (made (groups_of (drop n items))) (ap made group.groups) refl
    (c.in_ok-more.ensures
    ∙ ap₂ (λ t i. c.args.inboxes ++ (t, i) ∷ []) (ap (λ e. e.0) (sym c.index-message_lists-0.is))
    (c.in_ok-inbox.ensures.inbox ∙ ap (λ h. received_of combining (map (λ p. p.1) h)) c.split_at.ensures.front))
