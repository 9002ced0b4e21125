use Rattle.std.proofs.Common.{◌++◌, ap, drop, ◌∙◌, subst, sym, take}
use Rattle.std.proofs.lemmas.Grind.{flat_map-append}
use Rattle.std.proofs.lemmas.List.{take-append-drop}
use Rattle.pg_map.specs.Chunks.{AreChunks, AreGroups, IsPart, all_of, chunks_in, entries_of, grouped, listed}
use Rattle.pg_map.proofs.Cut.{all_front, all_later, all_push, cut_leaves, cut_whole}
use Rattle.pg_map.proofs.InParts.{cut_keeps}
use Rattle.pg_map.proofs.group.cut_group.Goals as goal

pub returns-clause-entries : goal.returns-clause-entries
returns-clause-entries g c =
    let made = c.args.made.now.items in
    let chunks = c.replace.result.items in
    let n = c.args.count in
    let whole = ap (λ l. entries_of (take n chunks) ++ entries_of l) c.in_ok-front.ensures.others
    ∙ sym (flat_map-append listed (take n chunks) (drop n chunks)) ∙ ap entries_of (take-append-drop n chunks) in
    cut_keeps grouped made c.push.new.self.items c.in_ok-group_of.field-0 (entries_of chunks) (entries_of (take n chunks))
    (entries_of c.in_ok-front.later.items)
    c.in_ok-push.ensures.items (c.in_ok-group_of.ensures.entries ∙ ap entries_of c.in_ok-front.ensures.front) whole
    ∙ ap (λ v. all_of made ++ entries_of v.items) c.replace.ensures.value

pub group_of-requires-clause-chunks : goal.group_of-requires-clause-chunks
group_of-requires-clause-chunks g c =
    all_front (λ p. IsPart p.first p.count (listed p)) c.in_ok-front.front.items c.in_ok-front.later.items
    (subst AreChunks
    (sym (cut_whole c.replace.result.items _ _ c.args.count c.in_ok-front.ensures.front c.in_ok-front.ensures.others
    ∙ ap (λ v. v.items) c.replace.ensures.value))
    c.requires.chunks)

pub returns-clause-groups : goal.returns-clause-groups
returns-clause-groups g c =
    let group = c.in_ok-group_of.field-0 in
    let made = c.args.made.now.items in
    let part = subst (IsPart group.first group.count) (sym c.in_ok-group_of.ensures.entries) c.in_ok-group_of.ensures.part in
    subst AreGroups (sym c.in_ok-push.ensures.items) (
      all_push (λ p. IsPart p.first p.count (grouped p)) made group c.requires.groups.0 part,
      all_push (λ p. AreChunks (chunks_in p)) made group c.requires.groups.1 c.in_ok-group_of.ensures.chunks,
    )

pub returns-clause-chunks : goal.returns-clause-chunks
returns-clause-chunks g c =
    all_later (λ p. IsPart p.first p.count (listed p)) c.in_ok-front.front.items c.in_ok-front.later.items
    (subst AreChunks
    (sym (cut_whole c.replace.result.items _ _ c.args.count c.in_ok-front.ensures.front c.in_ok-front.ensures.others
    ∙ ap (λ v. v.items) c.replace.ensures.value))
    c.requires.chunks)

pub returns-clause-remaining : goal.returns-clause-remaining
returns-clause-remaining g c =
    cut_leaves c.args.chunks.now.items c.in_ok-front.later.items c.args.count c.requires.bound
    (c.in_ok-front.ensures.others ∙ ap (λ v. drop c.args.count v.items) c.replace.ensures.value)

pub returns-in_err-push-clause-groups : goal.returns-in_err-push-clause-groups
returns-in_err-push-clause-groups g c = subst AreGroups (sym c.in_err-push.ensures.items) c.requires.groups
