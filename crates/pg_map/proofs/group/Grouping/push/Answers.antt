use Rattle.std.proofs.Common.{◌≡◌, ℕ, List, ◌++◌, ap, sym, subst, ◌∙◌}
use Rattle.std.proofs.lemmas.List.{append_assoc}
use Rattle.pg_map.specs.Chunks.{AreChunks, AreGroups, IsPart, all_of, entries_of, listed}
use Rattle.pg_map.specs.declared.group.Grouping.TheInside.{Inside}
use Rattle.pg_map.proofs.Cut.{all_push}
use Rattle.pg_map.proofs.InParts.{entries-push}
use Rattle.pg_map.proofs.group.Grouping.push.Goals as goal
use Rattle.pg_map.proofs.group.Grouping.push.Goals.{then-len-ge-FULL+in_ok-cut_group, else-len-ge-FULL}

abbrev viewed : {V : Type 0} → Inside V → List (ℕ × V)
viewed s = all_of s.made.items ++ entries_of s.chunks.items

abbrev AreKept : {V : Type 0} → Inside V → Type 0
AreKept s = AreGroups s.made.items × AreChunks s.chunks.items

pub invariant_of-self-2 : goal.invariant_of-self-2
invariant_of-self-2 g c =
    let now = c.if-len-ge-FULL.self-inside in
    let kept : AreKept now = elim c.if-len-ge-FULL.branch [
      | then-len-ge-FULL+in_ok-cut_group w ↦ subst AreKept (sym w.self-inside-is) (w.cut_group.ensures.groups, w.cut_group.ensures.chunks)
      | else-len-ge-FULL w ↦ subst AreKept (sym w.self-inside-is) c.self.invariant
    ] in (
      kept.0,
      subst AreChunks (sym c.in_ok-push.ensures.items)
          (all_push (λ p. IsPart p.first p.count (listed p)) now.chunks.items c.args.chunk kept.1 c.requires),
    )

pub returns : goal.returns
returns g c =
    let now = c.if-len-ge-FULL.self-inside in
    let chunk = c.args.chunk in
    let same : viewed now ≡ viewed c.self.inside = elim c.if-len-ge-FULL.branch [
      | then-len-ge-FULL+in_ok-cut_group w ↦ ap viewed w.self-inside-is ∙ w.in_ok-cut_group.ensures.entries
      | else-len-ge-FULL w ↦ ap viewed w.self-inside-is
    ] in
    ap (λ l. all_of now.made.items ++ entries_of l) c.in_ok-push.ensures.items
    ∙ ap (λ l. all_of now.made.items ++ l) (entries-push listed now.chunks.items chunk)
    ∙ sym (append_assoc (all_of now.made.items) (entries_of now.chunks.items) (listed chunk))
    ∙ ap (λ l. l ++ listed chunk) (same ∙ c.self.view_is)
