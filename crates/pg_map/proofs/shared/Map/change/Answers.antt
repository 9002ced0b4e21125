use Rattle.std.proofs.Common.{sum_by, sym, ap, ◌∙◌, subst}
use Rattle.pg_map.specs.Chunks.{all_of, groups_of}
use Rattle.pg_map.specs.Entries.{HasRisingIds, with_changes}
use Rattle.pg_map.proofs.Changing.{rises-changes}
use Rattle.pg_map.proofs.InParts.{sound_of}
use Rattle.pg_map.proofs.shared.Map.change.Goals as goal

pub invariant_of-self : goal.invariant_of-self
invariant_of-self g c =
    let made = c.in_ok-made.made.items in
    let is = c.in_ok-made.ensures.entries ∙ ap (λ l. with_changes c.args.changes.now (all_of l)) c.as_slice.ensures in
    let rising = subst HasRisingIds (sym is) (rises-changes c.args.changes.now (all_of (groups_of c.self.inside.groups)) c.self.invariant.rise) in
    sound_of _ made _ c.in_ok-self-inside.ensures c.in_ok-made.ensures.groups rising
    (c.in_ok-count.ensures ∙ ap (sum_by (λ p. p.count)) c.as_slice-2.ensures.value)

pub returns-clause-rising : goal.returns-clause-rising
returns-clause-rising g c = (invariant_of-self g c).rise
