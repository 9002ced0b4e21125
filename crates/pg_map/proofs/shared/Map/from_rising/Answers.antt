use Rattle.std.proofs.Common.{◌≡◌, List, [], ◌∷◌, ◌++◌, ap, sum_by, sym, ◌∙◌, subst}
use Rattle.std.proofs.lemmas.List.{append-nil, append_assoc, nil_from_length}
use Rattle.pg_map.specs.Chunks.{all_of}
use Rattle.pg_map.specs.Entries.{HasRisingIds}
use Rattle.pg_map.proofs.InParts.{sound_of}
use Rattle.pg_map.proofs.shared.Map.from_rising.Goals as goal

all_gathered : {X : Type 0} (made gathering remaining entries : List X) → made ≡ gathering → remaining ≡ [] → gathering ++ remaining ≡ entries → made ≡ entries
all_gathered made gathering remaining entries is none all =
    is ∙ sym (append-nil gathering) ∙ sym (ap (λ l. gathering ++ l) none) ∙ all

pub loop-id-preserved : goal.loop-id-preserved
loop-id-preserved g c =
    let gathering = c.loop-id.gathering in
    let rest = c.next.new.self.rest.items in
    ap (λ l. l ++ rest) c.in_ok-push.ensures
    ∙ append_assoc gathering ((c.in-Some.id, c.in-Some.value) ∷ []) rest
    ∙ sym (ap (λ l. gathering ++ l) c.in-Some.ensures.steps.0)
    ∙ c.loop-id.invariant

pub invariant_of-result : goal.invariant_of-result
invariant_of-result g c =
    let made = c.in_ok-made.made.items in
    let remaining = c.loop-id.id-iterator.rest in
    let over = nil_from_length remaining.items (sym remaining.ok.0 ∙ c.in-None.ensures.steps.0) in
    let is = all_gathered (all_of made) c.loop-id.gathering remaining.items _ c.in_ok-made.ensures.entries over c.loop-id.invariant in
    sound_of _ made _ c.in_ok-groups.ensures c.in_ok-made.ensures.groups (subst HasRisingIds (sym is) c.requires)
    (c.in_ok-count.ensures ∙ ap (sum_by (λ p. p.count)) c.as_slice.ensures.value)

pub returns : goal.returns
returns g c =
    let made = c.in_ok-made.made.items in
    let remaining = c.loop-id.id-iterator.rest in
    let over = nil_from_length remaining.items (sym remaining.ok.0 ∙ c.in-None.ensures.steps.0) in
    ap all_of c.in_ok-groups.ensures
    ∙ all_gathered (all_of made) c.loop-id.gathering remaining.items _ c.in_ok-made.ensures.entries over c.loop-id.invariant
