use Rattle.std.proofs.Common.{◌≡◌, ◌+◌, ◌<◌, ℕ, List, [], ◌∷◌, ◌++◌, Option, option_map, length, get_or, take, ap, sym, ◌∙◌}
use Rattle.std.proofs.lemmas.List.{map-append, take_all, take_more}
use Rattle.pg_part.specs.Part.{PartState}
use Rattle.pg_trace.specs.Trace.{Trace}
use Rattle.pg_core_values.specs.Values.{traces_of}
use Rattle.pg_core_values.proofs.values.all_states.Goals as goal

module _ {V M : Type 0} where
  traces_of-more : (parts : List (Option (PartState V M))) (i : ℕ) {part : Option (PartState V M)} {before after : List (Option (Trace V M))}
      → i < length parts → part ≡ get_or parts i part → before ≡ traces_of (take i parts)
      → after ≡ before ++ option_map (λ p. p.part_run.trace) part ∷ [] → after ≡ traces_of (take (i + 1) parts)
  traces_of-more parts i {part} within is so_far pushed =
      pushed ∙ ap (λ l. l ++ traces_of (part ∷ [])) so_far
      ∙ sym (map-append (option_map (λ (p : PartState V M). p.part_run.trace)) (take i parts) (part ∷ []))
      ∙ ap traces_of (ap (λ p. take i parts ++ p ∷ []) is ∙ sym (take_more parts i part within))

pub loop-part-preserved : goal.loop-part-preserved
loop-part-preserved g c =
    traces_of-more c.args.parts.now c.loop-part.part-index c.loop-part-test.true c.part-item.is c.loop-part.invariant
    (c.in_ok-push.ensures.items ∙ ap (λ t. c.loop-part.states.items ++ t ∷ []) c.states_of.ensures)

pub returns : goal.returns
returns g c = c.loop-part.invariant ∙ ap traces_of (take_all c.loop-part.part-index c.args.parts.now c.loop-part-test.false)
