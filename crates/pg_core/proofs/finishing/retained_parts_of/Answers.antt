use Rattle.std.proofs.Common.{◌≡◌, ℕ, ◌+◌, [], ◌∷◌, ◌++◌, length, get_or, None, ap, sym, ◌∙◌, subst, arith, append_assoc}
use Rattle.std.proofs.lemmas.List.{length-append, length_push}
use Rattle.pg_core.proofs.RetainedPart.{get_or_at, left_more}
use Rattle.pg_core.specs.Traces.{HaveRetained}
use Rattle.pg_core.proofs.finishing.retained_parts_of.Goals as goal

pub loop-part-preserved : goal.loop-part-preserved
loop-part-preserved g c =
    let s = c.args.supersteps in
    let parts = c.args.parts.items in
    let before = c.loop-part.yielded in
    let part = c.in-Some.part in
    let rest = c.next.new.self.rest.items in
    let after = c.push.new.self.items in
    let whole_yet = append_assoc before (part ∷ []) rest ∙ (ap (λ l. before ++ l) (sym c.in-Some.ensures.steps.0) ∙ c.loop-part.invariant.whole) in
    let here =
    ap (λ l. get_or l (length before) None) (sym whole_yet ∙ append_assoc before (part ∷ []) rest) ∙ (get_or_at before rest part None ∙ c.unwrap.ensures) in
    record {
      whole = whole_yet;
      each =
          ap length c.in_ok-push.ensures.items
          ∙ (length_push c.loop-part.retained_parts.items c.in_ok-retained.retained ∙ (ap (λ (k : ℕ). k + 1) c.loop-part.invariant.each ∙ sym (length_push before part)));
      retained = subst (λ (m : ℕ). HaveRetained s parts m after) (sym (length_push before part))
          (left_more s parts c.loop-part.retained_parts.items after c.in_ok-retained.retained c.unwrap.result
          (length before) c.loop-part.invariant.each here c.loop-part.invariant.retained c.in_ok-push.ensures.items c.in_ok-retained.ensures);
    }

pub returns-clause-retained : goal.returns-clause-retained
returns-clause-retained g c =
    let rest = c.loop-part.part-iterator.rest in
    let counted = sym (length-append c.loop-part.yielded rest.items) ∙ ap length c.loop-part.invariant.whole in
    let all : length c.loop-part.yielded ≡ length c.args.parts.items = omega (arith, rest.ok.0, c.in-None.ensures.steps.0, counted) in
    subst (λ (m : ℕ). HaveRetained c.args.supersteps c.args.parts.items m c.loop-part.retained_parts.items) all c.loop-part.invariant.retained
