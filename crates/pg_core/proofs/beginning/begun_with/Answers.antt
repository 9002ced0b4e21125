use Rattle.std.proofs.Common.{◌≡◌, ℕ, ◌+◌, [], ◌∷◌, ◌++◌, length, Some, ap, sym, ◌∙◌, subst, arith, append_assoc}
use Rattle.std.specs.List.{slice_get}
use Rattle.std.proofs.lemmas.List.{length-append, length_push}
use Rattle.pg_core.specs.Beginning.{HasBegun, IsHereFirst}
use Rattle.pg_core.proofs.Opening.{first_of, one_more, slice_get-between}
use Rattle.pg_core.specs.Traces.{HasRetained}
use Rattle.pg_part.specs.PartRun.{AreTouched}
use Rattle.pg_part.specs.Handed.{PartRows}
use Rattle.pg_part.specs.Part.{HoldsShare, IsRetained}
use Rattle.pg_stats.specs.MessageCounts.{AreMemberChanges}
use Rattle.pg_core.proofs.beginning.begun_with.Goals as goal

pub loop-retained-preserved : goal.loop-retained-preserved
loop-retained-preserved g c =
    let n = c.args.limits.partitions in
    let part = c.in_ok-part.part in
    let before = c.loop-retained.yielded in
    let retained = c.in-Some.retained in
    let rest = c.next.new.self.rest.items in
    let k = c.loop-retained.partition in
    let rows_are = c.rows-rows.ensures ∙ (λ i. record {
      graph = c.args.graph.now;
      partition = c.new.ensures i;
      partitions = c.partitioner_of-partitioner.ensures.value i;
    }) in
    let whole_yet : before ++ retained ∷ [] ++ rest ≡ c.args.retained_parts.items =
    append_assoc before (retained ∷ []) rest ∙ (ap (λ l. before ++ l) (sym c.in-Some.ensures.steps.0) ∙ c.loop-retained.invariant.whole) in
    let here =
    ap (λ l. slice_get l k) (sym whole_yet ∙ append_assoc before (retained ∷ []) rest)
    ∙ (ap (slice_get (before ++ retained ∷ rest)) c.loop-retained.invariant.partition_is ∙ slice_get-between before rest retained) in
    record {
      partition_is = ap (λ (k : ℕ). k + 1) c.loop-retained.invariant.partition_is ∙ sym (length_push before retained);
      whole = whole_yet;
      each = ap length c.in_ok-push.ensures.items ∙ (length_push c.loop-retained.parts.items (Some part) ∙ ap (λ (k : ℕ). k + 1) c.loop-retained.invariant.each);
      first = one_more (IsHereFirst n) c.loop-retained.parts.items _ part k c.loop-retained.invariant.each c.loop-retained.invariant.first c.in_ok-push.ensures.items
          (first_of c.rows-rows.result c.missing.result n k part c.in_ok-part.ensures.begins
          (ap (λ r. r.partitions) rows_are) (ap (λ r. r.partition) rows_are));
      begun = λ job kept e m a untouched moves whole.
          let begins =
          subst (λ (r : PartRows). IsRetained job kept r.partitions r.partition retained → AreTouched c.args.touched.now kept r.graph
          → AreMemberChanges c.args.member_changes.now kept r.graph → HoldsShare job (Some kept) r.graph r.partitions r.partition 0 part) rows_are
          (c.in_ok-part.ensures.holds job kept e (m ∙ sym c.missing.ensures) a) in
          one_more (HasBegun job (Some kept) c.args.graph.now n) c.loop-retained.parts.items _ part k c.loop-retained.invariant.each
          (c.loop-retained.invariant.begun job kept e m a untouched moves (λ p within. whole p (omega (arith, within)))) c.in_ok-push.ensures.items
          (begins (subst (HasRetained job kept n k) here (whole k (omega arith))) untouched moves);
    }

pub returns-clause-first : goal.returns-clause-first
returns-clause-first g c p within =
    let counted = sym (length-append c.loop-retained.yielded c.loop-retained.retained-iterator.rest.items) ∙ ap length c.loop-retained.invariant.whole in
    c.loop-retained.invariant.first p
    (omega (
      arith,
      within,
      c.loop-retained.retained-iterator.rest.ok.0,
      c.in-None.ensures.steps.0,
      counted,
      c.requires,
      c.loop-retained.invariant.partition_is,
    ))

pub returns-clause-begun : goal.returns-clause-begun
returns-clause-begun g c job kept e m a untouched moves whole p within =
    let rest = c.loop-retained.retained-iterator.rest in
    let counted = sym (length-append c.loop-retained.yielded rest.items) ∙ ap length c.loop-retained.invariant.whole in
    let all : c.loop-retained.partition ≡ c.args.limits.partitions =
    omega (arith, rest.ok.0, c.in-None.ensures.steps.0, counted, c.requires, c.loop-retained.invariant.partition_is) in
    c.loop-retained.invariant.begun job kept e m a untouched moves (λ p less. whole p (omega (arith, less, all))) p (omega (arith, within, all))
