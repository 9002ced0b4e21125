use Rattle.std.proofs.Common.{◌≡◌, ℕ, ◌+◌, List, [], ◌∷◌, ◌++◌, length, None, ap, sym, ◌∙◌, subst, arith}
use Rattle.std.proofs.lemmas.List.{length_push}
use Rattle.pg_core.specs.Beginning.{HasBegun, IsHereFirst}
use Rattle.pg_core.proofs.Opening.{first_of, one_more}
use Rattle.pg_part.specs.Handed.{PartRows}
use Rattle.pg_part.specs.Part.{HoldsShare}
use Rattle.pg_core.proofs.beginning.begun_parts.Goals as goal

pushed_length : {X : Type 0} (before after : List X) (x : X) (n : ℕ) → after ≡ before ++ x ∷ [] → length before ≡ n → length after ≡ n + 1
pushed_length before after x n pushed many = ap length pushed ∙ (length_push before x ∙ ap (λ (k : ℕ). k + 1) many)

pub loop-partition-preserved : goal.loop-partition-preserved
loop-partition-preserved g c =
    let n = c.args.limits.partitions in
    let part = c.in_ok-begin.field-0 in
    let rows_are = c.rows-rows.ensures ∙ (λ i. record {
      graph = c.args.graph.now;
      partition = c.new.ensures i;
      partitions = c.partitioner_of-partitioner.ensures.value i;
    }) in
    record {
      each = pushed_length _ _ _ _ c.in_ok-push.ensures.items c.loop-partition.invariant.each;
      first = one_more (IsHereFirst n) c.loop-partition.parts.items _ part c.loop-partition.partition c.loop-partition.invariant.each
          c.loop-partition.invariant.first c.in_ok-push.ensures.items
          (first_of c.rows-rows.result c.missing.result n c.loop-partition.partition part c.in_ok-begin.ensures.begins
          (ap (λ r. r.partitions) rows_are) (ap (λ r. r.partition) rows_are));
      begun = λ job e m a.
          one_more (HasBegun job None c.args.graph.now n) c.loop-partition.parts.items _ part c.loop-partition.partition c.loop-partition.invariant.each
          (c.loop-partition.invariant.begun job e m a) c.in_ok-push.ensures.items
          (subst (λ (r : PartRows). HoldsShare job None r.graph r.partitions r.partition 0 part) rows_are
          (c.in_ok-begin.ensures.holds job e (m ∙ sym c.missing.ensures) a));
    }

pub returns-clause-first : goal.returns-clause-first
returns-clause-first g c p within =
    c.loop-partition.invariant.first p
    (omega (arith, within, c.loop-partition-test.false, c.partitions-partition-end.ensures.value, c.partitioner_of-partitioner.ensures.value))

pub returns-clause-begun : goal.returns-clause-begun
returns-clause-begun g c job e m a p within =
    c.loop-partition.invariant.begun job e m a p
    (omega (arith, within, c.loop-partition-test.false, c.partitions-partition-end.ensures.value, c.partitioner_of-partitioner.ensures.value))
