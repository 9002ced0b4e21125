use Rattle.std.proofs.Common.{◌≡◌, ◌<◌, ◌≤◌, ◌+◌, ◌-◌, None, length, take, sym, ap, ◌∙◌, subst, subst₂, arith}
use Rattle.std.specs.List.Sorted.{IsStrictlySortedBy}
use Rattle.std.specs.Map.{keys_of}
use Rattle.std.specs.Ordering.{nat_cmp}
use Rattle.std.proofs.lemmas.List.{take_all}
use Rattle.std.proofs.lemmas.Map.Made.{keys_of-map_values}
use Rattle.std.proofs.lemmas.Result.{IfOk-weaker}
use Rattle.pg_trace_index.specs.Occurrences.{IsIndex, IsNoted}
use Rattle.pg_trace_index.proofs.Last.{index_rises}
use Rattle.pg_trace_index.proofs.Noting.{index-less}
use Rattle.pg_trace.proofs.records.cut_index.Goals as goal

pub noted-requires-clause-rise : goal.noted-requires-clause-rise
noted-requires-clause-rise g c =
    subst (IsStrictlySortedBy nat_cmp) (sym (ap keys_of (c.as_slice.ensures.value ∙ c.in_ok-none.ensures.none)
    ∙ keys_of-map_values (λ x. None) c.index-supersteps-remaining.result)) c.none_given.ensures.rising

pub noted-requires-clause-steps : goal.noted-requires-clause-steps
noted-requires-clause-steps g c = index_rises (take c.loop-remaining.remaining c.args.supersteps.now) c.loop-remaining.first c.loop-remaining.invariant.index

pub loop-remaining-preserved : goal.loop-remaining-preserved
loop-remaining-preserved g c =
    let ss = c.args.supersteps.now in
    let remaining = c.loop-remaining.remaining in
    let within : remaining - 1 < length ss = omega (arith, c.loop-remaining-test.true, c.loop-remaining.invariant.high) in
    let one : remaining ≡ remaining - 1 + 1 = omega (arith, c.loop-remaining-test.true) in
    record {
      low = omega (arith, c.loop-remaining-test.true);
      high = omega (arith, within);
      index = index-less ss (remaining - 1) c.index-supersteps-remaining.result c.as_slice.result.now c.loop-remaining.first c.in_ok-first-2.first within
          c.index-supersteps-remaining.is (subst (λ n. IsIndex (take n ss) c.loop-remaining.first) one c.loop-remaining.invariant.index)
          (c.as_slice.ensures.value ∙ c.in_ok-none.ensures.none)
          (subst (λ n. IsNoted n c.as_slice.result.now c.loop-remaining.first c.in_ok-first-2.first) c.in_ok-checked_u32.ensures c.in_ok-first-2.ensures);
    }

pub loop-remaining-init : goal.loop-remaining-init
loop-remaining-init g c =
    let ss = c.args.supersteps.now in
    let all : length ss ≤ length ss = omega arith in
    record {
      low = c.requires.within;
      high = all;
      index = subst₂ (λ records ran. IsIndex records ran) (sym (take_all (length ss) ss all)) (sym c.in_ok-first.ensures) c.requires.index;
    }

pub returns : goal.returns
returns g c =
    let ss = c.args.supersteps.now in
    let first = c.loop-remaining.first in
    let end : c.loop-remaining.remaining ≡ c.args.len = omega (arith, c.loop-remaining-test.false, c.loop-remaining.invariant.low) in
    IfOk-weaker c.sealed.result _ _
    (λ after is. subst (λ ran. IsIndex (take c.args.len ss) ran) (sym is) (subst (λ n. IsIndex (take n ss) first) end c.loop-remaining.invariant.index))
    c.sealed.ensures
