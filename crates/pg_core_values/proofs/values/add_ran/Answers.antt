use Rattle.std.proofs.Common.{◌≡◌, ℕ, List, ◌+◌, ◌-◌, ◌≤◌, ◌++◌, ap, ap₂, sym, ◌∙◌, append_assoc, flat_map, arith}
use Rattle.std.specs.List.{range_with_len}
use Rattle.std.specs.Map.{keys_of}
use Rattle.pg_part.proofs.Handed.{flat_map-range_from}
use Rattle.pg_core_values.specs.Values.{ran_between}
use Rattle.pg_trace.specs.Trace.{records_of}
use Rattle.pg_core_values.proofs.values.add_ran.Goals as goal

pub loop-place-preserved : goal.loop-place-preserved
loop-place-preserved g c =
    let trace = c.args.trace.now in
    let keys : ℕ → List ℕ = λ t. keys_of (records_of t trace) in
    let from = c.args.from in
    let s = c.loop-place.place in
    let before = c.args.ids.now.items in
    let low : from ≤ s = omega arith in
    let one_more : s + 1 - from ≡ s - from + 1 = omega (arith, low) in
    let last : from + (s - from) ≡ s = omega (arith, low) in
    let these = ap keys_of (c.as_slice.ensures.value ∙ c.in_ok-records.ensures.records) ∙ ap keys c.new.ensures in
    record {
      so_far = c.in_ok-add_keys.ensures
          ∙ (ap₂ ◌++◌ c.loop-place.invariant.so_far these
          ∙ (append_assoc before (ran_between from s trace) (keys s)
          ∙ ap (λ l. before ++ l)
          (ap (λ k. ran_between from s trace ++ keys k) (sym last)
          ∙ (sym (flat_map-range_from keys from (s - from)) ∙ ap (λ k. flat_map keys (range_with_len from k)) (sym one_more)))));
      most = omega (arith, low);
    }

pub returns : goal.returns
returns g c =
    let trace = c.args.trace.now in
    let from = c.args.from in
    let all : c.loop-place.place - from ≡ c.args.to - from = omega (arith, c.loop-place-test.false, c.loop-place.invariant.most) in
    c.loop-place.invariant.so_far
    ∙ ap (λ (k : ℕ). c.args.ids.now.items ++ flat_map (λ t. keys_of (records_of t trace)) (range_with_len from k)) all
