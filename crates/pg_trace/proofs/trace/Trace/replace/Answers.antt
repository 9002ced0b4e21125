use Rattle.std.proofs.Common.{◌≡◌, ◌==◌, ℕ, ◌<◌, true, List, [], Option, length, set, sym, ap, ap₂, ◌∙◌, subst, arith}
use Rattle.std.proofs.lemmas.Bool.Decides.{nat_tests}
use Rattle.std.proofs.lemmas.List.{get_or_default, nil_from_length, set-get_or}
use Rattle.pg_map.specs.Entries.{ChangesRise, with_changes}
use Rattle.pg_trace_index.proofs.Last.{index_rises}
use Rattle.pg_trace_index.proofs.Noting.{index-set, stated_alike}
use Rattle.pg_model.specs.declared.record.Record.{Record}
use Rattle.pg_trace_records.specs.RecordChanges.{given_flags}
use Rattle.pg_trace_records.proofs.Changed.{stated_rise}
use Rattle.pg_trace.specs.Trace.{Trace, records_of, with_replaced}
use Rattle.pg_trace.proofs.trace.Trace.replace.Goals as goal

module _ {V M : Type 0} where
  none_replaced : (s : ℕ) (trace : Trace V M) → trace ≡ with_replaced s [] trace
  none_replaced s trace = ap (λ l. record trace { records = l }) (sym (set-get_or trace.records s []))

  one_replaced : (s n : ℕ) (changes : List (ℕ × Option (Record V M))) {before now : Trace V M} {new : List (ℕ × Record V M)} → before ≡ now → n ≡ s
      → new ≡ with_changes changes (records_of n before) → record before { records = set before.records n new } ≡ with_replaced s changes now
  one_replaced s n changes {before} same number made =
      ap (λ l. record before { records = set before.records n l }) made
      ∙ ap (λ k. with_replaced k changes before) number ∙ ap (with_replaced s changes) same

zero_from_test : (n : ℕ) → true ≡ (n == 0) → n ≡ 0
zero_from_test n test = grind (arith, nat_tests, test)

pub noted_warm-requires-clause-rise : goal.noted_warm-requires-clause-rise
noted_warm-requires-clause-rise g c =
    stated_rise c.as_slice.result.now c.args.changes.items
    (ap given_flags c.as_slice.ensures.value ∙ c.in_ok-places.ensures ∙ ap given_flags c.in_ok-changes.ensures) c.requires.rise

pub noted_warm-requires-clause-steps : goal.noted_warm-requires-clause-steps
noted_warm-requires-clause-steps g c = index_rises c.self.inside.supersteps.items c.self.inside.ran c.self.invariant

pub changed-requires : goal.changed-requires
changed-requires g c = subst (λ l. ChangesRise l) (sym c.in_ok-changes.ensures) c.requires.rise

pub invariant_of-self : goal.invariant_of-self
invariant_of-self g c =
    let rs = c.self.inside.supersteps.items in
    let n = c.number-number.result in
    let r = c.index.result.now in
    let given = c.as_slice.result.now in
    let changes = c.args.changes.items in
    let within : n < length rs = let w = c.requires.within in let e = c.number-number.ensures in let v = ap
    (λ t. length t.records) c.self.view_is in omega (arith, w, e, v) in
    let made = c.in_ok-records.ensures.records ∙ ap (λ l. with_changes l r) c.in_ok-changes.ensures in
    index-set rs n r c.in_ok-records.records given changes c.self.inside.ran c.in_ok-ran.ran within c.index.ensures
    c.in_ok-records.ensures.rising c.requires.rise
    (stated_alike given changes (ap given_flags c.as_slice.ensures.value ∙ c.in_ok-places.ensures ∙ ap given_flags c.in_ok-changes.ensures))
    made c.self.invariant c.in_ok-ran.ensures

pub returns-then-is_empty-clause-ok : goal.returns-then-is_empty-clause-ok
returns-then-is_empty-clause-ok g c =
    let changes = c.args.changes in
    none_replaced c.args.superstep c.args.self.now
    ∙ ap (λ l. with_replaced c.args.superstep l c.args.self.now)
    (sym (nil_from_length changes.items (sym changes.ok.0 ∙ zero_from_test changes.len c.if-is_empty.ensures)))

pub returns-clause-ok : goal.returns-clause-ok
returns-clause-ok g c =
    let rs = c.self.inside.supersteps.items in
    let n = c.number-number.result in
    let number = c.number-number.ensures in
    let within : n < length rs = let w = c.requires.within in let e = number in let v = ap
    (λ t. length t.records) c.self.view_is in omega (arith, w, e, v) in
    one_replaced c.args.superstep n c.args.changes.items c.self.view_is number
    (c.in_ok-records.ensures.records ∙ ap₂ with_changes c.in_ok-changes.ensures (c.index.ensures ∙ get_or_default rs n c.index.result.now [] within))
