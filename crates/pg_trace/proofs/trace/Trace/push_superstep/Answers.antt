use Rattle.std.proofs.Common.{◌++◌, ◌∷◌, [], length, refl, sym, ap, ◌∙◌, subst}
use Rattle.pg_map.specs.Entries.{ChangesRise, with_changes}
use Rattle.pg_trace_index.specs.Occurrences.{IsIndex, IsNoted}
use Rattle.pg_trace_index.proofs.Last.{index_rises}
use Rattle.pg_trace_index.proofs.Noting.{index-push, stated_alike}
use Rattle.pg_trace_records.specs.RecordChanges.{given_flags}
use Rattle.pg_trace_records.proofs.Changed.{each_some, given_some, some_rise, stated_rise}
use Rattle.pg_trace.proofs.Changed.{one_pushed}
use Rattle.pg_trace.proofs.trace.Trace.push_superstep.Goals as goal

pub noted_warm-requires-clause-rise : goal.noted_warm-requires-clause-rise
noted_warm-requires-clause-rise g c =
    stated_rise c.as_slice.result.now (each_some c.args.records.items)
    (ap given_flags c.as_slice.ensures.value ∙ c.in_ok-places.ensures ∙ ap given_flags c.in_ok-given.ensures) (some_rise c.args.records.items c.requires)

pub noted_warm-requires-clause-steps : goal.noted_warm-requires-clause-steps
noted_warm-requires-clause-steps g c = index_rises c.self.inside.supersteps.items c.self.inside.ran c.self.invariant

pub of-requires : goal.of-requires
of-requires g c = subst (λ l. ChangesRise l) (sym c.in_ok-given.ensures) (some_rise c.args.records.items c.requires)

pub invariant_of-self-2 : goal.invariant_of-self-2
invariant_of-self-2 g c =
    let rs = c.self.inside.supersteps.items in
    let xs = c.args.records.items in
    let given = c.as_slice.result.now in
    let new = c.in_ok-records.ensures ∙ ap (λ l. with_changes l []) c.in_ok-given.ensures ∙ given_some xs c.requires in
    let notes : IsNoted (length rs) given c.self.inside.ran c.in_ok-ran.ran =
    subst (λ n. IsNoted n given c.self.inside.ran c.in_ok-ran.ran) (c.in_ok-superstep.ensures ∙ c.len.ensures ∙ c.self.inside.supersteps.ok.0) c.in_ok-ran.ensures in
    let alike = stated_alike given (each_some xs) (ap given_flags c.as_slice.ensures.value ∙ c.in_ok-places.ensures ∙ ap given_flags c.in_ok-given.ensures) in
    subst (λ l. IsIndex l c.in_ok-ran.ran) (sym (c.in_ok-push.ensures.items ∙ ap (λ r. rs ++ r ∷ []) new))
    (index-push rs xs given (each_some xs) c.self.inside.ran c.in_ok-ran.ran refl alike c.self.invariant notes)

pub invariant_of-self : goal.invariant_of-self
invariant_of-self g c = subst (λ l. IsIndex l c.self.inside.ran) (sym c.in_err-push.ensures.items) c.self.invariant

pub returns-clause-ok : goal.returns-clause-ok
returns-clause-ok g c =
    one_pushed c.args.records.items c.self.view_is
    (c.in_ok-records.ensures ∙ ap (λ l. with_changes l []) c.in_ok-given.ensures ∙ given_some c.args.records.items c.requires) c.in_ok-push.ensures.items
