use Rattle.std.proofs.Common.{◌≡◌, ℕ, ◌<◌, [], ◌∷◌, ◌++◌, append_assoc, ap, sym, ◌∙◌, subst, arith}
use Rattle.std.proofs.lemmas.List.{nil_from_length}
use Rattle.std.proofs.lemmas.Map.Keys.{sorted_tail}
use Rattle.std.specs.List.Sorted.{IsStrictlySortedBy}
use Rattle.std.specs.Ordering.{nat_cmp}
use Rattle.pg_map.proofs.Turns.{apart_by, below_by, not_below_by, same_by}
use Rattle.pg_part_compute.specs.Lists.{with_empty}
use Rattle.pg_part_compute.proofs.WorkItems.{empty_below, first_above, first_at, none_left}
use Rattle.pg_part_compute.proofs.reading.put_below.Goals as goal

below_else : (a b : ℕ) → (a ≡ b → ⊥) → (b < a → ⊥) → a < b
below_else a b apart not_above = omega arith

pub loop-first-preserved : goal.loop-first-preserved
loop-first-preserved g c =
    let now = c.loop-first in
    let id = c.args.id in
    let first = c.in-Some.first.now in
    let others = c.in-Some.others.now in
    let at = c.in-Some.ensures.cases.0 in
    let less = below_else first id (apart_by first id c.if-eq.ensures) (not_below_by id first c.if-lt.ensures) in
    record {
      rise = sorted_tail nat_cmp first others (subst (IsStrictlySortedBy nat_cmp) at now.invariant.rise);
      put = λ inbox later rise.
          let remaining = (id, inbox) ∷ later in
          ap (λ l. l ++ with_empty others remaining) c.in_ok-all.ensures
          ∙ append_assoc now.all ((first, []) ∷ []) (with_empty others remaining)
          ∙ ap (λ l. now.all ++ l) (sym (empty_below id inbox later rise first others less) ∙ ap (λ l. with_empty l remaining) (sym at))
          ∙ now.invariant.put inbox later rise;
    }

pub returns-then-eq-clause-rise : goal.returns-then-eq-clause-rise
returns-then-eq-clause-rise g c =
    let at = c.in-Some.ensures.cases.0 in
    sorted_tail nat_cmp c.in-Some.first.now c.in-Some.others.now (subst (IsStrictlySortedBy nat_cmp) at c.loop-first.invariant.rise)

pub returns-then-eq-clause-put : goal.returns-then-eq-clause-put
returns-then-eq-clause-put g c = λ inbox later rise.
    let now = c.loop-first in
    let id = c.args.id in
    let first = c.in-Some.first.now in
    let others = c.in-Some.others.now in
    let at = c.in-Some.ensures.cases.0 in
    let rising = subst (IsStrictlySortedBy nat_cmp) at now.invariant.rise in
    ap (λ l. now.all ++ l) (sym (first_at id inbox later rise first others rising (same_by first id c.if-eq.ensures))
    ∙ ap (λ l. with_empty l ((id, inbox) ∷ later)) (sym at))
    ∙ now.invariant.put inbox later rise

pub returns-then-lt-clause-put : goal.returns-then-lt-clause-put
returns-then-lt-clause-put g c = λ inbox later rise.
    let now = c.loop-first in
    let id = c.args.id in
    let first = c.in-Some.first.now in
    let others = c.in-Some.others.now in
    let at = c.in-Some.ensures.cases.0 in
    let rising = subst (IsStrictlySortedBy nat_cmp) at now.invariant.rise in
    ap (λ l. now.all ++ (id, inbox) ∷ with_empty l later) at
    ∙ ap (λ l. now.all ++ l) (sym (first_above id inbox later rise first others rising (below_by id first c.if-lt.ensures))
    ∙ ap (λ l. with_empty l ((id, inbox) ∷ later)) (sym at))
    ∙ now.invariant.put inbox later rise

pub returns-clause-put : goal.returns-clause-put
returns-clause-put g c = λ inbox later rise.
    let now = c.loop-first in
    let none = nil_from_length now.remaining.now c.in_default.ensures.cases in
    ap (λ l. now.all ++ l) (sym (none_left c.args.id inbox later rise now.remaining.now none)) ∙ now.invariant.put inbox later rise
