-- What contributions come to at one aggregator more, and in two runs.
use Rattle.std.proofs.Common.{◌≡◌, ℕ, zero, suc, ◌+◌, List, [], ◌∷◌, ◌++◌, map, length, take, ℤ, None, Some, refl, ap, ap₂, sym, ◌∙◌, arith, add-one, zero-add}
use Rattle.std.specs.Option.{option_map}
use Rattle.std.proofs.lemmas.List.{length-map}
use Rattle.pg_global.specs.AnyAggregator.{initial_of, operation_of}
use Rattle.pg_global.specs.Registry.{Registered, aggregating_of}
use Rattle.pg_global.specs.declared.registry.Registration.{Registration}
use Rattle.std.specs.List.{fold, slice_get}
use Rattle.pg_model.specs.Job.{Aggregating}
use Rattle.pg_model.specs.Superstep.{at_place}
use Rattle.pg_stats.specs.Stats.{gathered_afresh}

pub afresh_push : (place : ℕ) (bs : List Aggregating) (a : Aggregating) (cs : List (ℕ × ℤ))
    → gathered_afresh place (bs ++ a ∷ []) cs ≡ gathered_afresh place bs cs ++ fold a.aggregate a.initial (at_place (place + length bs) cs) ∷ []
afresh_push place [] a cs = ap (λ k. fold a.aggregate a.initial (at_place k cs) ∷ []) (omega arith)
afresh_push place (b ∷ bs) a cs =
    ap (◌∷◌ (fold b.aggregate b.initial (at_place place cs)))
    (afresh_push (place + 1) bs a cs
    ∙ ap (λ k. gathered_afresh (place + 1) bs cs ++ fold a.aggregate a.initial (at_place k cs) ∷ []) (omega arith))

-- what is gathered goes on by one place
pub afresh_more : (registry : Registered) (place : ℕ) (r : Registration) → option_map (λ e. e.1) (slice_get registry place) ≡ Some r
    → (cs : List (ℕ × ℤ)) (so_far : List ℤ) (value here : ℤ) (after : List ℤ)
    → so_far ≡ gathered_afresh 0 (map (λ e. aggregating_of e.1) (take place registry)) cs
    → value ≡ fold (operation_of r.kind) (initial_of r.kind) (at_place place cs) → here ≡ value → after ≡ so_far ++ here ∷ []
    → after ≡ gathered_afresh 0 (map (λ e. aggregating_of e.1) (take (place + 1) registry)) cs
afresh_more registry place r at cs so_far value here after e v h pushed =
    let firsts : List Aggregating = map (λ (e : List ℕ × Registration). aggregating_of e.1) (take place registry) in
    let last : ℤ = fold (operation_of r.kind) (initial_of r.kind) (at_place place cs) in
    let many : length firsts ≡ place =
    length-map (take place registry) (λ (e : List ℕ × Registration). aggregating_of e.1) ∙ length_taken registry place r at in
    let one : gathered_afresh 0 (firsts ++ aggregating_of r ∷ []) cs ≡ gathered_afresh 0 firsts cs ++ last ∷ [] =
    afresh_push 0 firsts (aggregating_of r) cs
    ∙ ap (λ k. gathered_afresh 0 firsts cs ++ fold (operation_of r.kind) (initial_of r.kind) (at_place k cs) ∷ []) (zero-add (length firsts) ∙ many) in
    pushed ∙ (ap₂ (λ (l : List ℤ) (x : ℤ). l ++ x ∷ []) e (h ∙ v) ∙ (sym one ∙ ap (λ l. gathered_afresh 0 l cs) (sym (next_taken registry place r at))))
  where
    length_taken : (es : Registered) (i : ℕ) (x : Registration) → option_map (λ e. e.1) (slice_get es i) ≡ Some x → length (take i es) ≡ i
    length_taken [] i x h = let k : None ≡ Some x = h in cc
    length_taken (e ∷ es) zero x h = refl
    length_taken (e ∷ es) (suc i) x h = ap suc (length_taken es i x h)

    next_taken : (es : Registered) (i : ℕ) (x : Registration) → option_map (λ e. e.1) (slice_get es i) ≡ Some x
        → map (λ e. aggregating_of e.1) (take (i + 1) es) ≡ map (λ e. aggregating_of e.1) (take i es) ++ aggregating_of x ∷ []
    next_taken es i x h = ap (λ (n : ℕ). map (λ (e : List ℕ × Registration). aggregating_of e.1) (take n es)) (add-one i) ∙ taken es i x h
      where
        taken : (es : Registered) (i : ℕ) (x : Registration) → option_map (λ e. e.1) (slice_get es i) ≡ Some x
            → map (λ e. aggregating_of e.1) (take (suc i) es) ≡ map (λ e. aggregating_of e.1) (take i es) ++ aggregating_of x ∷ []
        taken [] i x h = let k : None ≡ Some x = h in cc
        taken (e ∷ es) zero x h = ap (λ y. aggregating_of y ∷ []) (let k : Some e.1 ≡ Some x = h in cc)
        taken (e ∷ es) (suc i) x h = ap (λ l. aggregating_of e.1 ∷ l) (taken es i x h)
