use Rattle.std.proofs.Common.{◌≡◌, ℕ, ◌+◌, ◌≤◌, suc, IfOk, List, [], ◌∷◌, ◌++◌, length, ap, arith, subst, sym, ◌∙◌}
use Rattle.std.specs.List.{AllByRecursion}
use Rattle.std.proofs.lemmas.List.{append-nil, length-append}
use Rattle.pg_inbox_messages.specs.Contents.{contents_of}
use Rattle.pg_inbox_messages.specs.Repr.{contents_in}
use Rattle.pg_inbox_messages.proofs.message_list.packed.Goals as goal

too_many : (n : ℕ) → suc n + 1 ≤ 1 → ⊥
too_many n few = omega arith

only_one : {X : Type 0} (before : List X) (only : X) {all : List X} → all ≡ before ++ only ∷ [] → length all ≤ 1 → only ∷ [] ≡ all
only_one [] only is few = sym is
only_one (x ∷ before) only is few =
    absurd (too_many (length before) (subst (λ n. n ≤ 1) (ap length is ∙ length-append (x ∷ before) (only ∷ [])) few))

pub returns-in-None : goal.returns-in-None
returns-in-None g c =
    let contents = contents_of (g.C.MessageCombiner.combining c.args.combiner.now) in
    subst (λ l. IfOk c.packed_many-in-None.result (λ repr. contents_in repr ≡ contents l))
    (sym (c.in-None.ensures.items ∙ append-nil c.pop.new.self.items)) c.packed_many-in-None.ensures

pub packed_one-requires-after_bounds : goal.packed_one-requires-after_bounds
packed_one-requires-after_bounds g c κs within =
    let few = subst (λ n. n ≤ 1) (c.len.ensures ∙ c.args.envelopes.ok.0) c.if-len-gt1.false in
    (subst (AllByRecursion (λ l. g.M.Plain.is_value l.1)) (sym (only_one c.pop.new.self.items c.in-Some.only c.in-Some.ensures.items few)) c.requires).0

pub returns-in-Some : goal.returns-in-Some
returns-in-Some g c =
    let few = subst (λ n. n ≤ 1) (c.len.ensures ∙ c.args.envelopes.ok.0) c.if-len-gt1.false in
    c.packed_one.ensures
    ∙ ap (contents_of (g.C.MessageCombiner.combining c.args.combiner.now))
    (only_one c.pop.new.self.items c.in-Some.only c.in-Some.ensures.items few)
