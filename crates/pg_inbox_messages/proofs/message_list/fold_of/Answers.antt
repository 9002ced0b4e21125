use Rattle.std.proofs.Common.{◌≡◌, IfSome, List, Option, None, Some, [], ◌∷◌, ◌++◌, take, refl, ap, sym, ◌∙◌, subst}
use Rattle.std.specs.List.{fold}
use Rattle.std.proofs.lemmas.List.{take_all}
use Rattle.std.proofs.lemmas.List.Sums.{fold_push}
use Rattle.pg_model.specs.Job.{Combining}
use Rattle.pg_inbox_messages.specs.Contents.{messages}
use Rattle.pg_map.proofs.Filling.{mapped_more}
use Rattle.pg_inbox_messages.proofs.message_list.fold_of.Goals as goal

-- one more message is combined with what those before it come to
combined_one : {M : Type 0} (combining : Option (Combining M)) (taken : List M) (m so_far after : M) {now : List M} → taken ++ m ∷ [] ≡ now
    → IfSome combining (λ c. so_far ≡ fold c.combine c.initial taken) → IfSome combining (λ c. after ≡ c.combine so_far m)
    → IfSome combining (λ c. after ≡ fold c.combine c.initial now)
combined_one None taken m so_far after is before here = tt
combined_one (Some c) taken m so_far after is before here =
    here ∙ ap (λ s. c.combine s m) before ∙ sym (fold_push c.combine c.initial taken m) ∙ ap (fold c.combine c.initial) is

pub initial_message-requires : goal.initial_message-requires
initial_message-requires g c = c.requires

pub combine-requires : goal.combine-requires
combine-requires g c = c.requires

pub loop-message-preserved : goal.loop-message-preserved
loop-message-preserved g c =
    let now = c.loop-message in
    let envelopes = c.args.envelopes.now in
    combined_one (g.C.MessageCombiner.combining c.args.combiner.now) (messages (take now.message-index envelopes)) c.loop-message-item.result.1
    now.so_far c.combine.new.into
    (mapped_more (λ l. l.1) envelopes now.message-index c.loop-message-test.true c.loop-message-item.is refl refl)
    now.invariant c.in_ok-combine.ensures

pub returns : goal.returns
returns g c =
    subst (λ l. IfSome (g.C.MessageCombiner.combining c.args.combiner.now) (λ k. c.loop-message.so_far ≡ fold k.combine k.initial (messages l)))
    (take_all c.loop-message.message-index c.args.envelopes.now c.loop-message-test.false) c.loop-message.invariant
