-- Who sent each message of a list in which those of each vertex follow those of the one before.
use Rattle.std.proofs.Common.{◌≡◌, ℕ, ℤ, ◌+◌, ◌≤◌, ◌<◌, zero, suc, List, [], ◌∷◌, ◌++◌, length, map, flat_map, get_or, take, drop, replicate, Option, None, Some, option_map}
use Rattle.std.proofs.Common.{refl, sym, ap, ap₂, ◌∙◌, subst, arith, length-append, length-drop}
use Rattle.std.proofs.Math.Seq.{take-add, take-length}
use Rattle.std.specs.List.{zip}
use Rattle.std.proofs.lemmas.List.{append-nil, length-replicate, length-take-le}
use Rattle.std.proofs.lemmas.List.Elements.{All-from_recursion}
use Rattle.pg_map.proofs.Filling.{gathered_more}
use Rattle.pg_model.specs.declared.record.Record.{Record}
use Rattle.pg_trace_records.specs.RecordChanges.{messages_by}
use Rattle.pg_trace_records.specs.Parts.{AreWithin, AddsSenders, IsWithin, changes_in, record_in}
use Rattle.pg_trace_records.specs.declared.changes.Executed.{Executed}

module _ {K X : Type 0} where
  zip-append : (ks ls : List K) (xs ys : List X) → length ks ≡ length xs → zip (ks ++ ls) (xs ++ ys) ≡ zip ks xs ++ zip ls ys
  zip-append [] ls [] ys long = refl
  zip-append [] ls (x ∷ xs) ys long = absurd (omega (arith, long))
  zip-append (k ∷ ks) ls [] ys long = absurd (omega (arith, long))
  zip-append (k ∷ ks) ls (x ∷ xs) ys long = ap (λ l. (k, x) ∷ l) (zip-append ks ls xs ys (omega (arith, long)))

  zip-replicate : (n : ℕ) (k : K) (xs : List X) → length xs ≡ n → zip (replicate n k) xs ≡ map (λ x. (k, x)) xs
  zip-replicate zero k [] long = refl
  zip-replicate zero k (x ∷ xs) long = absurd (omega (arith, long))
  zip-replicate (suc n) k [] long = absurd (omega (arith, long))
  zip-replicate (suc n) k (x ∷ xs) long = ap (λ l. (k, x) ∷ l) (zip-replicate n k xs (omega (arith, long)))

module _ {V M : Type 0} (sent : List (ℕ × M)) (contributed : List (ℕ × ℤ)) where
  -- what an execution that left this has sent, beside the id
  abbrev pub sent_in : ℕ × Option (Executed V) → List (ℕ × (ℕ × M))
  sent_in e = messages_by (e.0, option_map (record_in sent contributed) e.1)

  -- the messages that were gone through stand beside their senders, and so they do with those of one more
  pub record AreWarm (done : List (ℕ × Option (Executed V))) (senders : List ℕ) : Type 0 where
    pub given_flags : zip senders (take (length senders) sent) ≡ flat_map sent_in done
    pub within : length senders ≤ length sent

  one_more : (id : ℕ) (produced : Option (Executed V)) (before after : List ℕ) → IsWithin sent contributed produced → length before ≤ length sent
      → AddsSenders id produced before after
      → (zip after (take (length after) sent) ≡ zip before (take (length before) sent) ++ sent_in (id, produced)) × (length after ≤ length sent)
  one_more id None before after within fits is =
      (ap (λ l. zip l (take (length l) sent)) is ∙ sym (append-nil (zip before (take (length before) sent))), omega (arith, fits, ap length is))
  one_more id (Some produced) before after within fits (first, is) =
      let n = produced.sent.count in
      let rest = drop (length before) sent in
      let long : length after ≡ length before + n = ap length is ∙ length-append before (replicate n id) ∙ ap (λ k. length before + k) (length-replicate n id) in
      let all : length before + n ≤ length sent = omega (arith, first, within.0) in
      let here : length (take (length before) sent) ≡ length before = length-take-le (length before) sent fits in
      let new : length (take n rest) ≡ n = length-take-le n rest (omega (arith, all, length-drop (length before) sent)) in (
        ap₂ (λ l k. zip l (take k sent)) is long
            ∙ ap (zip (before ++ replicate n id)) (take-add (length before) n sent)
            ∙ zip-append before (replicate n id) (take (length before) sent) (take n rest) (sym here)
            ∙ ap (λ l. zip before (take (length before) sent) ++ l)
            (zip-replicate n id (take n rest) new ∙ ap (λ k. map (λ m. (id, m)) (take n (drop k sent))) (sym first)),
        omega (arith, long, all),
      )

  pub none_warm : {senders : List ℕ} → senders ≡ [] → AreWarm [] senders
  none_warm {senders} none = record { given_flags = ap (λ l. zip l (take (length senders) sent)) none; within = omega (arith, ap length none) }

  pub one_warm : (entries : List (ℕ × Option (Executed V))) (i : ℕ) (e : ℕ × Option (Executed V)) (before after : List ℕ) → i < length entries
      → e ≡ get_or entries i e → AreWithin sent contributed entries → AreWarm (take i entries) before → AddsSenders e.0 e.1 before after
      → AreWarm (take (i + 1) entries) after
  one_warm entries i e before after here is within warm has =
      let one = one_more e.0 e.1 before after
      (subst (λ x. IsWithin sent contributed x.1) (sym is) (All-from_recursion (λ x. IsWithin sent contributed x.1) entries within i e here))
      warm.within has in
      record { given_flags = gathered_more sent_in entries i here is warm.given_flags one.0; within = one.1 }

  sent_as : (entries : List (ℕ × Option (Executed V))) → flat_map sent_in entries ≡ flat_map messages_by (changes_in sent contributed entries)
  sent_as [] = refl
  sent_as (e ∷ entries) = ap (λ l. sent_in e ++ l) (sent_as entries)

  -- all of them, where no message is left
  pub all_warm : (entries : List (ℕ × Option (Executed V))) (senders : List ℕ) {now : List (ℕ × Option (Record V M))} → AreWarm entries senders
      → length senders ≡ length sent → changes_in sent contributed entries ≡ now → zip senders sent ≡ flat_map messages_by now
  all_warm entries senders warm long are =
      ap (zip senders) (sym (take-length sent) ∙ ap (λ k. take k sent) (sym long)) ∙ warm.given_flags ∙ sent_as entries ∙ ap (flat_map messages_by) are
