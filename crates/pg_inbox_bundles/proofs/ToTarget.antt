-- The messages to one target among sends, and in the bundle of them.
use Rattle.std.proofs.Common.{◌≡◌, ℕ, ◌==◌, ◌≤◌, Bool, true, false, cond, List, [], ◌∷◌, ◌++◌, map, Option, None, Some, refl, sym, ap, ◌∙◌, filter, flat_map}
use Rattle.std.proofs.Common.{length, take, get_or, ◌+◌, ◌<◌}
use Rattle.std.specs.Option.{option_map}
use Rattle.std.proofs.lemmas.List.{map-append}
use Rattle.std.proofs.lemmas.List.Elements.{filter-append}
use Rattle.pg_map.proofs.Filling.{gathered_after}
use Rattle.pg_model.proofs.LawsByNumber.{IsUp, up-filter, up_from}
use Rattle.pg_model.proofs.LawsLists.{all_to_map}
use Rattle.pg_model.specs.Job.{Combining}
use Rattle.pg_inbox_messages.specs.Contents.{contents_of}
use Rattle.pg_inbox_messages.specs.Grouping.{any_of}
use Rattle.pg_inbox_messages.specs.declared.message_list.Contents.{Contents}
use Rattle.pg_inbox_bundles.specs.Bundles.{bundle_of, envelopes_at}
use Rattle.pg_inbox_bundles.specs.Outbox.{AreAllOf, RiseBySender, Outbox, envelopes_to, sent_by}
use Rattle.pg_inbox_bundles.proofs.Bundling.{value_at-bundle_of}
use Rattle.pg_inbox_bundles.proofs.Senders.{from}

module _ {X Y Z : Type 0} where
  pub flat_map-of_map : (f : Y → List Z) (g : X → Y) (xs : List X) → flat_map f (map g xs) ≡ flat_map (λ x. f (g x)) xs
  flat_map-of_map f g [] = refl
  flat_map-of_map f g (x ∷ xs) = ap (λ l. f (g x) ++ l) (flat_map-of_map f g xs)

  -- a step of a loop that gathers what is made of a part of each element
  pub gathered_parts : (g : X → Y) (f : Y → List Z) (start : List Z) (xs : List X) (i : ℕ) {x : X} {before after : List Z} → i < length xs
      → x ≡ get_or xs i x → before ≡ start ++ flat_map f (map g (take i xs)) → after ≡ before ++ f (g x)
      → after ≡ start ++ flat_map f (map g (take (i + 1) xs))
  gathered_parts g f start xs i within is so_far pushed =
      gathered_after (λ x. f (g x)) start xs i within is (so_far ∙ ap (λ l. start ++ l) (flat_map-of_map f g (take i xs))) pushed
      ∙ ap (λ l. start ++ l) (sym (flat_map-of_map f g (take (i + 1) xs)))

module _ {M : Type 0} (id : ℕ) where
  envelopes-from : (q : ℕ) (sent : Outbox M) → from q (envelopes_to id sent) ≡ envelopes_to id (sent_by q sent)
  envelopes-from q [] = refl
  envelopes-from q (s ∷ sent) = by (s.1 == id) (s.0 == q) refl refl (envelopes-from q sent)
    where
      envelope : ℕ × M
      envelope = (s.0, s.2)

      pairs : List (ℕ × ℕ × M) → List (ℕ × M)
      pairs l = map (λ s. (s.0, s.2)) l

      mine : List (ℕ × ℕ × M)
      mine = filter (λ s. s.1 == id) sent

      by : (a b : Bool) → (s.1 == id) ≡ a → (s.0 == q) ≡ b → from q (envelopes_to id sent) ≡ envelopes_to id (sent_by q sent)
          → from q (pairs (cond a (s ∷ mine) mine)) ≡ envelopes_to id (cond b (s ∷ sent_by q sent) (sent_by q sent))
      by true true e f h =
          ap (λ b. cond b (envelope ∷ from q (envelopes_to id sent)) (from q (envelopes_to id sent))) f
          ∙ (ap (λ l. envelope ∷ l) h
          ∙ sym (ap (λ a. pairs (cond a (s ∷ filter (λ s. s.1 == id) (sent_by q sent)) (filter (λ s. s.1 == id) (sent_by q sent)))) e))
      by true false e f h = ap (λ b. cond b (envelope ∷ from q (envelopes_to id sent)) (from q (envelopes_to id sent))) f ∙ h
      by false true e f h = h ∙ sym (ap (λ a. pairs (cond a (s ∷ filter (λ s. s.1 == id) (sent_by q sent)) (filter (λ s. s.1 == id) (sent_by q sent)))) e)
      by false false e f h = h

  envelopes-append : (a b : Outbox M) → envelopes_to id (a ++ b) ≡ envelopes_to id a ++ envelopes_to id b
  envelopes-append a b =
      ap (map (λ (s : ℕ × ℕ × M). (s.0, s.2))) (filter-append (λ (s : ℕ × ℕ × M). s.1 == id) a b)
      ∙ map-append (λ (s : ℕ × ℕ × M). (s.0, s.2)) (filter (λ s. s.1 == id) a) (filter (λ s. s.1 == id) b)

  -- the messages of one sender are those of the lists
  sender_in_lists : (q : ℕ) (lists : List (Outbox M)) → envelopes_to id (flat_map (sent_by q) lists) ≡ from q (flat_map (envelopes_to id) lists)
  sender_in_lists q [] = refl
  sender_in_lists q (l ∷ lists) =
      envelopes-append (sent_by q l) (flat_map (sent_by q) lists)
      ∙ (ap (λ x. x ++ envelopes_to id (flat_map (sent_by q) lists)) (sym (envelopes-from q l))
      ∙ (ap (λ x. from q (envelopes_to id l) ++ x) (sender_in_lists q lists)
      ∙ sym (filter-append (λ (x : ℕ × M). x.0 == q) (envelopes_to id l) (flat_map (envelopes_to id) lists))))

  pub same_envelopes : (lists : List (Outbox M)) (all : Outbox M) → AreAllOf lists all → (q : ℕ)
      → from q (envelopes_to id all) ≡ from q (flat_map (envelopes_to id) lists)
  same_envelopes lists all are q = envelopes-from q all ∙ (ap (envelopes_to id) (are.same q) ∙ sender_in_lists q lists)

  pairs_up : (l : Outbox M) → IsUp (λ (s : ℕ × ℕ × M). s.0) l → IsUp (λ (x : ℕ × M). x.0) (map (λ s. (s.0, s.2)) l)
  pairs_up [] h = tt
  pairs_up (s ∷ l) h = (all_to_map (λ s. (s.0, s.2)) (λ x. s.0 ≤ x.0) l h.0, pairs_up l h.1)

  pub up_envelopes : (all : Outbox M) → RiseBySender all → IsUp (λ (x : ℕ × M). x.0) (envelopes_to id all)
  up_envelopes all rise = pairs_up (filter (λ s. s.1 == id) all) (up-filter (λ s. s.0) (λ s. s.1 == id) all (up_from (λ s. s.0) all rise))

  -- ---- in the bundle

  any_envelopes : (combining : Option (Combining M)) (l : List (ℕ × M))
      → elim (option_map (contents_of combining) (any_of l)) [ None ↦ [] | Some contents ↦ contents.envelopes ] ≡ l
  any_envelopes combining [] = refl
  any_envelopes combining (x ∷ l) = refl

  pub envelopes_at-bundle_of : (combining : Option (Combining M)) (sent : Outbox M) → envelopes_at id (bundle_of combining sent) ≡ envelopes_to id sent
  envelopes_at-bundle_of combining sent =
      ap (λ (o : Option (Contents M)). elim o [ None ↦ [] | Some contents ↦ contents.envelopes ]) (value_at-bundle_of combining id sent)
      ∙ any_envelopes combining (envelopes_to id sent)
