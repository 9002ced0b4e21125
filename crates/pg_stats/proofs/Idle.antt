-- When a configuration is idle: all in it are halted, and no message arrived.
use Rattle.std.proofs.Common.{◌≡◌, ℕ, suc, ◌+◌, Bool, true, false, cond, not, ◌&&◌, ◌||◌, ◌==◌, List, [], ◌∷◌, map, length, Option, None, Some, refl}
use Rattle.std.proofs.Common.{ap, ap₂, sym, ◌∙◌, arith, filter, sum_by, count_by, true≢false}
use Rattle.std.specs.List.{list_all}
use Rattle.std.proofs.lemmas.Bool.Decides.{nat_tests}
use Rattle.std.proofs.lemmas.List.{length-map}
use Rattle.std.proofs.lemmas.List.Folds.{list_all-map, sum_by-zero}
use Rattle.std.proofs.lemmas.List.Sums.{sum_by-cons}
use Rattle.std.proofs.Math.Bool.{and-true}
use Rattle.pg_graph.specs.Rows.{Rows}
use Rattle.pg_graph.specs.declared.missing.Missing.{Missing}
use Rattle.pg_graph.specs.declared.missing.Missing.TheVariants.{Drop, Create}
use Rattle.pg_model.proofs.LawsMade.{has_id-targets}
use Rattle.pg_model.proofs.LawsIds.{with_inbox_after}
use Rattle.pg_model.specs.Job.{Combining, Job}
use Rattle.pg_model.specs.Run.{beginning, configuration, first, present_at, view_at}
use Rattle.pg_model.specs.Superstep.{undeliverable, combined, delivered, has_id, ids, is_all_idle, is_empty, messages_to, next, sends, targets, waiting_after}
use Rattle.pg_model.specs.declared.configuration.Configuration.{Configuration}
use Rattle.pg_model.specs.declared.configuration.VertexWithInbox.{VertexWithInbox}
use Rattle.pg_stats.proofs.Summing.{arrives, length-arrives, length-sum_by}

-- ---- tests of all elements

not_both : (a b : Bool) → not (not a || not b) ≡ (a && b)
not_both true true = refl
not_both true false = refl
not_both false b = refl

not_either : (a b : Bool) → (not a && not b) ≡ not (a || b)
not_either true b = refl
not_either false b = refl

and_turned : (a b c d : Bool) → ((a && b) && (c && d)) ≡ ((a && c) && (b && d))
and_turned true true c d = refl
and_turned true false true d = refl
and_turned true false false d = refl
and_turned false b c d = refl

fails_none : (b : Bool) → (cond (not b) 1 0 == 0) ≡ b
fails_none true = refl
fails_none false = refl

module _ {X : Type 0} where
  pub list_all-both : (p q : X → Bool) (xs : List X) → list_all (λ x. p x && q x) xs ≡ (list_all p xs && list_all q xs)
  list_all-both p q [] = refl
  list_all-both p q (x ∷ xs) = ap (λ b. (p x && q x) && b) (list_all-both p q xs) ∙ and_turned (p x) (q x) (list_all p xs) (list_all q xs)

  pub list_all-true : (xs : List X) → list_all (λ x. true) xs ≡ true
  list_all-true [] = refl
  list_all-true (x ∷ xs) = list_all-true xs

  -- all pass where none is counted that doesn't
  pub list_all-count : (p : X → Bool) (xs : List X) → list_all p xs ≡ (count_by (λ x. not (p x)) xs == 0)
  list_all-count p xs =
      ap (λ (f : X → Bool). list_all f xs) (λ i x. sym (fails_none (p x)) i) ∙ sym (sum_by-zero (λ x. cond (not (p x)) 1 0) xs)

-- two numbers are zero where their sum is
pub both_zero : (a b : ℕ) → ((a == 0) && (b == 0)) ≡ (a + b == 0)
both_zero a b = grind (arith, nat_tests)

three_zero : (a b c : ℕ) → (((a == 0) && (b == 0)) && (c == 0)) ≡ (a + (b + c) == 0)
three_zero a b c = grind (arith, nat_tests)

not_and_zero : (b : Bool) (n : ℕ) → (not b && (n == 0)) ≡ (cond b 1 0 + n == 0)
not_and_zero true n = sym (sum_some n)
  where
    sum_some : (n : ℕ) → (1 + n == 0) ≡ false
    sum_some n = grind (arith, nat_tests)
not_and_zero false n = ap (λ (k : ℕ). k == 0) (omega arith)

-- ---- messages that arrive

-- where there is an id there are some
some_id : (is : List ℕ) (id : ℕ) → has_id is id ≡ true → is_empty is ≡ false
some_id [] id h = absurd (true≢false (sym h))
some_id (other ∷ is) id h = grind (arith, nat_tests)

module _ {M : Type 0} where
  received : (id : ℕ) (m : ℕ × M) (sent : List (ℕ × M)) → is_empty (messages_to id (m ∷ sent)) ≡ (not (m.0 == id) && is_empty (messages_to id sent))
  received id m sent = by (m.0 == id)
    where
      rest : List (ℕ × M)
      rest = filter (λ (x : ℕ × M). x.0 == id) sent

      some : (n : ℕ) → (suc n == 0) ≡ false
      some n = grind (arith, nat_tests)

      by : (b : Bool) → is_empty (map (λ (x : ℕ × M). x.1) (cond b (m ∷ rest) rest)) ≡ (not b && is_empty (map (λ (x : ℕ × M). x.1) rest))
      by true = some (length (map (λ (x : ℕ × M). x.1) rest))
      by false = refl

  -- combining leaves an inbox empty or not
  delivered-empty : (combining : Option (Combining M)) (id : ℕ) (sent : List (ℕ × M)) → is_empty (delivered combining id sent) ≡ is_empty (messages_to id sent)
  delivered-empty None id sent = refl
  delivered-empty (Some c) id sent = by (messages_to id sent)
    where
      some : (n : ℕ) → false ≡ (suc n == 0)
      some n = grind (arith, nat_tests)

      by : (ms : List M) → is_empty (combined (Some c) ms) ≡ is_empty ms
      by [] = refl
      by (m ∷ ms) = some (length ms)

  -- messages have targets
  targets-empty : (sent : List (ℕ × M)) → is_empty (targets sent) ≡ is_empty sent
  targets-empty [] = refl
  targets-empty (m ∷ sent) =
      some_id (targets (m ∷ sent)) m.0 (has_id-targets (m ∷ sent) m.0 ∙ ap (λ b. b || has_id (map (λ (x : ℕ × M). x.0) sent) m.0) same)
      ∙ sym (some (length sent))
    where
      same : (m.0 == m.0) ≡ true
      same = grind (arith, nat_tests)

      some : (n : ℕ) → (suc n == 0) ≡ false
      some n = grind (arith, nat_tests)

  -- nobody's inbox has a message and nothing waits just where no message arrives
  pub none_left : (missing : Missing) (combining : Option (Combining M)) (is : List ℕ) (sent : List (ℕ × M)) (unhalted : ℕ)
      → (((unhalted == 0) && (sum_by (arrives is Drop) sent == 0)) && is_empty (waiting_after missing combining (undeliverable is sent)))
      ≡ (unhalted + sum_by (arrives is missing) sent == 0)
  none_left Drop combining is sent unhalted =
      and-true ((unhalted == 0) && (sum_by (arrives is Drop) sent == 0)) ∙ both_zero unhalted (sum_by (arrives is Drop) sent)
  none_left Create combining is sent unhalted =
      let undeliverables : List (ℕ × M) = undeliverable is sent in
      let each : ℕ → ℕ × List M = λ id. (id, delivered combining id undeliverables) in
      let go : ℕ = sum_by (arrives is Drop) sent in
      ap (λ b. ((unhalted == 0) && (go == 0)) && b) (ap (λ (n : ℕ). n == 0) (length-map (targets undeliverables) each) ∙ targets-empty undeliverables)
      ∙ (three_zero unhalted go (length undeliverables)
      ∙ ap (λ (n : ℕ). unhalted + n == 0) (sym (length-arrives is Drop sent) ∙ length-sum_by sent))

module _ {V M : Type 0} where
  goes_to_none : (id : ℕ) (xs : List (VertexWithInbox V M)) → list_all (λ x. not (id == x.state.id)) xs ≡ not (has_id (ids xs) id)
  goes_to_none id [] = refl
  goes_to_none id (x ∷ xs) =
      ap₂ (λ a b. not a && b) (turned id x.state.id) (goes_to_none id xs) ∙ not_either (x.state.id == id) (has_id (ids xs) id)
    where
      turned : (a b : ℕ) → (a == b) ≡ (b == a)
      turned a b = grind (arith, nat_tests)

  -- inboxes stay empty where no message goes to a vertex
  all_empty : (xs : List (VertexWithInbox V M)) (sent : List (ℕ × M))
      → list_all (λ x. is_empty (messages_to x.state.id sent)) xs ≡ (sum_by (arrives (ids xs) Drop) sent == 0)
  all_empty xs [] = list_all-true xs
  all_empty xs (m ∷ sent) =
      ap (λ (f : VertexWithInbox V M → Bool). list_all f xs) (λ i x. received x.state.id m sent i)
      ∙ (list_all-both (λ x. not (m.0 == x.state.id)) (λ x. is_empty (messages_to x.state.id sent)) xs
      ∙ (ap₂ ◌&&◌ (goes_to_none m.0 xs) (all_empty xs sent)
      ∙ (not_and_zero (has_id (ids xs) m.0) (sum_by (arrives (ids xs) Drop) sent)
      ∙ ap (λ (n : ℕ). n == 0) (sym (sum_by-cons (arrives (ids xs) Drop) m sent)))))

  -- a configuration is idle where all its vertices are halted, with empty inboxes, and nothing waits
  pub is_all_idle-parts : (c : Configuration V M)
      → is_all_idle c ≡ (((count_by (λ x. not x.state.halted) c.with_inboxes == 0) && list_all (λ x. is_empty x.inbox) c.with_inboxes) && is_empty c.waiting)
  is_all_idle-parts c =
      ap (λ b. b && is_empty c.waiting)
      (ap (λ (f : VertexWithInbox V M → Bool). list_all f c.with_inboxes) (λ i x. not_both x.state.halted (is_empty x.inbox) i)
      ∙ (list_all-both (λ x. x.state.halted) (λ x. is_empty x.inbox) c.with_inboxes
      ∙ ap (λ b. b && list_all (λ x. is_empty x.inbox) c.with_inboxes) (list_all-count (λ x. x.state.halted) c.with_inboxes)))

module _ {V M : Type 0} (job : Job V M) (rows : Rows) where
  -- as a run begins nobody has received anything
  pub is_all_idle-first : is_all_idle (configuration job rows 0) ≡ (count_by (λ x. not x.state.halted) (configuration job rows 0).with_inboxes == 0)
  unfolding configuration first
  is_all_idle-first =
      let c : Configuration V M = first job rows in
      let unhalted : Bool = count_by (λ (x : VertexWithInbox V M). not x.state.halted) c.with_inboxes == 0 in
      is_all_idle-parts c
      ∙ (and-true (unhalted && list_all (λ (x : VertexWithInbox V M). is_empty x.inbox) c.with_inboxes)
      ∙ (ap (λ b. unhalted && b) (list_all-map (λ (x : VertexWithInbox V M). is_empty x.inbox) (beginning job.program) rows ∙ list_all-true rows) ∙ and-true unhalted))

  -- after a superstep a configuration is idle where all are halted and no message of it arrives
  pub is_all_idle-next : (s : ℕ) → is_all_idle (configuration job rows (suc s))
      ≡ (count_by (λ x. not x.state.halted) (configuration job rows (suc s)).with_inboxes
      + sum_by (arrives (ids (present_at job rows s)) job.missing) (sends job.program (view_at job rows s) (present_at job rows s)) == 0)
  unfolding configuration next
  is_all_idle-next s =
      let xs : List (VertexWithInbox V M) = present_at job rows s in
      let sent : List (ℕ × M) = sends job.program (view_at job rows s) xs in
      let d : Configuration V M = next job s (configuration job rows s) in
      let after : VertexWithInbox V M → VertexWithInbox V M = with_inbox_after job (view_at job rows s) xs in
      let unhalted : ℕ = count_by (λ (x : VertexWithInbox V M). not x.state.halted) d.with_inboxes in
      let inboxes : list_all (λ (x : VertexWithInbox V M). is_empty x.inbox) d.with_inboxes ≡ (sum_by (arrives (ids xs) Drop) sent == 0) =
      list_all-map (λ (x : VertexWithInbox V M). is_empty x.inbox) after xs
      ∙ (ap (λ (f : VertexWithInbox V M → Bool). list_all f xs) (λ i x. delivered-empty job.combining x.state.id sent i) ∙ all_empty xs sent) in
      is_all_idle-parts d
      ∙ (ap (λ b. ((unhalted == 0) && b) && is_empty d.waiting) inboxes
      ∙ none_left job.missing job.combining (ids xs) sent unhalted)
