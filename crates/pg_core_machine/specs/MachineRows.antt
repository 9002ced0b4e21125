-- Worked rows, by computation.
use Rattle.std.specs.Prelude.{◌≡◌, true, false, cond, List, [], ◌∷◌, None, Some, refl}
use Rattle.pg_core_machine.specs.Losses.{counts_in, falls_of, losses_in}
use Rattle.pg_core_machine.specs.Machine.{State, after_all, are_allowed, first_state, is_allowed, was_lost, steps_of}
use Rattle.pg_core_machine.specs.declared.event.Closed.TheVariants.{Next, Ended}
use Rattle.pg_core_machine.specs.declared.event.Event.{Event}
use Rattle.pg_core_machine.specs.declared.event.Event.TheVariants.{Step, Lose, Host, Restore, Save, Close}

-- three partitions on two workers, of which one falls in superstep 1: its partition begins anew on the other
abbrev one_loss : List Event
one_loss =
    Step 0 ∷ Step 1 ∷ Step 2 ∷ Close Next ∷ Step 0 ∷ Step 2 ∷ Lose 1 ∷ Host 1 0
    ∷ Restore 1 0 ∷ Step 1 ∷ Step 1 ∷ Close Next ∷ Step 2 ∷ Step 1 ∷ Step 0 ∷ Close Ended ∷ []

is_allowed_with_a_loss : are_allowed (first_state 3 2) one_loss ≡ true
is_allowed_with_a_loss = refl

ends_with_a_loss : after_all (first_state 3 2) one_loss ≡ record {
  hosts = 0 ∷ 0 ∷ 0 ∷ [];
  places = Some 3 ∷ Some 3 ∷ Some 3 ∷ [];
  saved = None ∷ None ∷ None ∷ [];
  current = 2;
  alive = true ∷ false ∷ [];
  ended = true;
}
ends_with_a_loss = refl

steps_of_the_unlost : steps_of 0 one_loss ≡ 3
steps_of_the_unlost = refl

steps_of_the_lost : steps_of 1 one_loss ≡ 4
steps_of_the_lost = refl

was_lost_with_its_worker : was_lost 1 (first_state 3 2) one_loss ≡ true
was_lost_with_its_worker = refl

others_were_not : was_lost 2 (first_state 3 2) one_loss ≡ false
others_were_not = refl

-- the worker fell where its only partition was at superstep 1
losses_with_a_loss : losses_in (first_state 3 2) one_loss ≡ (1, Some 1) ∷ []
losses_with_a_loss = refl

-- it fell with two partitions, at supersteps 1 and 0
losses_with_the_lesser_place : losses_in (first_state 2 1) (Step 0 ∷ Lose 0 ∷ []) ≡ (0, Some 0) ∷ []
losses_with_the_lesser_place = refl

-- it fell with two partitions, of which one was lost
losses_with_a_lost_partition : losses_in (first_state 2 2) (Step 0 ∷ Step 1 ∷ Lose 1 ∷ Host 1 0 ∷ Lose 0 ∷ [])
    ≡ (1, Some 1) ∷ (0, Some 1) ∷ []
losses_with_a_lost_partition = refl

-- it fell with none that had a place
losses_with_no_place : losses_in (first_state 1 2) (Lose 1 ∷ []) ≡ (1, None) ∷ []
losses_with_no_place = refl

fell_once : falls_of 1 (losses_in (first_state 3 2) one_loss) ≡ 1
fell_once = refl

-- where a step counts 10 once its partition was lost, and 1 before: seven steps, and then three
counts_with_a_loss : counts_in (λ lost p r. cond lost 10 1) (λ p. false) (first_state 3 2) one_loss ≡ 37
counts_with_a_loss = refl

-- partitions step in any order, but none leaves another two behind
steps_in_any_order : are_allowed (first_state 2 1) (Step 1 ∷ Step 0 ∷ Close Next ∷ Step 0 ∷ Step 1 ∷ []) ≡ true
steps_in_any_order = refl

no_step_past_the_open_superstep : are_allowed (first_state 2 1) (Step 0 ∷ Step 0 ∷ []) ≡ false
no_step_past_the_open_superstep = refl

no_close_with_a_partition_behind : are_allowed (first_state 2 1) (Step 0 ∷ Close Next ∷ []) ≡ false
no_close_with_a_partition_behind = refl

no_event_after_the_end : are_allowed (first_state 1 1) (Step 0 ∷ Close Ended ∷ Save 0 ∷ []) ≡ false
no_event_after_the_end = refl

no_restore_of_what_is_there : are_allowed (first_state 1 1) (Restore 0 0 ∷ []) ≡ false
no_restore_of_what_is_there = refl

-- a partition is restored at the superstep that was saved, or at 0, on a worker that is alive
saved_then_lost : State
saved_then_lost = after_all (first_state 2 2) (Step 0 ∷ Step 1 ∷ Close Next ∷ Save 1 ∷ Step 0 ∷ Lose 1 ∷ Host 1 0 ∷ [])

restored_where_saved : is_allowed saved_then_lost (Restore 1 1) ≡ true
unfolding saved_then_lost
restored_where_saved = refl

restored_from_the_first : is_allowed saved_then_lost (Restore 1 0) ≡ true
unfolding saved_then_lost
restored_from_the_first = refl

restored_nowhere_else : is_allowed saved_then_lost (Restore 1 2) ≡ false
unfolding saved_then_lost
restored_nowhere_else = refl
