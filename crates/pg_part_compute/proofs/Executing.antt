-- What an execution leaves is what the step of the program says.
use Rattle.std.proofs.Common.{◌≡◌, ◌<◌, ℕ, ℤ, nat_lt, get_or, ◌+◌, ◌++◌, [], ◌∷◌, true, List, length, Option, Some, None, option_map, refl, ap, sym, ◌∙◌}
use Rattle.std.proofs.Common.{arith, false, length-append}
use Rattle.std.proofs.lemmas.Bool.Decides.{nat_tests}
use Rattle.std.proofs.lemmas.Option.{slice_get-get_or, slice_get-map}
use Rattle.pg_model.specs.Job.{Program}
use Rattle.pg_model.specs.Superstep.{inputs_of}
use Rattle.pg_model.specs.declared.configuration.VertexState.{VertexState}
use Rattle.pg_model.specs.declared.record.Record.{Record}
use Rattle.pg_program.specs.Computation.{Executes, step_on}
use Rattle.pg_program.specs.Context.{Context}
use Rattle.pg_part_compute.specs.VertexCountsDeltas.{given_at}
use Rattle.pg_trace.specs.Handed.{AreWithin, changes_in, record_in, Executed, Extent}
use Rattle.pg_trace.proofs.Handed.{one_added, within_added}

module _ {V M : Type 0} (program : Program V M) (state vertex vertex' state' : VertexState V) (inbox : List M) (cx cx' : Context M)
    (vertex_is : vertex ≡ record { id = state.id; value = state.value; edges = state.edges; halted = false })
    (executes : Executes program vertex vertex' inbox cx cx') (state_is : state' ≡ vertex')
    (entries : List (ℕ × Option (Executed V))) (within : AreWithin cx.sent cx.contributed entries)
    (id : ℕ) (sent contributed : Extent) {entries' : List (ℕ × Option (Executed V))}
    (pushed : entries' ≡ entries ++ (
      id,
      Some (record {
        value = state'.value;
        edges = state'.edges;
        halted = state'.halted;
        sent = sent;
        contributed = contributed;
      }),
    ) ∷ [])
    {sent_before sent_after contributed_before contributed_after : ℕ}
    (sent_first : sent.first ≡ sent_before) (sent_begins : sent_before ≡ length cx.sent)
    (sent_end : sent.first + sent.count ≡ sent_after) (sent_ends : sent_after ≡ length cx'.sent)
    (contributed_first : contributed.first ≡ contributed_before) (contributed_begins : contributed_before ≡ length cx.contributed)
    (contributed_end : contributed.first + contributed.count ≡ contributed_after) (contributed_ends : contributed_after ≡ length cx'.contributed) where
  abbrev made : Record V M
  made = step_on program vertex inbox cx

  abbrev remaining : Executed V
  remaining = record { value = state'.value; edges = state'.edges; halted = state'.halted; sent = sent; contributed = contributed }

  sends : cx'.sent ≡ cx.sent ++ made.sent
  sends = ap (λ c. c.sent) executes.context_is

  contributes : cx'.contributed ≡ cx.contributed ++ made.contributed
  contributes = ap (λ c. c.contributed) executes.context_is

  sent_count : sent.count ≡ length made.sent
  sent_count = omega (arith, sent_first, sent_begins, sent_end, sent_ends, ap length sends, length-append cx.sent made.sent)

  contributed_count : contributed.count ≡ length made.contributed
  contributed_count =
      omega (
        arith,
        contributed_first,
        contributed_begins,
        contributed_end,
        contributed_ends,
        ap length contributes,
        length-append cx.contributed made.contributed,
      )

  left_is : state' ≡ record { id = vertex.id; value = made.value; edges = made.edges; halted = made.halted }
  left_is = state_is ∙ executes.vertex_is

  made_is : record {
    value = state'.value;
    edges = state'.edges;
    halted = state'.halted;
    sent = made.sent;
    contributed = made.contributed;
  } ≡ program.step (inputs_of cx.view (record { state = state; inbox = inbox }))
  made_is =
      (λ i. record {
        value = (left_is i).value;
        edges = (left_is i).edges;
        halted = (left_is i).halted;
        sent = made.sent;
        contributed = made.contributed;
      }) ∙ ap (λ v. step_on program v inbox cx) vertex_is

  -- its part of what was sent and contributed lies where the others' do
  pub executed_within : AreWithin cx'.sent cx'.contributed entries'
  executed_within =
      within_added cx.sent made.sent cx.contributed made.contributed entries within sends contributes id remaining pushed (sent_first ∙ sent_begins) sent_count
      (contributed_first ∙ contributed_begins) contributed_count

  pub executed : changes_in cx'.sent cx'.contributed entries'
      ≡ changes_in cx.sent cx.contributed entries ++ (id, Some (program.step (inputs_of cx.view (record { state = state; inbox = inbox })))) ∷ []
  executed =
      one_added cx.sent made.sent cx.contributed made.contributed entries within sends contributes id remaining pushed (sent_first ∙ sent_begins) sent_count
      (contributed_first ∙ contributed_begins) contributed_count refl
      ∙ ap (λ r. changes_in cx.sent cx.contributed entries ++ (id, Some r) ∷ []) made_is

is_below : (a b : ℕ) → true ≡ nat_lt a b → a < b
is_below a b h = grind (arith, nat_tests)

module _ {V M : Type 0} (sent : List (ℕ × M)) (contributed : List (ℕ × ℤ)) (entries : List (ℕ × Option (Executed V))) (place : ℕ) where
  -- the record that the execution at a place gave
  pub given_in : (entry default : ℕ × Option (Executed V)) → true ≡ nat_lt place (length entries) → entry ≡ get_or entries place default
      → option_map (record_in sent contributed) entry.1 ≡ given_at (changes_in sent contributed entries) place
  given_in entry default within is =
      sym (ap (λ (o : Option (ℕ × Option (Record V M))). elim o [ None ↦ None | Some change ↦ change.1 ])
      (slice_get-map (λ e. (e.0, option_map (record_in sent contributed) e.1)) entries place
      ∙ ap (option_map (λ e. (e.0, option_map (record_in sent contributed) e.1)))
      (slice_get-get_or entries place default (is_below place (length entries) within) ∙ ap Some (sym is))))
