-- What a step finds of a vertex is how the vertex stands in the run.
use Rattle.std.proofs.Common.{◌≡◌, ℕ, zero, suc, ◌<◌, true, List, [], Option, None, Some, refl, sym, ap, ◌∙◌, arith, le_refl}
use Rattle.pg_graph.specs.Rows.{Rows}
use Rattle.pg_graph.specs.declared.missing.Missing.{Missing}
use Rattle.pg_graph.specs.declared.missing.Missing.TheVariants.{Drop, Create}
use Rattle.pg_inbox.specs.Inboxes.{Delivers}
use Rattle.pg_inbox.specs.LoggedBundle.{Slots}
use Rattle.pg_inbox.specs.Handed.{AreAllOf}
use Rattle.pg_model.specs.ByIds.{arriving, inbox_at, with_inbox_with, state_at as run_state_at}
use Rattle.pg_model.specs.Job.{Combining, Job}
use Rattle.pg_model.specs.Needed.{with_inbox_at}
use Rattle.pg_model.specs.Run.{present_at}
use Rattle.pg_model.specs.Share.{belongs}
use Rattle.pg_model.specs.Superstep.{delivered}
use Rattle.pg_model.proofs.LawsPresent.{inbox_at-first, inbox_at-next, with_inbox_at-state}
use Rattle.pg_model.specs.declared.configuration.VertexWithInbox.{VertexWithInbox}
use Rattle.pg_model.specs.declared.configuration.VertexState.{VertexState}
use Rattle.pg_part_compute.specs.Found.{IsFound, vertex_of}
use Rattle.pg_part_routing.specs.Routes.{HasMessages, bundles_before}
use Rattle.pg_part_routing.proofs.Delivery.{delivers_in_part}
use Rattle.pg_trace.specs.OfRun.{HoldsRun}
use Rattle.pg_trace.specs.Trace.{Trace, state_at}
use Rattle.pg_trace.proofs.RunStates.{state_of_run}

-- nothing that is delivered arrives as nothing
pub arrives_nothing : {V M : Type 0} (missing : Missing) (state : Option (VertexState V)) (none : List M) → none ≡ [] → arriving missing state none ≡ []
arrives_nothing Drop None none e = refl
arrives_nothing Drop (Some x) none e = e
arrives_nothing Create state none e = e

none_delivered : {M : Type 0} (combining : Option (Combining M)) (id : ℕ) → delivered combining id [] ≡ []
none_delivered None id = refl
none_delivered (Some c) id = refl

all_of_none : {M : Type 0} → AreAllOf {M = M} [] []
all_of_none = record { rise = λ i j d low within. absurd (omega arith); same = λ q. refl }

module _ {V M : Type 0} where
  module _ (job : Job V M) (rows : Rows) (n p : ℕ) (some : 0 < n) (trace : Trace V M) (logs : Slots M) (id : ℕ) (mine : belongs n p id ≡ true) where
    -- the state of the trace is the run's
    pub state_in_run : (r : ℕ) → HoldsRun job rows n p r trace → state_at id r trace ≡ run_state_at job rows r id
    state_in_run r holds = state_of_run trace id r job rows n p r holds mine (le_refl r)

    -- what is delivered arrives as the run's inbox
    pub arrives_in_run : (r : ℕ) → HoldsRun job rows n p r trace → HasMessages job rows n p r logs → (inbox : List M)
        → Delivers job.combining id (bundles_before logs n p r) inbox
        → arriving job.missing (run_state_at job rows r id) inbox ≡ inbox_at job rows r id
    arrives_in_run zero holds has inbox delivers =
        arrives_nothing job.missing (run_state_at job rows 0 id) inbox (delivers [] [] refl all_of_none ∙ none_delivered job.combining id)
        ∙ sym (inbox_at-first job rows id)
    arrives_in_run (suc s) holds has inbox delivers =
        ap (arriving job.missing (run_state_at job rows (suc s) id))
        (delivers_in_part job rows n p s holds.rise some logs (λ t q e below. has t q (omega (arith, e)) below) id mine inbox delivers)
        ∙ sym (inbox_at-next job rows s id)

    pub found_in_run : (r : ℕ) → HoldsRun job rows n p r trace → HasMessages job rows n p r logs → (found : Option (VertexWithInbox V M))
        → IsFound job.program job.missing job.combining trace r (bundles_before logs n p r) id found → found ≡ with_inbox_at id (present_at job rows r)
    found_in_run r holds has found is =
        is.is
        ∙ (ap (λ (o : Option (VertexState V)). vertex_of job.program job.missing id o is.inbox) (state_in_run r holds)
        ∙ (ap (with_inbox_with job.program id (run_state_at job rows r id)) (arrives_in_run r holds has is.inbox is.delivers)
        ∙ sym (with_inbox_at-state job rows r id)))
