-- A whole superstep, from what its stages leave.
use Rattle.std.proofs.Common.{◌≡◌, ℕ, ℤ, ◌+◌, Bool, List, [], ◌∷◌, length, map, Option, refl, sym, ap, ◌∙◌, subst}
use Rattle.std.specs.List.{AllByRecursion, count_by, sum_by}
use Rattle.std.specs.List.Sorted.{IsStrictlySortedBy}
use Rattle.std.specs.Ordering.{nat_cmp}
use Rattle.std.proofs.lemmas.List.{length-map}
use Rattle.std.proofs.lemmas.List.Sums.{sum_by-cons}
use Rattle.pg_model.specs.Job.{Program, Combining, Job}
use Rattle.pg_model.specs.InOrder.{IsInOrder}
use Rattle.pg_model.specs.Superstep.{is_active, ids, edges_of, outcome, state_after, sends, contributions, delivered, undeliverable, waiting_after}
use Rattle.pg_model.specs.Superstep.{dropped_count, present, with_inboxes_after, view_of, view_in, visible, gathered_from, next, capped}
use Rattle.pg_model.specs.declared.configuration.VertexWithInbox.{VertexWithInbox}
use Rattle.pg_model.specs.declared.configuration.Configuration.{Configuration}
use Rattle.pg_model.specs.declared.view.View.{View}
use Rattle.pg_model.specs.declared.view.Visible.{Visible}
use Rattle.pg_model.proofs.LawsIds.{IsInOrder-next, ids-next, length-gathered_from}
use Rattle.pg_global.specs.Master.{Master}
use Rattle.pg_global.specs.Registry.{Registered, aggregating_of}
use Rattle.pg_global.specs.declared.registry.Registration.{Registration}
use Rattle.pg_scratch.specs.Inbox.{with_messages}
use Rattle.pg_program.specs.Context.{Context}
use Rattle.pg_scratch.specs.Pass.{ran, ran_context}
use Rattle.pg_scratch.specs.VertexTable.{IsInPlace}
use Rattle.pg_scratch.specs.Stages.{HasExecuted, HasStepped, IsReady}
use Rattle.pg_scratch.specs.Received.{HasReceived}
use Rattle.pg_scratch.specs.Worklist.{ListsActive}
use Rattle.pg_scratch.specs.declared.vertex_table.VertexTable.{VertexTable}
use Rattle.pg_scratch.specs.declared.superstep.Executed.{Executed}
use Rattle.pg_scratch.specs.declared.superstep.Progress.{Progress}
use Rattle.pg_scratch.specs.declared.receiving.Received.{Received}

aggregators_of : (rs : Registered) → map aggregating_of (map (λ e. e.1) rs) ≡ map (λ e. aggregating_of e.1) rs
aggregators_of [] = refl
aggregators_of (r ∷ rs) = ap (λ l. aggregating_of r.1 ∷ l) (aggregators_of rs)

-- ---- the vertices after their executions, and with what they receive
module _ {V M : Type 0} (program : Program V M) (view : View) where
  pub ids-ran : (xs : List (VertexWithInbox V M)) → ids (map (ran program view) xs) ≡ ids xs
  ids-ran [] = refl
  ids-ran (x ∷ xs) = ap (λ l. x.state.id ∷ l) (ids-ran xs)

  pub empty-ran : (xs : List (VertexWithInbox V M)) → AllByRecursion (λ (x : VertexWithInbox V M). x.inbox ≡ []) (map (ran program view) xs)
  empty-ran [] = tt
  empty-ran (x ∷ xs) = (refl, empty-ran xs)

  received-ran : (combining : Option (Combining M)) (sent : List (ℕ × M)) (xs : List (VertexWithInbox V M))
      → with_messages combining sent (map (ran program view) xs) ≡ map (λ x. record {
        state = state_after x.state (outcome program view x);
        inbox = delivered combining x.state.id sent;
      }) xs
  received-ran combining sent [] = refl
  received-ran combining sent (x ∷ xs) = ap (λ l. record {
    state = state_after x.state (outcome program view x);
    inbox = delivered combining x.state.id sent;
  } ∷ l) (received-ran combining sent xs)

totals-map : {X Y : Type 0} (size : Y → ℕ) (f : X → Y) (xs : List X) → sum_by size (map f xs) ≡ sum_by (λ x. size (f x)) xs
totals-map size f [] = refl
totals-map size f (x ∷ xs) = sum_by-cons size (f x) (map f xs) ∙ (ap (λ n. size (f x) + n) (totals-map size f xs) ∙ sym (sum_by-cons (λ y. size (f y)) x xs))

edges-received : {V M : Type 0} (combining : Option (Combining M)) (sent : List (ℕ × M)) (xs : List (VertexWithInbox V M))
    → edges_of (with_messages combining sent xs) ≡ edges_of xs
edges-received combining sent xs = totals-map (λ x. length x.state.edges) (λ x. record { state = x.state; inbox = delivered combining x.state.id sent }) xs

-- ---- what the executions leave, from the context
module _ {V M : Type 0} (program : Program V M) (view : View) (writes calls : ℕ) (xs : List (VertexWithInbox V M)) (cx cx' : Context M) (begins : cx ≡ record {
  view = view;
  writes = writes;
  sent = [];
  contributed = [];
  calls = calls;
}) (context : cx' ≡ ran_context program cx xs) where
  pub context_is : cx' ≡ record {
    view = view;
    writes = writes;
    sent = sends program view xs;
    contributed = contributions program view xs;
    calls = capped (calls + count_by is_active xs);
  }
  unfolding ran_context
  context_is = context ∙ (λ i. ran_context program (begins i) xs)

-- ---- what the executions leave can receive
module _ {V M : Type 0} (program : Program V M) (view : View) (first : VertexTable V M) (calls : ℕ) (p : Executed V M)
    (executes : HasExecuted program view first calls p) where
  pub executed_ids : IsInPlace first → p.vertex_table.ids ≡ ids p.vertex_table.with_inboxes.items
  executed_ids place =
      executes.ids_stay ∙ (place.ids_are ∙ (sym (ids-ran program view first.with_inboxes.items) ∙ (λ i. ids (sym executes.with_inboxes i))))

  pub executed_empty : AllByRecursion (λ (x : VertexWithInbox V M). x.inbox ≡ []) p.vertex_table.with_inboxes.items
  executed_empty =
      subst (λ (l : List (VertexWithInbox V M)). AllByRecursion (λ (x : VertexWithInbox V M). x.inbox ≡ []) l) (sym executes.with_inboxes)
      (empty-ran program view first.with_inboxes.items)

-- ---- the aggregators of a job are those that are registered
pub aggregators-registered : (master : Master) (registrations : List Registration)
    → registrations ≡ map (λ e. e.1) master.registrations
    → map aggregating_of registrations ≡ map (λ e. aggregating_of e.1) master.registrations
aggregators-registered master registrations registered = ap (map aggregating_of) registered ∙ aggregators_of master.registrations

pub as_many-registered : (master : Master) (registrations : List Registration)
    → registrations ≡ map (λ e. e.1) master.registrations
    → length (map (λ e. aggregating_of e.1) master.registrations) ≡ length registrations
as_many-registered master registrations registered =
    sym (ap length (aggregators-registered master registrations registered)) ∙ length-map registrations aggregating_of

-- ---- a superstep, by what its stages borrow and give
pub record Stages (V M : Type 0) : Type 0 where
  pub shown : Visible
  pub view : View
  pub vertex_table : VertexTable V M
  pub executed : Executed V M
  pub gathered : List ℤ
  pub received : Received V M

module _ {V M : Type 0} (job : Job V M) (places s : ℕ) (before after : Progress V M) where
  -- the stages of the superstep, and what stands after it
  pub record AreStages (t : Stages V M) : Type 0 where
    pub shown_is : t.shown ≡ visible job s before.configuration
    pub shown_places : length t.shown.values ≡ length before.configuration.gathered
    pub view_is : t.view ≡ view_of job.program.declared s t.shown
    pub vertex_table_is : t.vertex_table.with_inboxes.items ≡ present job.program before.configuration
    pub in_place : IsInPlace t.vertex_table
    pub executes : HasExecuted job.program t.view t.vertex_table before.meter t.executed
    pub gathered_is : t.gathered ≡ gathered_from 0 job.aggregators t.shown.values t.executed.contributed
    pub receives : HasReceived job.combining job.missing t.executed.vertex_table t.executed.sent t.received
    pub with_inboxes : after.configuration.with_inboxes ≡ t.received.vertex_table.with_inboxes.items
    pub waiting : after.configuration.waiting ≡ t.received.undeliverable.waiting
    pub gathered : after.configuration.gathered ≡ t.gathered
    pub sent : after.configuration.sent ≡ capped (before.configuration.sent + length t.executed.sent)
    pub dropped : after.configuration.dropped ≡ capped (before.configuration.dropped + t.received.undeliverable.dropped)
    pub ids_are : after.ids ≡ t.received.vertex_table.ids
    pub work_is : after.work.items ≡ t.received.vertex_table.work.items
    pub edges_are : after.edges ≡ t.executed.edges
    pub meter_is : after.meter ≡ t.executed.meter

  module _ (t : Stages V M) (say : AreStages t) where
    xs : List (VertexWithInbox V M)
    xs = present job.program before.configuration

    view_now : t.view ≡ view_in job s before.configuration
    view_now = say.view_is ∙ ap (view_of job.program.declared s) say.shown_is

    sent_now : t.executed.sent ≡ sends job.program (view_in job s before.configuration) (present job.program before.configuration)
    sent_now = say.executes.sent ∙ (λ i. sends job.program (view_now i) (say.vertex_table_is i))

    contributed_now : t.executed.contributed ≡ contributions job.program (view_in job s before.configuration) (present job.program before.configuration)
    contributed_now = say.executes.contributed ∙ (λ i. contributions job.program (view_now i) (say.vertex_table_is i))

    ids_now : t.executed.vertex_table.ids ≡ ids (present job.program before.configuration)
    ids_now = say.executes.ids_stay ∙ (say.in_place.ids_are ∙ (λ i. ids (say.vertex_table_is i)))

    undeliverables_now : undeliverable t.executed.vertex_table.ids t.executed.sent ≡ undeliverable (ids (present job.program before.configuration))
        (sends job.program (view_in job s before.configuration) (present job.program before.configuration))
    undeliverables_now = λ i. undeliverable (ids_now i) (sent_now i)

    with_inboxes_now : after.configuration.with_inboxes ≡ with_inboxes_after job (view_in job s before.configuration) (present job.program before.configuration)
    with_inboxes_now =
        say.with_inboxes
        ∙ (say.receives.with_inboxes
        ∙ (ap (with_messages job.combining t.executed.sent) say.executes.with_inboxes
        ∙ (received-ran job.program t.view job.combining t.executed.sent t.vertex_table.with_inboxes.items
        ∙ (λ i. map (λ x. record {
          state =
              state_after x.state (outcome job.program (view_now i) x);
          inbox = delivered job.combining x.state.id (sent_now i);
        }) (say.vertex_table_is i)))))

    gathered_now : after.configuration.gathered ≡ gathered_from 0 job.aggregators
        (visible job s before.configuration).values
        (contributions job.program (view_in job s before.configuration) (present job.program before.configuration))
    gathered_now = say.gathered ∙ (say.gathered_is ∙ (λ i. gathered_from 0 job.aggregators (say.shown_is i).values (contributed_now i)))

    pub next-is : after.configuration ≡ next job s before.configuration
    unfolding next
    next-is =
        let waits = say.waiting ∙ (say.receives.waiting ∙ ap (waiting_after job.missing job.combining) undeliverables_now) in
        let sends_in_all = say.sent ∙ ap (λ l. capped (before.configuration.sent + length l)) sent_now in
        let drops = say.dropped ∙ ap (λ n. capped (before.configuration.dropped + n)) (say.receives.dropped ∙ ap (dropped_count job.missing) undeliverables_now) in
        λ i. record { with_inboxes = with_inboxes_now i; waiting = waits i; gathered = gathered_now i; sent = sends_in_all i; dropped = drops i }

    pub still_ready : length job.aggregators ≡ places → IsReady places before → IsReady places after
    still_ready many ready =
        let shown : length t.shown.values ≡ length job.aggregators = say.shown_places ∙ (ready.gathered ∙ sym many) in
        record {
          in_order = subst (λ (c : Configuration V M). IsInOrder c) (sym next-is) (IsInOrder-next job s before.configuration ready.in_order);
          ids_are =
              say.ids_are ∙ (say.receives.ids_stay ∙ (ids_now ∙ (sym (ids-next job s before.configuration) ∙ (λ i. ids (sym next-is i).with_inboxes))));
          lists = subst (λ l. ListsActive after.configuration.with_inboxes l) (sym say.work_is)
              (subst (λ (l : List (VertexWithInbox V M)). ListsActive l t.received.vertex_table.work.items) (sym say.with_inboxes)
              say.receives.lists);
          work_rises = subst (IsStrictlySortedBy nat_cmp) (sym say.work_is) say.receives.work_rises;
          edges =
              say.edges_are
              ∙ (say.executes.edges
              ∙ ap capped (sym (edges-received job.combining t.executed.sent t.executed.vertex_table.with_inboxes.items) ∙ (λ i. edges_of (sym (say.with_inboxes
              ∙ say.receives.with_inboxes) i))));
          gathered =
              ap length (say.gathered ∙ say.gathered_is)
              ∙ (length-gathered_from 0 job.aggregators t.shown.values t.executed.contributed shown ∙ many);
        }

    counted_now : after.meter ≡ capped (before.meter + count_by is_active (present job.program before.configuration))
    counted_now = say.meter_is ∙ (say.executes.counted ∙ (λ i. capped (before.meter + count_by is_active (say.vertex_table_is i))))

    pub stepped : (halt : Bool) → halt ≡ t.shown.halt → length job.aggregators ≡ places → IsReady places before → HasStepped job places s before after halt
    stepped halt is many ready =
        record { configuration = next-is; halts = is ∙ (λ i. (say.shown_is i).halt); ready = still_ready many ready; counted = counted_now }
