-- How calls have led a service to where it is, and what follows of its graph and of what was published.
use Rattle.std.specs.Prelude.{◌≡◌, ℕ, ◌+◌, ◌≤◌, List, [], ◌∷◌, ◌++◌, length, take, None, Some, Result, Ok, Err}
use Rattle.std.specs.Prelude.{MatchResult}
use Rattle.std.specs.List.{All}
use Rattle.logbook.specs.Pages.{Book}
use Rattle.pg_global.specs.Registry.{Registered}
use Rattle.pg_graph.specs.Edit.{batch_edited}
use Rattle.pg_graph.specs.Rows.{Rows}
use Rattle.pg_graph.specs.Handed.{Edit, EditFault}
use Rattle.pg_model.specs.Job.{Job}
use Rattle.pg_model.specs.Publications.{Publication}
use Rattle.pg_model.specs.Run.{answer}
use Rattle.pg_publish.specs.Answers.{Answered}
use Rattle.pg_publish.specs.Editions.{NeverGoesBack}
use Rattle.pg_publish.specs.History.{last_of}
use Rattle.pg_service.specs.Job.{ServiceJob}
use Rattle.pg_service.specs.Service.{ServiceState, entry_of, fresh, next_graph, with_entry}

-- what comes of a graph that was made, or the fault that kept it from being made
abbrev pub and_then : Result Rows EditFault → (Rows → Result Rows EditFault) → Result Rows EditFault
and_then (Ok graph) next = next graph
and_then (Err fault) next = Err fault

-- the graph that batches make, one after another, or the fault of the first that makes none
abbrev pub composed : Rows → List (List Edit) → Result Rows EditFault
composed graph [] = Ok graph
composed graph (batch ∷ batches) = and_then (batch_edited graph batch) (λ made. composed made batches)

module _ {P C A V M : Type 0} (own : ServiceJob P C A) (job : Job V M) (names : Registered) (publisher : Book) where
  -- from a service as it begins, edits, refreshes and readers that were made have led here, and these batches were
  -- accepted, in their order. An edit that is refused leaves the service as it was; a refresh that is refused drops
  -- only the kept run
  pub data Led : List (List Edit) → ServiceState P C A V → Type 0 where
    begun : Led [] (fresh own publisher)
    accepted : (batches : List (List Edit)) (before : ServiceState P C A V) (batch : List Edit) (graph : Rows)
        → Led batches before → next_graph before.edition before.graph batch ≡ Ok graph
        → Led (batches ++ batch ∷ []) (record before { graph = graph; edition = before.edition + 1 })
    answered : (batches : List (List Edit)) (before : ServiceState P C A V) → Led batches before
        → Led batches (record before {
          told = with_entry (entry_of job names before.edition before.graph) before.told;
          kept = Some before.graph;
        })
    given_up : (batches : List (List Edit)) (before : ServiceState P C A V)
        → Led batches before → Led batches (record before { kept = None })
    seated : (batches : List (List Edit)) (before : ServiceState P C A V)
        → Led batches before → Led batches (record before { readers = before.readers + 1 })

  -- an edit goes on from wherever calls have led: with its batch where that is accepted, with no other where it is
  -- refused
  abbrev pub EditLeadsOn : List Edit → Result ℕ EditFault → ServiceState P C A V → ServiceState P C A V → Type 0
  EditLeadsOn batch result old new = (batches : List (List Edit)) → Led batches old
      → MatchResult result (λ edition. Led (batches ++ batch ∷ []) new) (λ fault. Led batches new)

  -- so does any other call, which accepts no batch
  abbrev pub LeadsOn : ServiceState P C A V → ServiceState P C A V → Type 0
  LeadsOn old new = (batches : List (List Edit)) → Led batches old → Led batches new

module _ {V M : Type 0} (job : Job V M) where
  -- what was published is the answer of the run on the graph of its edition, which so many batches made
  pub record IsOfEdition (batches : List (List Edit)) (publication : Publication V) : Type 0 where
    pub graph : Rows
    pub within : publication.edition ≤ length batches
    pub made : composed [] (take publication.edition batches) ≡ Ok graph
    pub is_answer : publication.answer ≡ answer job graph

  -- each entry is the answer of the graph of its edition, with these names, and editions never go back
  pub record AreAnswers (names : Registered) (batches : List (List Edit)) (list : List (Answered V)) : Type 0 where
    pub each : All (λ a. IsOfEdition batches a.publication) list
    pub named : All (λ a. a.registered ≡ names) list
    pub never_back : NeverGoesBack list

  -- a service's graph is what the accepted batches make, one after another, its edition is their number, and what it
  -- has published are answers, from this publisher
  pub record Follows {P C A : Type 0} (names : Registered) (publisher : Book) (batches : List (List Edit))
      (state : ServiceState P C A V) : Type 0 where
    pub edition_is : state.edition ≡ length batches
    pub graph_is : composed [] batches ≡ Ok state.graph
    pub own : state.told.publisher ≡ publisher
    pub published : AreAnswers names batches state.told.list

-- what a reader has seen or learned of is a beginning of what is published: then it shows answers too, and whoever has
-- seen more looks at no earlier edition
pub record LooksAtAnswers {V M : Type 0} (job : Job V M) (names : Registered) (batches : List (List Edit))
    (seen later : List (Answered V)) : Type 0 where
  pub answers : AreAnswers job names batches seen
  pub goes_on : (a b : Answered V) → last_of seen ≡ Some a → last_of later ≡ Some b
      → a.publication.edition ≤ b.publication.edition
