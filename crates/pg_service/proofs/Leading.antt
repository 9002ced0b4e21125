-- What follows of any edits, refreshes and readers.
use Rattle.std.proofs.Common.{◌≡◌, ◌⊎◌, ℕ, zero, suc, ◌+◌, ◌<◌, ◌≤◌, List, [], ◌∷◌, ◌++◌, length, take, get_or, slice_get, Option, None, Some}
use Rattle.std.proofs.Common.{Result, Ok, Err, IsErr, MatchOption, MatchResult, OnErr, true≢false, refl, sym, ap, subst, ◌∙◌, arith, inl, inr, ⊎_elim}
use Rattle.std.specs.List.{All}
use Rattle.std.proofs.Math.Seq.{take-length}
use Rattle.std.proofs.lemmas.List.{get_or_append_left, length-append, take-append-le}
use Rattle.std.proofs.lemmas.List.Elements.{All-nil, All-push, All-weaker}
use Rattle.std.proofs.lemmas.Option.{get_or_from_slice_get, slice_get_within}
use mathlib.Core.List.{IsPrefix}
use Rattle.logbook.specs.Pages.{Book}
use Rattle.pg_graph.specs.Edit.{batch_edited}
use Rattle.pg_graph.specs.Rows.{Rows}
use Rattle.pg_graph.specs.Handed.{Edit, EditFault}
use Rattle.pg_global.specs.Registry.{Registered}
use Rattle.pg_graph.proofs.Batches.{Err_not_Ok}
use Rattle.pg_model.specs.Job.{Job}
use Rattle.pg_model.specs.Publications.{Publication}
use Rattle.pg_publish.specs.Answers.{Answered}
use Rattle.pg_publish.specs.Editions.{NeverGoesBack}
use Rattle.pg_publish.proofs.EditionsKept.{looks_go_on}
use Rattle.pg_publish.proofs.Fronts.{prefix_get, prefix_length}
use Rattle.pg_service.specs.Job.{ServiceJob}
use Rattle.pg_service.specs.Led.{AreAnswers, Follows, IsOfEdition, Led, LooksAtAnswers, and_then, composed, accepted, answered, begun, given_up, seated}
use Rattle.pg_service.specs.Service.{ServiceState, entry_of, next_graph, no_edition_left, with_entry}
use Rattle.pg_service.proofs.Untouched.{Ok_same, allowed}

-- one batch more, after the first
later_of : (batches : List (List Edit)) (batch : List Edit) (made : Rows) (r : Result Rows EditFault)
    → ((next : Rows) → composed next batches ≡ Ok made → composed next (batches ++ batch ∷ []) ≡ composed made (batch ∷ []))
    → and_then r (λ next. composed next batches) ≡ Ok made
    → and_then r (λ next. composed next (batches ++ batch ∷ [])) ≡ composed made (batch ∷ [])
later_of batches batch made (Ok next) each all = each next all
later_of batches batch made (Err fault) each all = absurd (Err_not_Ok all)

-- one batch more
composed_later : (batches : List (List Edit)) (batch : List Edit) (graph made : Rows) → composed graph batches ≡ Ok made
    → composed graph (batches ++ batch ∷ []) ≡ composed made (batch ∷ [])
composed_later [] batch graph made h = ap (λ r. composed r (batch ∷ [])) (Ok_same h)
composed_later (front ∷ batches) batch graph made h =
    later_of batches batch made (batch_edited graph front) (λ next all. composed_later batches batch next made all) h

composed_one : (graph made : Rows) (batch : List Edit) → batch_edited graph batch ≡ Ok made → composed graph (batch ∷ []) ≡ Ok made
composed_one graph made batch h = ap (λ r. and_then r (λ next. composed next [])) h

batch_of_next : (edition : ℕ) (graph made : Rows) (batch : List Edit) → next_graph edition graph batch ≡ Ok made → batch_edited graph batch ≡ Ok made
unfolding next_graph
batch_of_next edition graph made batch h = allowed _ no_edition_left (batch_edited graph batch) made h

-- what stands in a list with one more at its end: as before, or the last
at_push : {A : Type 0} (xs : List A) (x a : A) (k : ℕ) → slice_get (xs ++ x ∷ []) k ≡ Some a
    → (slice_get xs k ≡ Some a) ⊎ ((k ≡ length xs) × (x ≡ a))
at_push [] x a zero h = inr (refl, cc h)
at_push [] x a (suc k) h = absurd cc
at_push (y ∷ xs) x a zero h = inl h
at_push (y ∷ xs) x a (suc k) h = ⊎_elim (λ there. inl there) (λ last. inr (ap suc last.0, last.1)) (at_push xs x a k h)

module _ {V : Type 0} where
  -- editions go on by one that is no earlier than any before
  never_back_push : (list : List (Answered V)) (x : Answered V) → NeverGoesBack list
      → ((k : ℕ) (a : Answered V) → slice_get list k ≡ Some a → a.publication.edition ≤ x.publication.edition)
      → NeverGoesBack (list ++ x ∷ [])
  never_back_push list x rises below i j a b le at there = by (at_push list x a i at) (at_push list x b j there) where
    by : (slice_get list i ≡ Some a) ⊎ ((i ≡ length list) × (x ≡ a)) → (slice_get list j ≡ Some b) ⊎ ((j ≡ length list) × (x ≡ b))
        → a.publication.edition ≤ b.publication.edition
    by (inl first) (inl second) = rises i j a b le first second
    by (inl first) (inr second) = subst (λ (e : Answered V). a.publication.edition ≤ e.publication.edition) second.1 (below i a first)
    by (inr first) (inl second) = let within = slice_get_within list j b second in absurd (omega (arith, within, le, first.0))
    by (inr first) (inr second) =
        let same : a.publication.edition ≡ b.publication.edition = ap (λ (e : Answered V). e.publication.edition) (sym first.1 ∙ second.1) in
        omega (arith, same)

later : (batches : List (List Edit)) (batch : List Edit) → length (batches ++ batch ∷ []) ≡ length batches + 1
later batches batch = length-append batches (batch ∷ [])

module _ {V M : Type 0} (job : Job V M) (names : Registered) where
  -- a publication of an edition stays one when batches come later
  still : (batches : List (List Edit)) (batch : List Edit) (p : Publication V) → IsOfEdition job batches p → IsOfEdition job (batches ++ batch ∷ []) p
  still batches batch p is = record {
    graph = is.graph;
    within = let l = later batches batch in omega (arith, is.within, l);
    made = ap (composed []) (take-append-le p.edition batches (batch ∷ []) is.within) ∙ is.made;
    is_answer = is.is_answer;
  }

  -- and so do all answers
  answers_still : (batches : List (List Edit)) (batch : List Edit) (list : List (Answered V)) → AreAnswers job names batches list
      → AreAnswers job names (batches ++ batch ∷ []) list
  answers_still batches batch list are = record {
    each = All-weaker (λ a. IsOfEdition job batches a.publication) (λ a. IsOfEdition job (batches ++ batch ∷ []) a.publication)
        (λ a. still batches batch a.publication) list are.each;
    named = are.named;
    never_back = are.never_back;
  }

  -- with the answer of the run on the graph that these batches make
  answers_more : (batches : List (List Edit)) (edition : ℕ) (graph : Rows) (list : List (Answered V)) → edition ≡ length batches
      → composed [] batches ≡ Ok graph → AreAnswers job names batches list
      → AreAnswers job names batches (list ++ entry_of job names edition graph ∷ [])
  answers_more batches edition graph list edition_is graph_is are = record {
    each = All-push (λ a. IsOfEdition job batches a.publication) list (entry_of job names edition graph) are.each (record {
      graph = graph;
      within = omega (arith, edition_is);
      made = ap (λ n. composed [] (take n batches)) edition_is ∙ ap (composed []) (take-length batches) ∙ graph_is;
      is_answer = refl;
    });
    named = All-push (λ a. a.registered ≡ names) list (entry_of job names edition graph) are.named refl;
    never_back = never_back_push list (entry_of job names edition graph) are.never_back (λ k a at.
        let within = slice_get_within list k a at in
        let is : IsOfEdition job batches a.publication =
        subst (λ (e : Answered V). IsOfEdition job batches e.publication) (get_or_from_slice_get list k a a at) (are.each k a within) in
        let l = is.within in
        omega (arith, l, edition_is));
  }

  -- a beginning of answers
  answers_front : (batches : List (List Edit)) (front list : List (Answered V)) → IsPrefix front list → AreAnswers job names batches list
      → AreAnswers job names batches front
  answers_front batches front list begins are = record {
    each = fronted (λ a. IsOfEdition job batches a.publication) are.each;
    named = fronted (λ a. a.registered ≡ names) are.named;
    never_back = λ i j a b le at there.
        are.never_back i j a b le (prefix_get front list i a begins at) (prefix_get front list j b begins there);
  } where
    fronted : (P : Answered V → Type 0) → All P list → All P front
    fronted P all k d within =
        let longer : length front ≤ length list = prefix_length front list begins in
        subst P (ap (λ l. get_or l k d) (sym begins.1) ∙ get_or_append_left front begins.0 d k within) (all k d (omega (arith, longer, within)))

module _ {P C A V M : Type 0} (own : ServiceJob P C A) (job : Job V M) (names : Registered) (publisher : Book) where
  pub follows : (batches : List (List Edit)) (state : ServiceState P C A V)
      → Led own job names publisher batches state → Follows job names publisher batches state
  follows batches state begun = record {
    edition_is = refl;
    graph_is = refl;
    own = refl;
    published = record {
      each = All-nil (λ a. IsOfEdition job [] a.publication);
      named = All-nil (λ a. a.registered ≡ names);
      never_back = λ i j a b le at there. absurd cc;
    };
  }
  follows batches state (accepted before_batches before batch graph led makes) =
      let f = follows before_batches before led in
      record {
        edition_is = ap (λ n. n + 1) f.edition_is ∙ sym (later before_batches batch);
        graph_is = composed_later before_batches batch [] before.graph f.graph_is
            ∙ composed_one before.graph graph batch (batch_of_next before.edition before.graph graph batch makes);
        own = f.own;
        published = answers_still job names before_batches batch before.told.list f.published;
      }
  follows batches state (answered before_batches before led) =
      let f = follows before_batches before led in
      record {
        edition_is = f.edition_is;
        graph_is = f.graph_is;
        own = f.own;
        published = answers_more job names before_batches before.edition before.graph before.told.list f.edition_is f.graph_is f.published;
      }
  follows batches state (given_up before_batches before led) =
      let f = follows before_batches before led in
      record { edition_is = f.edition_is; graph_is = f.graph_is; own = f.own; published = f.published }
  follows batches state (seated before_batches before led) =
      let f = follows before_batches before led in
      record { edition_is = f.edition_is; graph_is = f.graph_is; own = f.own; published = f.published }

  -- whoever has seen a beginning of what is published
  pub looks_follow : (batches : List (List Edit)) (state : ServiceState P C A V) (seen further : List (Answered V))
      → Led own job names publisher batches state → IsPrefix seen further → IsPrefix further state.told.list
      → LooksAtAnswers job names batches seen further
  looks_follow batches state seen further led begins whole =
      let are = answers_front job names batches further state.told.list whole (follows batches state led).published in
      record {
        answers = answers_front job names batches seen further begins are;
        goes_on = (looks_go_on V seen further begins are.never_back).1;
      }

  -- ---- calls lead on

  -- an accepted batch
  pub edit_accepted : (batch : List Edit) (old new : ServiceState P C A V) → next_graph old.edition old.graph batch ≡ Ok new.graph
      → new ≡ record old { graph = new.graph; edition = old.edition + 1 }
      → (batches : List (List Edit)) → Led own job names publisher batches old
      → Led own job names publisher (batches ++ batch ∷ []) new
  edit_accepted batch old new makes is batches led =
      subst (Led own job names publisher (batches ++ batch ∷ [])) (sym is) (accepted batches old batch new.graph led makes)

  -- a refused batch
  pub edit_refused : {R F : Type 0} (batch : List Edit) (old new : ServiceState P C A V) (result : Result R F) → IsErr result
      → OnErr result (new ≡ old) → (batches : List (List Edit)) → Led own job names publisher batches old
      → MatchResult result (λ edition. Led own job names publisher (batches ++ batch ∷ []) new) (λ fault. Led own job names publisher batches new)
  edit_refused batch old new (Ok edition) refused err batches led = absurd (true≢false (sym refused))
  edit_refused batch old new (Err fault) refused err batches led = subst (Led own job names publisher batches) (sym err) led

  -- a refresh that is refused
  pub refresh_refused : (old new : ServiceState P C A V) → new ≡ record old { kept = None }
      → (batches : List (List Edit)) → Led own job names publisher batches old → Led own job names publisher batches new
  refresh_refused old new is batches led = subst (Led own job names publisher batches) (sym is) (given_up batches old led)

  -- and one that is answered
  pub refresh_answered : (old new : ServiceState P C A V)
      → new ≡ record old { told = with_entry (entry_of job names old.edition old.graph) old.told; kept = Some old.graph }
      → (batches : List (List Edit)) → Led own job names publisher batches old → Led own job names publisher batches new
  refresh_answered old new is batches led = subst (Led own job names publisher batches) (sym is) (answered batches old led)

  -- a reader that was made, or not
  pub reader_leads : {R : Type 0} (reader : Option R) (Q : R → Type 0) (old new : ServiceState P C A V)
      → MatchOption reader (new ≡ old)
      (λ r. (old.readers < 8) × (new ≡ record old { readers = old.readers + 1 }) × Q r)
      → (batches : List (List Edit)) → Led own job names publisher batches old → Led own job names publisher batches new
  reader_leads None Q old new made batches led = subst (Led own job names publisher batches) (sym made) led
  reader_leads (Some r) Q old new made batches led = subst (Led own job names publisher batches) (sym made.1) (seated batches old led)
