use Rattle.std.proofs.Common.{◌≡◌, ℕ, ℤ, List, [], ap, sym, ◌∙◌}
use Rattle.std.specs.List.{range_with_len}
use Rattle.std.proofs.lemmas.Result.{IfOk-from_err}
use Rattle.pg_model.specs.Superstep.{ids}
use Rattle.pg_model.specs.declared.configuration.Configuration.{Configuration}
use Rattle.pg_model.specs.declared.configuration.VertexWithInbox.{VertexWithInbox}
use Rattle.pg_scratch.proofs.runner.begin.Goals as goal

abbrev first : {V M : Type 0} → List (VertexWithInbox V M) → List (ℕ × List M) → List ℤ → Configuration V M
first with_inboxes waiting gathered = record { with_inboxes = with_inboxes; waiting = waiting; gathered = gathered; sent = 0; dropped = 0 }

same_first : {V M : Type 0} (xs ys : List (VertexWithInbox V M)) (waiting : List (ℕ × List M)) (us vs : List ℤ)
    → xs ≡ ys → waiting ≡ [] → us ≡ vs → first xs waiting us ≡ first ys [] vs
same_first xs ys waiting us vs p q r = cc

pub returns-clause-configuration : goal.returns-clause-configuration
returns-clause-configuration g c =
    same_first _ _ _ _ _ (c.from_vec.ensures ∙ c.in_ok-with_inboxes.ensures) c.new.ensures c.in_ok-gathered.ensures

pub returns-clause-ids : goal.returns-clause-ids
returns-clause-ids g c = c.in_ok-ids.ensures ∙ ap ids (c.as_slice.ensures.value ∙ sym c.from_vec.ensures)

pub returns-clause-work : goal.returns-clause-work
returns-clause-work g c = c.in_ok-work.ensures ∙ ap (range_with_len 0) c.vertices.ensures.value

pub returns-in_err-work : goal.returns-in_err-work
returns-in_err-work g c =
    let none = c.from_residual.ensures.0 in
    let at = c.from_residual.result in
    record {
      configuration = IfOk-from_err at _ none;
      rising = c.vertices.ensures.rising;
      ids = IfOk-from_err at _ none;
      work = IfOk-from_err at _ none;
      edges = IfOk-from_err at _ none;
      meter = IfOk-from_err at _ none;
    }

pub returns-in_err-gathered : goal.returns-in_err-gathered
returns-in_err-gathered g c =
    let none = c.from_residual-in_err-gathered.ensures.0 in
    let at = c.from_residual-in_err-gathered.result in
    record {
      configuration = IfOk-from_err at _ none;
      rising = c.vertices.ensures.rising;
      ids = IfOk-from_err at _ none;
      work = IfOk-from_err at _ none;
      edges = IfOk-from_err at _ none;
      meter = IfOk-from_err at _ none;
    }

pub returns-in_err-with_inboxes : goal.returns-in_err-with_inboxes
returns-in_err-with_inboxes g c =
    let none = c.from_residual-in_err-with_inboxes.ensures.0 in
    let at = c.from_residual-in_err-with_inboxes.result in
    record {
      configuration = IfOk-from_err at _ none;
      rising = c.vertices.ensures.rising;
      ids = IfOk-from_err at _ none;
      work = IfOk-from_err at _ none;
      edges = IfOk-from_err at _ none;
      meter = IfOk-from_err at _ none;
    }

pub returns-in_err-ids : goal.returns-in_err-ids
returns-in_err-ids g c =
    let none = c.from_residual-in_err-ids.ensures.0 in
    let at = c.from_residual-in_err-ids.result in
    record {
      configuration = IfOk-from_err at _ none;
      rising = c.vertices.ensures.rising;
      ids = IfOk-from_err at _ none;
      work = IfOk-from_err at _ none;
      edges = IfOk-from_err at _ none;
      meter = IfOk-from_err at _ none;
    }
