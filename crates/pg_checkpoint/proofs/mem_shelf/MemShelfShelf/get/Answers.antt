use Rattle.std.proofs.Common.{refl, ap, sym, subst, ◌∙◌, Some, Err}
use Rattle.std.proofs.lemmas.Result.{err_from_is_err_and}
use Rattle.pg_checkpoint.specs.Mem.{lacks, IsPlace}
use Rattle.pg_checkpoint.proofs.Entries.{at_place, at_none, stored_at}
use Rattle.pg_checkpoint.proofs.Puts.{has_got, is_memory}
use Rattle.pg_checkpoint.proofs.mem_shelf.MemShelfShelf.get.Goals as goal

pub returns-in_err-copied-in-Some-clause-got : goal.returns-in_err-copied-in-Some-clause-got
returns-in_err-copied-in-Some-clause-got c =
    let p = err_from_is_err_and c.from_residual.result c.from_residual.ensures.1 in
    has_got c.args.self.now _ (is_memory _ (p.1 ∙ ap Err p.2))

pub returns-in_ok-copied-in-Some-clause-got : goal.returns-in_ok-copied-in-Some-clause-got
returns-in_ok-copied-in-Some-clause-got c = has_got c.args.self.now _ refl

pub returns-in-None-clause-got : goal.returns-in-None-clause-got
returns-in-None-clause-got c = has_got c.args.self.now _ refl

pub returns-in_ok-copied-in-Some-clause-found : goal.returns-in_ok-copied-in-Some-clause-found
returns-in_ok-copied-in-Some-clause-found c =
    let place : IsPlace c.args.key.now c.args.self.now.entries.items c.in-Some.place =
    subst (λ l. IsPlace c.args.key.now l c.in-Some.place) c.as_slice.ensures.value c.in-Some.ensures.found.1 in
    ap Some (c.in_ok-copied-in-Some.ensures ∙ c.as_slice-in-Some.ensures.value)
    ∙ sym (stored_at c.args.self.now.entries.items c.args.key.now
    ∙ at_place c.args.key.now c.args.self.now.entries.items c.in-Some.place c.index.result.now place c.index.ensures)

pub returns-in-None-clause-found : goal.returns-in-None-clause-found
returns-in-None-clause-found c =
    sym (stored_at c.args.self.now.entries.items c.args.key.now
    ∙ at_none c.args.key.now c.args.self.now.entries.items (subst (λ l. lacks c.args.key.now l) c.as_slice.ensures.value c.in-None.ensures.none))
