use Rattle.std.proofs.Common.{refl, ap, sym, ◌∙◌, Some, Err}
use Rattle.std.proofs.lemmas.Result.{err_from_is_err_and}
use Rattle.pg_checkpoint.specs.Mem.{bytes_at}
use Rattle.pg_checkpoint.proofs.Entries.{stored_at}
use Rattle.pg_checkpoint.proofs.Puts.{no_put, has_put, same_state}
use Rattle.pg_checkpoint.proofs.mem_shelf.MemShelfShelf.put.Goals as goal

pub returns-in_err-key-clause-put : goal.returns-in_err-key-clause-put
returns-in_err-key-clause-put c =
    let p = err_from_is_err_and c.from_residual.result c.from_residual.ensures.1 in
    no_put c.args.key.now c.args.bytes.now c.args.self.now c.args.self.now _ (p.1 ∙ ap Err p.2) refl

pub returns-in_err-bytes-clause-put : goal.returns-in_err-bytes-clause-put
returns-in_err-bytes-clause-put c =
    let p = err_from_is_err_and c.from_residual-in_err-bytes.result c.from_residual-in_err-bytes.ensures.1 in
    no_put c.args.key.now c.args.bytes.now c.args.self.now c.args.self.now _ (p.1 ∙ ap Err p.2) refl

pub returns-in_err-put_in-clause-put : goal.returns-in_err-put_in-clause-put
returns-in_err-put_in-clause-put c =
    let p = err_from_is_err_and c.from_residual-in_err-put_in.result c.from_residual-in_err-put_in.ensures.1 in
    no_put c.args.key.now c.args.bytes.now c.args.self.now (record { alloc = c.args.self.now.alloc; entries = c.put_in.new.entries }) _
    (p.1 ∙ ap Err p.2) c.in_err-put_in.ensures.err

pub returns-clause-put : goal.returns-clause-put
returns-clause-put c =
    has_put c.args.key.now c.args.bytes.now c.args.self.now (record { alloc = c.args.self.now.alloc; entries = c.put_in.new.entries })
    (ap (λ k. bytes_at k c.put_in.new.entries.items) (sym c.in_ok-key.ensures) ∙ c.in_ok-put_in.ensures.kept ∙ ap Some c.in_ok-bytes.ensures)
    (λ other not_it. c.in_ok-put_in.ensures.others other (λ h. not_it (h ∙ c.in_ok-key.ensures)))

pub returns-clause-kept : goal.returns-clause-kept
returns-clause-kept c = stored_at c.put_in.new.entries.items c.args.key.now
    ∙ (ap (λ k. bytes_at k c.put_in.new.entries.items) (sym c.in_ok-key.ensures) ∙ c.in_ok-put_in.ensures.kept ∙ ap Some c.in_ok-bytes.ensures)

pub returns-clause-others : goal.returns-clause-others
returns-clause-others c = λ other not_it. stored_at c.put_in.new.entries.items other
    ∙ c.in_ok-put_in.ensures.others other (λ h. not_it (h ∙ c.in_ok-key.ensures))
    ∙ sym (stored_at c.args.self.now.entries.items other)

pub returns-in_err-put_in-clause-err : goal.returns-in_err-put_in-clause-err
returns-in_err-put_in-clause-err c =
    let p = err_from_is_err_and c.from_residual-in_err-put_in.result c.from_residual-in_err-put_in.ensures.1 in
    rw p.1 (same_state c.args.self.now (record { alloc = c.args.self.now.alloc; entries = c.put_in.new.entries }) c.in_err-put_in.ensures.err)
