use Rattle.std.proofs.Common.{arith, ◌≡◌, true, nat_lt}
use Rattle.pg_import.specs.Number.{read_on}
use Rattle.pg_import.proofs.Numbers.{above_limit}
use Rattle.pg_import.proofs.number.read_digits.Goals as goal

pub returns-in_err-checked_mul : goal.returns-in_err-checked_mul
returns-in_err-checked_mul c =
    let large : nat_lt c.args.limit (read_on 0 c.args.digits.now) ≡ true =
    above_limit c.args.limit c.loop-byte.number c.loop-byte.byte-index c.args.digits.now (omega arith)
    (omega (arith, c.in_err-checked_mul.ensures)) c.loop-byte.invariant.1 in
    rw large c.from_residual.ensures

pub returns-in_err-number : goal.returns-in_err-number
returns-in_err-number c =
    let large : nat_lt c.args.limit (read_on 0 c.args.digits.now) ≡ true =
    above_limit c.args.limit c.loop-byte.number c.loop-byte.byte-index c.args.digits.now (omega arith)
    (omega (arith, c.in_err-number.ensures, c.in_ok-checked_mul.ensures)) c.loop-byte.invariant.1 in
    rw large c.from_residual-in_err-number.ensures

pub returns-then-number-limit : goal.returns-then-number-limit
returns-then-number-limit c =
    let large : nat_lt c.args.limit (read_on 0 c.args.digits.now) ≡ true =
    above_limit c.args.limit c.loop-byte.number c.loop-byte.byte-index c.args.digits.now (omega arith)
    (omega (arith, c.in_ok-number.ensures, c.in_ok-checked_mul.ensures)) c.loop-byte.invariant.1 in
    rw large
