use Rattle.std.proofs.Common.{◌≡◌, ◌+◌, length, ap, ◌∙◌, refl, arith, length-append}
use Rattle.pg_import.proofs.Plain.{IsReadTo-more, IsReadTo-none}
use Rattle.pg_import.proofs.number.leading_number.Goals as goal

pub loop-digit-init : goal.loop-digit-init
loop-digit-init c = IsReadTo-none c.args.text.now

pub loop-digit-preserved : goal.loop-digit-preserved
loop-digit-preserved c =
    IsReadTo-more c.args.text.now c.loop-digit.rest.now c.in-Some.after.now c.loop-digit.number c.in-Some.digit _ c.loop-digit.invariant c.in-Some.ensures
    (omega arith) refl

pub returns : goal.returns
returns c =
    let whole : length c.args.text.now ≡ length c.loop-digit.invariant.digits + length c.loop-digit.rest.now =
    ap length c.loop-digit.invariant.whole ∙ length-append c.loop-digit.invariant.digits c.loop-digit.rest.now in
    record { read = c.loop-digit.invariant; some = omega arith }
