use Rattle.std.proofs.Common.{◌≡◌, ◌∙◌, ◌++◌, ap, arith, drop, length}
use Rattle.pg_checkpoint.proofs.Header.{back, kept_length}
use Rattle.pg_checkpoint.proofs.writing.with_front.Goals as goal

pub returns : goal.returns
returns c =
    let is : c.put_front.new.bytes ≡ c.args.front.now ++ drop (length c.args.front.now) c.args.bytes.items =
    c.put_front.ensures ∙ ap (λ l. c.args.front.now ++ drop (length c.args.front.now) l) c.as_mut_slice.ensures.value in
    let same : length c.args.bytes.items ≡ c.args.bytes.len = omega (arith, c.as_mut_slice.ensures.len, ap length c.as_mut_slice.ensures.value) in
    back c.args.bytes.len c.put_front.new.bytes c.args.bytes.items
    (ap length is ∙ kept_length c.args.front.now c.args.bytes.items c.requires ∙ same) same ∙ is
