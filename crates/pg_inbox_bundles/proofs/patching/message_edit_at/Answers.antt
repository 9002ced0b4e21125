use Rattle.std.proofs.Common.{◌≡◌, ℕ, ◌+◌, ◌-◌, ◌<◌, Some, length, refl, ap, sym, ◌∙◌, arith}
use Rattle.std.proofs.lemmas.Option.{slice_get_read}
use Rattle.pg_inbox_bundles.specs.declared.patching.MessageEdit.TheVariants.{Added}
use Rattle.pg_inbox_bundles.proofs.Replacing.{addition_at}
use Rattle.pg_inbox_bundles.proofs.patching.message_edit_at.Goals as goal

pub returns : goal.returns
returns g c =
    let retracted = c.args.retracted.now in
    let added = c.args.added.now in
    let place = c.args.place in
    let send = c.at-sender.result in
    let item : ℕ × ℕ × g.row.M.Denot = (send.0, send.1, send.2.now) in
    let i = place - length retracted in
    let is : place ≡ length retracted + i = omega (arith, c.if-place-retracted.false) in
    let within : i < length added = omega (arith, c.if-place-retracted.false, c.requires) in
    addition_at retracted added i place item is (slice_get_read added (length added) i item refl within (c.at-sender.ensures item))
    ∙ ap (λ m. Some (send.1, Added send.0 m)) (sym c.in_ok-copy.ensures)
