use Rattle.std.proofs.Common.{◌≡◌, [], rules, subst, refl, inl, inr}
use Rattle.pregeld.specs.Reading.{TakesLines, lines_left}
use Rattle.pregeld.specs.Keeping.{Imports}
use Rattle.pregeld.specs.Session.{edges_of}
use Rattle.pregeld.specs.declared.block.Block.TheVariants.{Whole}
use Rattle.pregeld.proofs.Actions.{lines_imported}
use Rattle.pregeld.proofs.carrying.import_lines.Goals as goal

pub returns-in-CutShort-clause-ok : goal.returns-in-CutShort-clause-ok
returns-in-CutShort-clause-ok g c rest there =
    let unread = lines_left (g.R.Read.remaining c.take_block.new.reader) in
    let taken = subst (λ b. TakesLines c.args.lines b rest c.new-block.result.items c.take_block.new.text.items unread) c.in-CutShort.is
    (c.in_ok-take_block.ensures.ok rest there) in
    (taken.0, refl, taken.1)

pub returns-in-NoMemory-clause-ok : goal.returns-in-NoMemory-clause-ok
returns-in-NoMemory-clause-ok g c rest there =
    let unread = lines_left (g.R.Read.remaining c.take_block.new.reader) in
    let taken = subst (λ b. TakesLines c.args.lines b rest c.new-block.result.items c.take_block.new.text.items unread) c.in-NoMemory.is
    (c.in_ok-take_block.ensures.ok rest there) in
    (taken.0, inr (refl, inl refl), taken.1)

pub returns-clause-ok : goal.returns-clause-ok
returns-clause-ok g c rest there =
    let unread = lines_left (g.R.Read.remaining c.take_block.new.reader) in
    let block = c.take_block.new.text.items in
    let empty : c.new-block.result.items ≡ [] = search rules in
    let whole = subst (λ b. TakesLines c.args.lines b rest c.new-block.result.items block unread) c.in-Whole.is (c.in_ok-take_block.ensures.ok rest there) in
    let taken = subst (λ t. TakesLines c.args.lines Whole rest t block unread) empty whole in
    let imports = subst (λ t. Imports (edges_of c.args.form t) c.args.service.now c.import_block.result c.import_block.new.service)
    c.as_slice.ensures.value c.import_block.ensures in
    lines_imported c.args.form c.args.lines rest block c.args.service.now c.import_block.result c.import_block.new.service unread taken imports
