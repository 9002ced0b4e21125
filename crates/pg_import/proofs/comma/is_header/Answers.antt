use Rattle.std.proofs.Common.{sym, refl}
use Rattle.csv.specs.Records.{fields_of}
use Rattle.pg_import.proofs.Fields.{header-none, header-one, header-two}
use Rattle.pg_import.proofs.comma.is_header.Goals as goal

pub returns-in_default : goal.returns-in_default
returns-in_default c = sym (header-none (fields_of c.args.row.now) (sym c.in_default.ensures.value))

pub returns-in_default-get : goal.returns-in_default-get
returns-in_default-get c = sym (header-one (fields_of c.args.row.now) (sym c.in_default-get.ensures.value))

pub returns-then-not-begins_with_digit : goal.returns-then-not-begins_with_digit
returns-then-not-begins_with_digit c =
    let h = header-two (fields_of c.args.row.now) c.in-Some.first.now c.in-Some-get.second.now (sym c.in-Some.ensures.value)
    (sym c.in-Some-get.ensures.value) in
    rw (h, ← c.begins_with_digit.ensures, c.if-not-begins_with_digit.true, c.begins_with_digit-then-not-begins_with_digit.ensures) refl

pub returns-else-not-begins_with_digit : goal.returns-else-not-begins_with_digit
returns-else-not-begins_with_digit c =
    let h = header-two (fields_of c.args.row.now) c.in-Some.first.now c.in-Some-get.second.now (sym c.in-Some.ensures.value)
    (sym c.in-Some-get.ensures.value) in
    rw (h, ← c.begins_with_digit.ensures, c.if-not-begins_with_digit.false) refl
