use Rattle.std.proofs.Common.{◌≡◌, sym, refl, ap, ◌∙◌, true, false, map, rules}
use Rattle.std.proofs.lemmas.Result.{err_from_is_err_and}
use Rattle.std.specs.Option.{is_some, option_copied, option_map}
use Rattle.csv.specs.Records.{field_at, fields_of}
use Rattle.pg_import.specs.Comma.{trimmed}
use Rattle.pg_import.specs.Import.{edge_of}
use Rattle.pg_import.proofs.Fields.{edge-none, edge-one, edge-four, fields_by_place, is_some-map}
use Rattle.pg_import.proofs.comma.read_record.Goals as goal

pub returns-in_default : goal.returns-in_default
returns-in_default c = rw (edge-none (fields_of c.args.row.now) (sym c.in_default.ensures.value)) refl

pub returns-in_default-get : goal.returns-in_default-get
returns-in_default-get c = rw (edge-one (fields_of c.args.row.now) (sym c.in_default-get.ensures.value)) refl

pub returns-then-is_some : goal.returns-then-is_some
returns-then-is_some c =
    let four : is_some (field_at (fields_of c.args.row.now) 3) ≡ true = ap is_some (sym c.get-3.ensures.value) ∙ is_some-map _ _ ∙ sym c.if-is_some.ensures in
    rw (edge-four (fields_of c.args.row.now) four) refl

pub returns-in_err-line : goal.returns-in_err-line
returns-in_err-line c =
    let fields = fields_of c.args.row.now in
    let weight : option_copied c.map-weight.result ≡ option_map trimmed (field_at fields 2) = search rules in
    let three : is_some (field_at fields 3) ≡ false = ap is_some (sym c.get-3.ensures.value) ∙ is_some-map _ _ ∙ sym c.if-is_some.ensures in
    let places = fields_by_place fields c.in-Some.source.now c.in-Some-get.target.now (sym c.in-Some.ensures.value) (sym c.in-Some-get.ensures.value) three in
    let edge : edge_of (map trimmed fields) ≡ c.read_edge.result =
    rw (places, ← weight, ← c.trim_blanks.ensures, ← c.trim_blanks-2.ensures) (sym c.read_edge.ensures) in
    let p = err_from_is_err_and c.from_residual.result c.from_residual.ensures.1 in
    rw (p.1, p.2, edge, c.in_err-line.was) refl

pub returns : goal.returns
returns c =
    let fields = fields_of c.args.row.now in
    let weight : option_copied c.map-weight.result ≡ option_map trimmed (field_at fields 2) = search rules in
    let three : is_some (field_at fields 3) ≡ false = ap is_some (sym c.get-3.ensures.value) ∙ is_some-map _ _ ∙ sym c.if-is_some.ensures in
    let places = fields_by_place fields c.in-Some.source.now c.in-Some-get.target.now (sym c.in-Some.ensures.value) (sym c.in-Some-get.ensures.value) three in
    let edge : edge_of (map trimmed fields) ≡ c.read_edge.result =
    rw (places, ← weight, ← c.trim_blanks.ensures, ← c.trim_blanks-2.ensures) (sym c.read_edge.ensures) in
    rw (edge, c.in_ok-line.was) refl
