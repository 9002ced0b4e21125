use Rattle.std.proofs.Common.{◌≡◌, ◌∙◌, ap}
use Rattle.std.proofs.lemmas.Result.{IfOk-weaker}
use Rattle.serde_json.specs.Written.{compact_text, has_float}
use Rattle.serde_json.specs.View.{view}
use Rattle.pg_service.specs.ReportJson.{object_of}
use Rattle.pg_service.proofs.ReportTexts.{no_float, text_of_object}
use Rattle.pg_service.proofs.service.Service.report_json.Goals as goal

pub returns : goal.returns
returns g c =
    let built : view c.in_ok-value.value ≡ object_of c.args.report.now = c.in_ok-value.ensures in
    IfOk-weaker c.to_string.result _ _
    (λ text printed. printed (ap has_float built ∙ no_float c.args.report.now) ∙ (ap compact_text built ∙ text_of_object c.args.report.now))
    c.to_string.ensures.text
