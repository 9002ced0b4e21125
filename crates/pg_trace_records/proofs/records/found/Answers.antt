use Rattle.std.proofs.Common.{◌≡◌, ℕ, List, ◌++◌, ◌∷◌, [], refl, ap, ◌∙◌}
use Rattle.std.proofs.lemmas.List.{map-append, take_all}
use Rattle.pg_map.specs.Entries.{value_at, with_changes, somes}
use Rattle.pg_map.proofs.Filling.{joined_more}
use Rattle.pg_trace_records.proofs.Changed.{all_looked, kept_rise, looked_up}
use Rattle.pg_map.proofs.Somes.{somes-append}
use Rattle.pg_trace_records.proofs.records.found.Goals as goal

looked-append : {X : Type 0} (entries : List (ℕ × X)) (xs ys : List ℕ)
    → somes (looked_up entries (xs ++ ys)) ≡ somes (looked_up entries xs) ++ somes (looked_up entries ys)
looked-append entries xs ys =
    ap somes (map-append (λ id. (id, value_at id entries)) xs ys) ∙ somes-append (looked_up entries xs) (looked_up entries ys)

pub loop-id-init : goal.loop-id-init
loop-id-init g c = record { found = c.in_ok-all.ensures.items; same = c.cursor-cursor.ensures }

pub loop-id-preserved : goal.loop-id-preserved
loop-id-preserved g c =
    let id = c.id-item.result in
    let records = with_changes c.args.changes.now (with_changes c.args.given.now []) in
    record {
      found = joined_more (λ l. somes (looked_up records l)) (looked-append records) c.args.ids.now c.loop-id.id-index c.loop-id-test.true
          c.id-item.is c.loop-id.invariant.found
          (c.in_ok-add_if_any.ensures ∙ ap (λ o. c.loop-id.all.items ++ somes ((id, o) ∷ []))
          (c.found_by-record.ensures.found ∙ ap (λ changes. value_at id (with_changes changes (with_changes c.args.given.now []))) c.loop-id.invariant.same));
      same = c.found_by-record.ensures.same ∙ c.loop-id.invariant.same;
    }

pub returns : goal.returns
returns g c =
    let records = with_changes c.args.changes.now (with_changes c.args.given.now []) in
    c.loop-id.invariant.found ∙ ap (λ l. somes (looked_up records l)) (take_all c.loop-id.id-index c.args.ids.now c.loop-id-test.false)
    ∙ all_looked records c.args.ids.now c.requires.rise (kept_rise c.args.changes.now c.args.given.now refl) c.requires.all
