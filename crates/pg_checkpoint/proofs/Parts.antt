-- Records and their parts.
use Rattle.std.proofs.Common.{◌≡◌, ℕ, ◌<◌, ◌^◌, List, [], ◌∷◌, ◌++◌, length, map, refl, sym, ap, ap₂, subst, ◌∙◌}
use Rattle.std.specs.List.{AllByRecursion, flat_map}
use Rattle.std.proofs.lemmas.List.{length-map}
use Rattle.std.proofs.lemmas.List.Concat.{flat_map-cons}
use Rattle.std.proofs.lemmas.List.Folds.{flat_map-map}
use Rattle.pg_checkpoint.specs.Bytes.{record_coding, superstep_coding}
use Rattle.pg_checkpoint.specs.Contents.{record_of, records_of}
use Rattle.pg_checkpoint.specs.Reading.{AreParts, parts_coding}
use Rattle.pg_checkpoint.specs.declared.reading.RecordParts.{RecordParts}
use Rattle.pg_checkpoint.specs.Records.{IsCodable, Supersteps}
use Rattle.pg_model.specs.declared.record.Record.{Record}
use Rattle.pg_program.specs.Coding.{list_coding, natural_coding}
use Rattle.pg_program.specs.Plain.{are_listed}

abbrev pub parts_of : {V M : Type 0} → ℕ × Record V M → RecordParts V M
parts_of r =
    record { id = r.0; halted = r.1.halted; value = r.1.value; edges = r.1.edges; sent = r.1.sent; contributed = r.1.contributed }

abbrev pub all_parts : {V M : Type 0} → Supersteps V M → List (List (RecordParts V M))
all_parts records = map (λ l. map parts_of l) records

module _ {V M : Type 0} where
  back_in : (rs : List (ℕ × Record V M)) → map record_of (map parts_of rs) ≡ rs
  back_in [] = refl
  back_in (r ∷ rs) = ap (λ l. r ∷ l) (back_in rs)

  pub back : (records : Supersteps V M) → records_of (all_parts records) ≡ records
  back [] = refl
  back (rs ∷ more) = ap₂ ◌∷◌ (back_in rs) (back more)

module _ {V M : Type 0} (value : V → List ℕ) (message : M → List ℕ) where
  one_same : (ps : List (RecordParts V M)) → list_coding (parts_coding value message) ps ≡ superstep_coding value message (map record_of ps)
  one_same ps =
      ap (λ n. natural_coding n ++ flat_map (parts_coding value message) ps) (sym (length-map ps record_of))
      ∙ ap (λ l. natural_coding (length (map record_of ps)) ++ l) (sym (flat_map-map (record_coding value message) record_of ps))

  pub all_same : (ts : List (List (RecordParts V M)))
      → flat_map (list_coding (parts_coding value message)) ts ≡ flat_map (superstep_coding value message) (records_of ts)
  all_same [] = refl
  all_same (t ∷ ts) =
      flat_map-cons (list_coding (parts_coding value message)) t ts ∙ ap₂ ◌++◌ (one_same t) (all_same ts)
      ∙ sym (flat_map-cons (superstep_coding value message) (map record_of t) (records_of ts))

module _ {V M : Type 0} (is_value : V → Type 0) (is_message : M → Type 0) where
  each_codable : (ps : List (RecordParts V M)) → AllByRecursion (AreParts is_value is_message) ps
      → AllByRecursion (IsCodable is_value is_message) (map record_of ps)
  each_codable [] h = tt
  each_codable (p ∷ ps) h = (
    record { id = h.0.id; value = h.0.value; edges = h.0.edges; sent = h.0.sent; contributed = h.0.contributed },
    each_codable ps h.1,
  )

  pub all_codable : (ts : List (List (RecordParts V M))) → AllByRecursion (are_listed (AreParts is_value is_message)) ts
      → AllByRecursion (are_listed (IsCodable is_value is_message)) (records_of ts)
  all_codable [] h = tt
  all_codable (t ∷ ts) h = ((subst (λ n. n < 2 ^ 64) (sym (length-map t record_of)) h.0.0, each_codable t h.0.1), all_codable ts h.1)

  each_parts : (rs : List (ℕ × Record V M)) → AllByRecursion (IsCodable is_value is_message) rs
      → AllByRecursion (AreParts is_value is_message) (map parts_of rs)
  each_parts [] h = tt
  each_parts (r ∷ rs) h = (
    record { id = h.0.id; value = h.0.value; edges = h.0.edges; sent = h.0.sent; contributed = h.0.contributed },
    each_parts rs h.1,
  )

  pub all_are_parts : (records : Supersteps V M) → AllByRecursion (are_listed (IsCodable is_value is_message)) records
      → AllByRecursion (are_listed (AreParts is_value is_message)) (all_parts records)
  all_are_parts [] h = tt
  all_are_parts (rs ∷ more) h = ((subst (λ n. n < 2 ^ 64) (sym (length-map rs parts_of)) h.0.0, each_parts rs h.0.1), all_are_parts more h.1)
