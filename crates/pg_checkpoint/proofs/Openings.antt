-- The fields of an opening, read in turn.
use Rattle.std.proofs.Common.{◌≡◌, ℕ, ◌<◌, ◌^◌, List, Some, Err, refl}
use Rattle.pg_checkpoint.specs.Bytes.{half_coding}
use Rattle.pg_checkpoint.specs.Reading.{IsOpening, Reads, opening_coding}
use Rattle.pg_checkpoint.specs.declared.reading.Opening.{Opening}
use Rattle.pg_checkpoint.specs.declared.reading.Unread.{Unread}
use Rattle.pg_checkpoint.proofs.Turns.{both_read, fails_as, first_fails, second_fails}
use Rattle.pg_program.proofs.InTurn.{seen_as}
use Rattle.pg_program.specs.Coding.{IsRead, natural_coding, pair_coding}
use Rattle.pg_program.specs.Plain.{are_both, is_natural}

abbrev is_half : ℕ → Type 0
is_half n = n < 2 ^ 32

abbrev Fields : Type 0
Fields = ℕ × (ℕ × (ℕ × (ℕ × ℕ)))

abbrev are_last : ℕ × ℕ → Type 0
are_last = are_both is_half is_half

abbrev last_coding : ℕ × ℕ → List ℕ
last_coding = pair_coding half_coding half_coding

abbrev are_third : ℕ × (ℕ × ℕ) → Type 0
are_third = are_both is_natural are_last

abbrev third_coding : ℕ × (ℕ × ℕ) → List ℕ
third_coding = pair_coding natural_coding last_coding

abbrev are_second : ℕ × (ℕ × (ℕ × ℕ)) → Type 0
are_second = are_both is_natural are_third

abbrev second_coding : ℕ × (ℕ × (ℕ × ℕ)) → List ℕ
second_coding = pair_coding natural_coding third_coding

abbrev are_fields : Fields → Type 0
are_fields = are_both is_half are_second

abbrev fields_coding : Fields → List ℕ
fields_coding = pair_coding half_coding second_coding

abbrev made : Fields → Opening
made f = record { magic = f.0; len = f.1.0; run = f.1.1.0; partition = f.1.1.1.0; supersteps = f.1.1.1.1 }

abbrev fields : Opening → Fields
fields o = (o.magic, (o.len, (o.run, (o.partition, o.supersteps))))

there : (f : Fields) → are_fields f → IsOpening (made f) × (fields_coding f ≡ opening_coding (made f))
there f v = (record { magic = v.0; len = v.1.0; run = v.1.1.0; partition = v.1.1.1.0; supersteps = v.1.1.1.1 }, refl)

fro : (o : Opening) → IsOpening o → are_fields (fields o) × (opening_coding o ≡ fields_coding (fields o)) × (made (fields o) ≡ o)
fro o v = ((v.magic, (v.len, (v.run, (v.partition, v.supersteps)))), refl, refl)

module _ (bytes : List ℕ) where
  as_opening : (e : Unread) (remaining : List ℕ) → Reads are_fields fields_coding bytes (Err e) remaining → Reads IsOpening opening_coding bytes (Err e) remaining
  as_opening e remaining h = fails_as are_fields fields_coding IsOpening opening_coding made fields there fro bytes e remaining h

  module _ (magic : ℕ) (one : List ℕ) (a : IsRead is_half half_coding bytes (Some (magic, one))) where
    from_len : (e : Unread) (remaining : List ℕ) → Reads are_second second_coding one (Err e) remaining → Reads IsOpening opening_coding bytes (Err e) remaining
    from_len e remaining h = as_opening e remaining (second_fails is_half half_coding are_second second_coding bytes magic one e remaining a h)

    pub no_len : (e : Unread) (remaining : List ℕ) → Reads is_natural natural_coding one (Err e) remaining → Reads IsOpening opening_coding bytes (Err e) remaining
    no_len e remaining h = from_len e remaining (first_fails is_natural natural_coding are_third third_coding one e remaining h)

    module _ (len : ℕ) (two : List ℕ) (b : IsRead is_natural natural_coding one (Some (len, two))) where
      from_run : (e : Unread) (remaining : List ℕ) → Reads are_third third_coding two (Err e) remaining → Reads IsOpening opening_coding bytes (Err e) remaining
      from_run e remaining h = from_len e remaining (second_fails is_natural natural_coding are_third third_coding one len two e remaining b h)

      pub no_run : (e : Unread) (remaining : List ℕ) → Reads is_natural natural_coding two (Err e) remaining → Reads IsOpening opening_coding bytes (Err e) remaining
      no_run e remaining h = from_run e remaining (first_fails is_natural natural_coding are_last last_coding two e remaining h)

      module _ (run : ℕ) (three : List ℕ) (c : IsRead is_natural natural_coding two (Some (run, three))) where
        from_partition : (e : Unread) (remaining : List ℕ) → Reads are_last last_coding three (Err e) remaining
            → Reads IsOpening opening_coding bytes (Err e) remaining
        from_partition e remaining h = from_run e remaining (second_fails is_natural natural_coding are_last last_coding two run three e remaining c h)

        pub no_partition : (e : Unread) (remaining : List ℕ) → Reads is_half half_coding three (Err e) remaining
            → Reads IsOpening opening_coding bytes (Err e) remaining
        no_partition e remaining h = from_partition e remaining (first_fails is_half half_coding is_half half_coding three e remaining h)

        module _ (partition : ℕ) (four : List ℕ) (d : IsRead is_half half_coding three (Some (partition, four))) where
          pub no_supersteps : (e : Unread) (remaining : List ℕ) → Reads is_half half_coding four (Err e) remaining
              → Reads IsOpening opening_coding bytes (Err e) remaining
          no_supersteps e remaining h = from_partition e remaining (second_fails is_half half_coding is_half half_coding three partition four e remaining d h)

          pub is_opened : (supersteps : ℕ) (remaining : List ℕ) → IsRead is_half half_coding four (Some (supersteps, remaining))
              → IsRead IsOpening opening_coding bytes (Some (made (magic, (len, (run, (partition, supersteps)))), remaining))
          is_opened supersteps remaining h =
              seen_as are_fields fields_coding IsOpening opening_coding made fields there fro bytes
              (Some ((magic, (len, (run, (partition, supersteps)))), remaining))
              (both_read is_half half_coding are_second second_coding bytes magic one (len, (run, (partition, supersteps))) remaining a
              (both_read is_natural natural_coding are_third third_coding one len two (run, (partition, supersteps)) remaining b
              (both_read is_natural natural_coding are_last last_coding two run three (partition, supersteps) remaining c
              (both_read is_half half_coding is_half half_coding three partition four supersteps remaining d h))))
