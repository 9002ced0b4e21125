-- A part that was saved while it held its share of a run, and is found again, holds that share.
use Rattle.std.proofs.Common.{◌≡◌, ℕ, ◌+◌, ◌<◌, ◌≤◌, ◌^◌, List, length, take, drop, Option, None, Some, refl, sym, ap, ◌∙◌, subst, arith, inl, inr}
use Rattle.std.proofs.lemmas.List.{length-append, take-append-drop}
use Rattle.pg_checkpoint.specs.Bytes.{first_coding, first_magic, first_rest, second_coding, second_magic, second_rest}
use Rattle.pg_checkpoint.specs.Loading.{Asked, IsCheckpoint, IsFound, initial_of, part_coding}
use Rattle.pg_checkpoint.specs.Records.{AreCodable, Supersteps, edges_behind, own_records}
use Rattle.pg_checkpoint.specs.Shelf.{Fades}
use Rattle.pg_checkpoint.proofs.Fading.{framed_length, whole_or_none}
use Rattle.pg_graph.specs.Rows.{Rows}
use Rattle.pg_model.specs.Job.{Job}
use Rattle.pg_model.specs.Run.{run_length}
use Rattle.pg_model.specs.declared.configuration.VertexState.{VertexState}
use Rattle.pg_part.specs.Part.{HoldsShare, PartState}
use Rattle.pg_part.proofs.Handed.{begun_holds}

module _ {V M : Type 0} (is_value : V → Type 0) (value : V → List ℕ) (is_message : M → Type 0) (message : M → List ℕ) (asked : Asked V M)
    (job : Job V M) (kept : Option Rows) (r : ℕ) (saved : PartState V M) where
  abbrev Holds : Option Rows → PartState V M → Type 0
  Holds kept part = HoldsShare job kept asked.rows.graph asked.rows.partitions asked.rows.partition r part

  -- it has begun as one that is asked for
  initial_is : job.program ≡ asked.program → Holds kept saved → saved.part_run.trace.initial ≡ initial_of asked
  initial_is program holds =
      let rows : Rows = asked.rows.graph in
      holds.part_run.run.initial
      ∙ sym (begun_holds job rows asked.rows.partitions asked.rows.partition holds.part_run.run.rise asked.program program).initial

  -- what has faded of its coding and is a checkpoint is its coding
  whole : (bytes : List ℕ) (records : Supersteps V M) → length (part_coding value message asked.run saved) < 2 ^ 64
      → Fades (Some (part_coding value message asked.run saved)) (Some bytes) → IsCheckpoint is_value value is_message message asked records bytes
      → bytes ≡ part_coding value message asked.run saved
  whole bytes records fits faded is =
      let own : Supersteps V M = own_records saved in
      let remaining : List ℕ = second_rest value message asked.run saved.part_run.partition (edges_behind saved.part_run.trace.initial own) own in
      let many : length (part_coding value message asked.run saved) ≡ 12 + length remaining = framed_length second_magic remaining refl in
      let cut : length (part_coding value message asked.run saved) ≡ length bytes + length (drop faded.0 (part_coding value message asked.run saved)) =
      ap length (sym (take-append-drop faded.0 (part_coding value message asked.run saved)))
      ∙ (length-append (take faded.0 (part_coding value message asked.run saved)) (drop faded.0 (part_coding value message asked.run saved))
      ∙ ap (λ (l : List ℕ). length l + length (drop faded.0 (part_coding value message asked.run saved))) (sym faded.1)) in
      let shorter : length bytes ≤ length (part_coding value message asked.run saved) = omega (arith, cut) in
      elim is [
        | inl first ↦ (
            let rest : List ℕ = first_rest value message asked.run asked.rows.partition records in
            let long : length bytes ≡ 12 + length rest = ap length first ∙ framed_length first_magic rest refl in
            first ∙ whole_or_none first_magic rest second_magic remaining faded.0 refl refl (omega (arith, long, shorter, fits)) (omega (arith, many, fits))
            (sym first ∙ faded.1)
            )
        | inr second ↦ (
            let rest : List ℕ = second_rest value message asked.run asked.rows.partition (edges_behind (initial_of asked) records) records in
            let long : length bytes ≡ 12 + length rest = ap length second ∙ framed_length second_magic rest refl in
            second ∙ whole_or_none second_magic rest second_magic remaining faded.0 refl refl (omega (arith, long, shorter, fits)) (omega (arith, many, fits))
            (sym second ∙ faded.1)
            )
      ]

  pub found_holds : (found : PartState V M) (bytes : List ℕ)
      → job.program ≡ asked.program → job.missing ≡ asked.missing → job.aggregators ≡ asked.aggregators
      → r ≤ run_length job asked.rows.graph → Holds kept saved → AreCodable is_value is_message (own_records saved)
      → length (part_coding value message asked.run saved) < 2 ^ 64
      → Fades (Some (part_coding value message asked.run saved)) (Some bytes)
      → IsFound is_value value is_message message asked bytes found → Holds None found
  found_holds found bytes program missing aggregators within holds codable fits faded is =
      let own : Supersteps V M = own_records saved in
      let bytes_are : bytes ≡ part_coding value message asked.run saved = whole bytes found.part_run.trace.records fits faded is.coded in
      let as_asked : part_coding value message asked.run saved
      ≡ second_coding value message asked.run asked.rows.partition (edges_behind (initial_of asked) own) own =
      (λ i. second_coding value message asked.run (holds.part_run.partition_is i) (edges_behind (initial_is program holds i) own) own) in
      let same : own ≡ found.part_run.trace.records = is.only own codable (inr (bytes_are ∙ as_asked)) in
      let place : own ≡ take r saved.part_run.trace.records = ap (λ (k : ℕ). take k saved.part_run.trace.records) holds.part_run.place_is in
      is.again job kept r saved program missing aggregators within holds (sym same ∙ place)
