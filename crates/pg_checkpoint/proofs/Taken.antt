-- What the contents of a checkpoint make of a part.
use Rattle.std.proofs.Common.{◌≡◌, ℕ, ◌≤◌, ◌<◌, ◌^◌, List, [], ◌++◌, length, take, Option, None, Some, Result, Err}
use Rattle.std.proofs.Common.{true, false, IfSome, refl, sym, ap, subst, ◌∙◌, arith, inl, inr}
use Rattle.std.specs.List.{flat_map}
use Rattle.pg_checkpoint.specs.Bounds.{Limits, MayHoldFrom, Within}
use Rattle.pg_checkpoint.specs.Bytes.{framed, half_coding, second_magic, superstep_coding}
use Rattle.pg_checkpoint.specs.Contents.{IsSaid, Says, coding_in, records_of}
use Rattle.pg_checkpoint.specs.Counted.{IsCount}
use Rattle.pg_checkpoint.specs.Loading.{Asked, IsCheckpoint, IsDamaged, IsFound, IsTaken, initial_of, limits_of}
use Rattle.pg_checkpoint.specs.Records.{AreCodable, Supersteps, edges_behind}
use Rattle.pg_checkpoint.specs.declared.contents.Contents.{Contents}
use Rattle.pg_checkpoint.specs.declared.reading.Unread.{Unread}
use Rattle.pg_checkpoint.specs.declared.reading.Unread.TheVariants.{Damaged, Memory}
use Rattle.pg_checkpoint.proofs.Fitting.{stated, stated_fits, stated_is, stated_same}
use Rattle.pg_part.specs.PartRun.{HasBegun, IsResumed}
use Rattle.pg_graph.specs.Rows.{Rows}
use Rattle.pg_graph.specs.declared.missing.Missing.{Missing as Policy}
use Rattle.pg_model.specs.Job.{Job}
use Rattle.pg_model.specs.Run.{run_length}
use Rattle.pg_model.specs.declared.configuration.VertexState.{VertexState}
use Rattle.pg_part.specs.Part.{HoldsShare, PartState}
use Rattle.pg_program.specs.Coding.{natural_coding}
use Rattle.pg_part.specs.Handed.{PartRows}
use Rattle.pg_part.proofs.Handed.{begun_holds}

-- the number of out-edges that is told, where it is told and fits
abbrev Agrees : Option ℕ → ℕ → Type 0
Agrees None n = Unit {0}
Agrees (Some m) n = n < 2 ^ 64 → m ≡ n

abbrev pub limits_at : Rows → ℕ → ℕ → Policy → ℕ → Limits
limits_at graph partition partitions missing writes =
    record { rows = record { graph = graph; partition = partition; partitions = partitions }; missing = missing; writes = writes }

-- what records are held against
pub same_limits : (rows : PartRows) (missing : Policy) {graph : Rows} {partition partitions writes of_program : ℕ} → graph ≡ rows.graph
    → partition ≡ rows.partition → partitions ≡ rows.partitions → writes ≡ of_program
    → limits_at graph partition partitions missing writes ≡ record { rows = rows; missing = missing; writes = of_program }
same_limits rows missing {graph} {partition} {partitions} {writes} {of_program} a b c d = λ i. limits_at (a i) (b i) (c i) missing (d i)

module _ {V M : Type 0} (is_value : V → Type 0) (value : V → List ℕ) (is_message : M → Type 0) (message : M → List ℕ) (asked : Asked V M) (bytes : List ℕ) where
  abbrev run : ℕ
  run = asked.run

  abbrev partition : ℕ
  partition = asked.rows.partition

  abbrev edges_in : Supersteps V M → ℕ
  edges_in records = edges_behind (initial_of asked) records

  abbrev Checks : Supersteps V M → Type 0
  Checks records = IsCheckpoint is_value value is_message message asked records bytes

  -- a checkpoint is the coding of its records, with a number of out-edges that fits
  record IsCoded (records : Supersteps V M) : Type 0 where
    edges : Option ℕ
    fits : IfSome edges (λ n. n < 2 ^ 64)
    coded : bytes ≡ coding_in value message run partition edges records
    agrees : Agrees edges (edges_in records)

  as_coded : (records : Supersteps V M) → Checks records → IsCoded records
  as_coded records (inl is) = record { edges = None; fits = tt; coded = is; agrees = tt }
  as_coded records (inr is) = record {
    edges = Some (stated (edges_in records));
    fits = stated_fits (edges_in records);
    coded = is ∙ ap (λ (l : List ℕ). framed second_magic (natural_coding run ++ (half_coding partition ++ (half_coding (length records)
        ++ (l ++ flat_map (superstep_coding value message) records))))) (sym (stated_same (edges_in records)));
    agrees = stated_is (edges_in records);
  }

  abbrev Taken : Result (PartState V M) Unread → Type 0
  Taken = IsTaken is_value value is_message message asked bytes

  -- the bytes say nothing
  pub not_said : (e : Unread) {r : Result (PartState V M) Unread} → r ≡ Err e → Says is_value value is_message message run partition bytes (Err e) → Taken r
  not_said e {r} is h = subst (λ (r : Result (PartState V M) Unread). Taken r) (sym is) (by e h)
    where
      by : (e : Unread) → Says is_value value is_message message run partition bytes (Err e) → Taken (Err e)
      by Memory h = tt
      by Damaged h = λ records codable held is. let c = as_coded records is in h c.edges records c.fits codable c.coded

  module _ (contents : Contents V M) (said : IsSaid is_value value is_message message run partition bytes contents) where
    abbrev those : Supersteps V M
    those = records_of contents.supersteps

    -- the records that it says may not be held
    pub not_held : {X : Type 0} (IsX : X → Type 0) (e : Unread) {r : Result (PartState V M) Unread} → r ≡ Err e
        → Within IsX (MayHoldFrom (limits_of asked) 0 those) (Err e) → Taken r
    not_held {X} IsX e {r} is h = subst (λ (r : Result (PartState V M) Unread). Taken r) (sym is) (by e h)
      where
        by : (e : Unread) → Within IsX (MayHoldFrom (limits_of asked) 0 those) (Err e) → Taken (Err e)
        by Memory h = tt
        by Damaged h = λ records codable held is.
            let c = as_coded records is in
            h (subst (λ (l : Supersteps V M). MayHoldFrom (limits_of asked) 0 l) (said.only c.edges records c.fits codable c.coded).1 held)

    -- it tells another number of out-edges than they leave
    pub not_counted : {initial : List (VertexState V)} {records : Supersteps V M} → initial ≡ initial_of asked → records ≡ those
        → IsCount contents.edges (edges_behind initial records) false → IsDamaged is_value value is_message message asked bytes
    not_counted {initial} {records} first are count others codable held is =
        let c = as_coded others is in
        let same = said.only c.edges others c.fits codable c.coded in
        let as_many : edges_in others ≡ edges_behind initial records =
        ap edges_in (same.1 ∙ sym are) ∙ ap (λ (l : List (VertexState V)). edges_behind l records) (sym first) in
        by contents.edges (edges_behind initial records) count
        (subst (λ (k : ℕ). Agrees contents.edges k) as_many (subst (λ (o : Option ℕ). Agrees o (edges_in others)) same.0 c.agrees))
      where
        by : (o : Option ℕ) (n : ℕ) → IsCount o n false → Agrees o n → ⊥
        by None n h a = absurd cc
        by (Some m) n h a = h.1 (a h.0)

    module _ (records : Supersteps V M) (are : records ≡ those) (held : MayHoldFrom (limits_of asked) 0 those) (begun part : PartState V M)
        (begins : HasBegun asked.rows asked.missing begun.part_run) (none : begun.part_run.trace.records ≡ [])
        (holds : (job : Job V M) → job.program ≡ asked.program → job.missing ≡ asked.missing → job.aggregators ≡ asked.aggregators
        → HoldsShare job None asked.rows.graph asked.rows.partitions asked.rows.partition 0 begun)
        (resumed : IsResumed records begun.part_run part.part_run) where
      abbrev a_job : Job V M
      a_job = record {
        program = asked.program;
        combining = None;
        aggregators = asked.aggregators;
        deciding = λ s totals gathered. record { values = []; halt = true };
        missing = asked.missing;
        limit = 0;
      }

      pub first_is : part.part_run.trace.initial ≡ initial_of asked
      first_is =
          let run = (holds a_job refl refl refl).part_run.run in
          ap (λ t. t.initial) resumed.trace_is ∙ run.initial
          ∙ sym (begun_holds a_job asked.rows.graph asked.rows.partitions asked.rows.partition run.rise asked.program refl).initial

      resumed_are : part.part_run.trace.records ≡ records
      resumed_are = ap (λ t. t.records) resumed.trace_is ∙ ap (λ l. l ++ records) none

      pub records_are : part.part_run.trace.records ≡ those
      records_are = resumed_are ∙ are

      pub is_found : IsCount contents.edges (edges_behind part.part_run.trace.initial part.part_run.trace.records) true
          → ((job : Job V M) (kept : Option Rows) (rows : Rows) (n p r : ℕ) (before : PartState V M) → job.aggregators ≡ asked.aggregators
          → HoldsShare job None rows n p 0 begun → r ≤ run_length job rows → HoldsShare job kept rows n p r before
          → records ≡ take r before.part_run.trace.records → HoldsShare job None rows n p r part)
          → IsFound is_value value is_message message asked bytes part
      is_found count again = record {
        partition_is = resumed.partition_stays ∙ begins.partition_is;
        partitions_are = resumed.partitions_stay ∙ begins.partitions_are;
        missing_is = resumed.missing_stays ∙ begins.missing_is;
        place_is =
            let at = resumed.place_is in
            let first = begins.place_is in
            let long = ap length resumed_are in
            omega (arith, at, first, long);
        cold = resumed.cold;
        initial_is = first_is;
        codable = subst (λ (l : Supersteps V M). AreCodable is_value is_message l) (sym records_are) said.codable;
        held = subst (λ (l : Supersteps V M). MayHoldFrom (limits_of asked) 0 l) (sym records_are) held;
        coded = subst (λ (l : Supersteps V M). Checks l) (sym records_are)
            (by contents.edges (edges_behind part.part_run.trace.initial part.part_run.trace.records) count
            (ap (λ (l : List (VertexState V)). edges_behind l part.part_run.trace.records) first_is ∙ ap edges_in records_are) said.coded);
        only = λ others codable is. let c = as_coded others is in (said.only c.edges others c.fits codable c.coded).1 ∙ sym records_are;
        again = λ job kept r before program missing aggregators within held is.
            again job kept asked.rows.graph asked.rows.partitions asked.rows.partition r before aggregators (holds job program missing aggregators) within held
            (sym resumed_are ∙ is);
      }
        where
          by : (o : Option ℕ) (n : ℕ) → IsCount o n true → n ≡ edges_in those → bytes ≡ coding_in value message run partition o those → Checks those
          by None n count same is = inl is
          by (Some m) n count same is =
              inr (is ∙ ap (λ (k : ℕ). coding_in value message run partition (Some k) those) (count ∙ same))
