-- What losses make of a run over partitions, and what is done about them.
use Rattle.std.specs.Prelude.{◌≡◌, ◌==◌, ℕ, ◌<◌, nat_lt, false, cond, ◌&&◌, List, [], ◌∷◌, ◌++◌, length, slice_index_or}
use Rattle.std.specs.Prelude.{slice_set, Option, None, Some}
use Rattle.pg_core.specs.Progress.{Progress}
use Rattle.pg_inbox.specs.LoggedBundle.{Slots, slot_at}
use Rattle.pg_core_machine.specs.Machine.{State, after, host_of}
use Rattle.pg_core_machine.specs.declared.event.Event.{Event}
use Rattle.pg_core_machine.specs.declared.event.Event.TheVariants.{Lose, Restore}
use Rattle.pg_model.specs.Job.{Combining, Job}
use Rattle.pg_part.specs.Part.{HoldsShare, PartState}
use Rattle.pg_part.specs.Handed.{IsFresh, items_to, sends_by_records}
use Rattle.pg_trace.specs.Trace.{Trace, records_of}

-- the parts of the partitions that worker w hosts are gone, and all others are as they were
pub record AreLost {V M : Type 0} (w : ℕ) (state : State) (before now : List (Option (PartState V M))) : Type 0 where
  pub each : length now ≡ length before
  pub are : (p : ℕ) → slice_index_or now p None ≡ cond (host_of p state == w) None (slice_index_or before p None)

-- so is what these had sent, of n partitions
abbrev pub IsForgotten : {M : Type 0} → ℕ → ℕ → State → Slots M → Slots M → Type 0
IsForgotten n w state before now =
    (s p q : ℕ) → slot_at now s p q ≡ cond (nat_lt p n && (host_of p state == w)) None (slot_at before s p q)

module _ {V M : Type 0} where
  -- a part is of partition p of n
  pub record IsOf (n p : ℕ) (part : PartState V M) : Type 0 where
    pub partition_is : part.part_run.partition ≡ p
    pub partitions_are : part.part_run.partitions ≡ n

  -- the place that a restored partition has: that of the part that was found, or else the first
  abbrev pub place_found : Option (PartState V M) → ℕ
  place_found None = 0
  place_found (Some part) = part.part_run.place

  -- a part is the one that was found, or any at the first place where none was
  abbrev pub IsAsFound : Option (PartState V M) → PartState V M → Type 0
  IsAsFound None part = part.part_run.place ≡ 0
  IsAsFound (Some found) part = part ≡ found

  -- what partition p of n has recorded in superstep s was sent again, as if no other run had been, and all other slots
  -- are as they were
  pub record HasSentIn (combining : Option (Combining M)) (n p s : ℕ) (trace : Trace V M)
      (before now : Slots M) : Type 0 where
    pub sent : (q : ℕ) → q < n → IsFresh combining (items_to n q (sends_by_records (records_of s trace)))
        (slot_at now s p q)
    pub others : (t u q : ℕ) → ((p == u) && ((s == t) && nat_lt q n)) ≡ false → slot_at now t u q ≡ slot_at before t u q

  -- the same of all supersteps below r
  pub record HasSentAgain (combining : Option (Combining M)) (n p r : ℕ) (trace : Trace V M)
      (before now : Slots M) : Type 0 where
    pub sent : (s q : ℕ) → s < r → q < n
        → IsFresh combining (items_to n q (sends_by_records (records_of s trace))) (slot_at now s p q)
    pub others : (s u q : ℕ) → ((p == u) && (nat_lt s r && nat_lt q n)) ≡ false
        → slot_at now s u q ≡ slot_at before s u q

module _ {P C A V M : Type 0} where
  -- an event happened that moves no part and sends nothing
  abbrev pub with_event : Event → Progress P C A V M → Progress P C A V M
  with_event event core = record core { state = after core.state event; history = core.history ++ event ∷ [] }

  -- worker w fell: the parts of the partitions that it hosts are gone, whether they are here or away, and so is all
  -- that these had sent
  pub record HasFallen (w : ℕ) (before new : Progress P C A V M) : Type 0 where
    pub core_is : new ≡ record (with_event (Lose w) before) { parts = new.parts; logs = new.logs }
    pub parts : AreLost w before.state before.parts new.parts
    pub logs : IsForgotten before.limits.partitions w before.state before.logs new.logs

  -- partition p was restored: by the part that was found, or by one that begins; and what it has recorded was sent
  -- again
  pub record IsRestored (combining : Option (Combining M)) (p : ℕ) (found : Option (PartState V M))
      (before new : Progress P C A V M) : Type 0 where
    pub part : PartState V M
    pub as_found : IsAsFound found part
    pub core_is : new ≡ record (with_event (Restore p (place_found found)) before) {
      parts = slice_set before.parts p
          (Some part);
      logs = new.logs;
    }
    pub logs : HasSentAgain combining before.limits.partitions p (place_found found) part.part_run.trace before.logs
        new.logs

  -- what was found of partition p, if anything, is its share of the run, with nothing of an old run
  abbrev pub IsShareFound : Job V M → Progress P C A V M → ℕ → Option (PartState V M) → Type 0
  IsShareFound job core p None = Unit {0}
  IsShareFound job core p (Some found) =
      HoldsShare job None core.graph core.limits.partitions p found.part_run.place found
