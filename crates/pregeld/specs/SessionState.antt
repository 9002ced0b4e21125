-- What a session has in addition to its service.
use Rattle.std.specs.Prelude.{ℕ, List, take, Option}
use Rattle.pg_graph.specs.Handed.{Edit}
use Rattle.pg_service.specs.declared.report.Report.{Report}
use Rattle.pregeld.specs.Job.{ReadyState}

-- one edit more than a batch may have
abbrev pub stored_limit : ℕ
stored_limit = 100001

-- what is stored of pending edits: a batch of more than these is as much too long
unfoldable pub stored : List Edit → List Edit
stored edits = take stored_limit edits

-- the pending edits as far as they are stored, and the last report
pub record Noted : Type 0 where
  pub pending : List Edit
  pub report : Option Report

-- a service with the notes of its session
pub record ServiceWithSession : Type 0 where
  pub service : ReadyState
  pub session_state : Noted

abbrev pub with_session_state : ReadyState → Noted → ServiceWithSession
with_session_state service session_state = record { service = service; session_state = session_state }
