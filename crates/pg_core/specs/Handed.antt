-- What is said of events, of where a run stands after them, and of losses, handed on to whoever drives a core.
pub use Rattle.pg_core_machine.specs.Limits.{Limits}
pub use Rattle.pg_core_machine.specs.Losses.{counts_by, counts_in, falls_of, is_anew, least_hosted, lesser, losses_in}
pub use Rattle.pg_core_machine.specs.Losses.{lost_by}
pub use Rattle.pg_core_machine.specs.Machine.{Reaches, State, StepsTell, after, after_all, first_state, host_of}
pub use Rattle.pg_core_machine.specs.Machine.{is_alive, is_allowed, is_from, is_step, may_step, place_at, saved_at}
pub use Rattle.pg_core_machine.specs.Machine.{steps_of, was_lost}
pub use Rattle.pg_core_machine.specs.declared.event.Closed.{Closed}
pub use Rattle.pg_core_machine.specs.declared.event.Closed.TheVariants.{Ended, Next}
pub use Rattle.pg_core_machine.specs.declared.event.Event.{Event}
pub use Rattle.pg_core_machine.specs.declared.event.Event.TheVariants.{Close, Host, Lose, Restore, Save, Step}
