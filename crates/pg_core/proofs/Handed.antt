-- Lemmas of events and losses, handed on to whoever drives a core.
pub use Rattle.pg_core_machine.proofs.LawsCounts.{none_was_lost, unlost_anew}
pub use Rattle.pg_core_machine.proofs.LawsFallen.{fell_all}
pub use Rattle.pg_core_machine.proofs.LawsLosses.{alive_within, counts_in-more, losses_in-more, none_fell_of_one}
pub use Rattle.pg_core_machine.proofs.LawsMachine.{Reaches-push, length-first, length-hosts_all, length-hosts_first}
pub use Rattle.pg_core_machine.proofs.LawsMachine.{length-places, length-places_all, place_after_lose, some_within}
pub use Rattle.pg_core_machine.proofs.LawsMachine.{was_lost-stays}
pub use Rattle.pg_core_machine.proofs.LawsNear.{AreNear-from_Reaches}
pub use Rattle.pg_core_machine.proofs.LawsSteps.{StepsFrom-from_allowed, place_after_other, place_after_own}
