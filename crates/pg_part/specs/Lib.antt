pub mod Cold
pub mod Handed
pub mod MemberChanges
pub mod Part
pub mod PartRun
pub mod StatsHistories
pub mod StepInput
pub mod Warm
