pub mod Beginning
pub mod Changed
pub mod Handed
pub mod Looked
pub mod NextStates
pub mod RunStates
