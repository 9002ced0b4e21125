pub mod History
pub mod Views
pub mod Sender
pub mod Answers
pub mod Steps
pub mod Editions
