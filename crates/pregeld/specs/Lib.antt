pub mod AskedJob
pub mod ExitStatus
pub mod Job
pub mod Keeping
pub mod Reading
pub mod Reply
pub mod Session
pub mod SessionState
