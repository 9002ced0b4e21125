pub mod Beginning
pub mod Delivery
pub mod Listing
pub mod MessageEdits
pub mod Outbox
pub mod Rebuilt
pub mod Splitting
