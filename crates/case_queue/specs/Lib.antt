pub mod Queues
pub mod LineLaws
pub mod KeepingLaws
