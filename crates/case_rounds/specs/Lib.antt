pub mod Rounds
pub mod Appending
pub mod Filed
pub mod Events
pub mod InLaws
