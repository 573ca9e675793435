pub mod Turns
pub mod TurnLaws
pub mod Desks
pub mod Working
