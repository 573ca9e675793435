pub mod Lent
pub mod ListLaws
pub mod Lists
pub mod Rule
pub mod Seats
