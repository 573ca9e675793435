pub mod Words
pub mod Answers
pub mod Deliveries
pub mod Endings
pub mod Outcomes
pub mod Reports
