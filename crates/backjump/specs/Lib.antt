pub mod Cases
pub mod Plans
