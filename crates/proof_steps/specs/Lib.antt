pub use Rattle.clause_parts.specs.Parts
pub mod Spots
pub mod Steps
pub mod SplitLaws
pub mod Parents
pub mod Checked
pub mod Covering
pub mod StepLaws
