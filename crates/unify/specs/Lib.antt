pub mod Below
pub mod Bindings
pub mod Matches
pub mod Solving
pub mod Standing
pub mod Fitting
pub mod FittingLaws
pub mod Marks
