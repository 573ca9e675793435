pub mod Lines
pub mod Left
pub mod Tree
pub mod Legality
pub mod Sizes
