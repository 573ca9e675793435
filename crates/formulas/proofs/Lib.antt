pub mod Saturated
pub mod Counted
pub mod Sizes
pub mod Within
