pub mod Instances
pub mod Tests
pub mod Hiding
pub mod Composing
