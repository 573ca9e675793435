pub mod Parts
pub mod Marking
pub mod Sides
pub mod SideLaws
pub mod MarkLaws
pub mod ClosureLaws
pub mod JointLaws
pub mod ExampleLaws
