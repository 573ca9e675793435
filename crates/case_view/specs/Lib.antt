pub mod Views
pub mod Walks
pub mod Caches
pub mod Marks
pub mod MarkLaws
pub mod PlaceLaws
pub mod Trails
pub mod TrailLaws
