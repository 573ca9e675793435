pub mod Superposing
pub mod Own
pub mod Words
pub mod InferenceExamples
pub mod ReductionExamples
pub mod SortExamples
