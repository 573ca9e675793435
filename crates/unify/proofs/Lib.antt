pub mod BelowLemmas
pub mod BindingsLemmas
pub mod TriangularLemmas
pub mod SolvingLemmas
pub mod AnswerLemmas
pub mod MatchLemmas
pub mod FittingLemmas
pub mod MarkLemmas
