pub mod Lists
pub mod Grammar
pub mod GroupLaws
pub mod DescriptionLaws
pub mod NewNameLaws
pub mod SymbolListLaws
pub mod PassingLaws
