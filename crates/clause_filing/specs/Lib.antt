pub mod FilingLaws
pub mod Filings
pub mod Links
