mod ParentLemmas
mod SetLemmas
mod Verdicts
