-- How the entries of a filing are linked.
use Rattle.std.specs.Prelude.{◌≡◌, ℕ, ◌-◌, length, Some, unwrap_or, nat_eq}
use Rattle.indexmap.specs.IndexMap.{get}
use Rattle.spl_terms.specs.Lists.{numbered}
use Rattle.clause_filing.specs.declared.filing.Entry.{Entry}
use Rattle.clause_filing.specs.declared.filing.Filing.TheInside.{Inside}
use Rattle.clause_filing.specs.Filings.{IsNewest}

-- each key leads to its last entry, and each entry to the one of its key before it
pub record IsLinked (f : Inside) : Type 0 where
  pub newest : (key : ℕ) → IsNewest f.entries.items key (length f.entries.items) (unwrap_or (get nat_eq f.newest key) 0)
  pub older : (x : ℕ) (e : Entry) → numbered f.entries.items x ≡ Some e → IsNewest f.entries.items e.key (x - 1) e.older
