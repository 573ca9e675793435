use Rattle.std.proofs.Common.{◌≡◌, ℕ, ◌<◌, length, Some}
use Rattle.spl_terms.specs.Lists.{numbered}
use Rattle.clause_filing.specs.declared.filing.Entry.{Entry}
use Rattle.clause_filing.proofs.filing.Filing.drop_from.Given as goal

abbrev pub invariant-loop-last : goal.invariant-loop-last
invariant-loop-last l = (x : ℕ) (e : Entry) → numbered l.fn.self x ≡ Some e → e.value < l.value → numbered l.self x ≡ Some e

abbrev pub decreases-loop-last : goal.decreases-loop-last
decreases-loop-last l = length l.self
