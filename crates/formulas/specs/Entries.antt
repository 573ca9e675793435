-- What the entries of a problem say.
use Rattle.std.specs.Prelude.{Bool, true, false}
use Rattle.formulas.specs.declared.tree.Tree as tree
use Rattle.formulas.specs.declared.tree.Tree.{Tree}
use Rattle.formulas.specs.declared.entry.Role.{Role}
use Rattle.formulas.specs.declared.entry.Role.TheVariants.{Axiom, Conjecture, Clause}
use Rattle.formulas.specs.declared.entry.Entry.{Entry}

-- whether the formula counts as it stands, not negated
abbrev pub stands : Role → Bool
stands Axiom = true
stands Conjecture = false
stands Clause = true

-- the formula, or its negation
abbrev pub with_sign : Bool → Tree → Tree
with_sign true f = f
with_sign false f = tree.Not f

-- the formula that an entry adds: a conjecture's counts negated
abbrev pub entry_formula : Entry → Tree
entry_formula e = with_sign (stands e.role) e.formula
