use Rattle.std.proofs.Common.{ap, arith}
use Rattle.spl_terms.specs.Terms.{term_symbols}
use Rattle.spl_terms.specs.TermLaws.{term_symbols-Var}
use Rattle.normal_form.proofs.Whole.{skolem_size}
use Rattle.normal_form.proofs.scope.variable_symbols.Goals as goal

pub returns-in-None : goal.returns-in-None
returns-in-None c = omega (arith, ap term_symbols c.in-None.ensures, term_symbols-Var c.args.variable)

pub returns-in-Some : goal.returns-in-Some
returns-in-Some c = omega (arith, ap term_symbols c.in-Some.ensures, skolem_size c.in-Some.terms.now c.in-Some.field-0-1, c.len.ensures, c.saturating_add.ensures)
