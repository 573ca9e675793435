-- Sets of laws about terms, for the tactics.
use Rattle.std.proofs.lemmas.Grind.{fold-append}
use Rattle.normal_form.proofs.Blocks.{skolem_variables}
use Rattle.spl_terms.specs.TermLaws.{term_variables-Var, term_variables-App, term_symbols-App, replace-Var, replace-App}

pub ruleset variable_laws = (term_variables-Var, term_variables-App, fold-append)

pub ruleset standing_laws = (term_variables-Var, skolem_variables)

pub ruleset replace_laws = (replace-Var, replace-App)

pub ruleset size_laws = (replace-Var, replace-App, term_symbols-App)
