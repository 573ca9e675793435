-- The term that a view shows.
use Rattle.spl_terms.specs.declared.term.Term.{Term}
use Rattle.spl_terms.specs.declared.term.Term as term
use Rattle.kbo.specs.declared.view.View.{View}
use Rattle.kbo.specs.declared.view.View.TheVariants.{Var, App}

abbrev pub term_of : View → Term
term_of (Var v) = term.Var v
term_of (App f ts) = term.App f ts.now
