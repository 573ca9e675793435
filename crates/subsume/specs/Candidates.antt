-- Atoms that another one may become, as far as symbols go.
use Rattle.std.specs.Prelude.{Bool, false, ◌&&◌, ◌||◌}
use Rattle.spl_terms.specs.declared.atom.Atom.{Atom}
use Rattle.spl_terms.specs.declared.atom.Atom.TheVariants.{Holds, Equal}
use Rattle.spl_terms.specs.Terms.{symbol_eq}
use Rattle.unify.specs.Fitting.{covers, all_cover}

-- the arguments, or the sides one way or the other, cover those of the other atom
abbrev pub may_become_atom : Atom → Atom → Bool
may_become_atom (Holds p ss) (Holds q ts) = symbol_eq p q && all_cover ss ts
may_become_atom (Holds p ss) (Equal u v) = false
may_become_atom (Equal s t) (Holds q ts) = false
may_become_atom (Equal s t) (Equal u v) = (covers s u && covers t v) || (covers s v && covers t u)
