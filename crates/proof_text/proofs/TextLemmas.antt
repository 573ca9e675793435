-- The text of a term, one level at a time.
use Rattle.std.proofs.Common.{◌≡◌, ℕ, List, map}
use Rattle.std.specs.Prelude.{codes, ◌++◌}
use Rattle.std.specs.Fmt.{decimal}
use Rattle.spl_terms.specs.declared.term.Symbol.{Symbol}
use Rattle.spl_terms.specs.declared.term.Term.{Term, Var, App}
use Rattle.spl_terms.specs.TermLaws.{fold-Var, fold-App}
use Rattle.spl_symbols.specs.Symbols.{Declared, name_of}
use Rattle.proof_text.specs.Texts.{term_text, text_step, applied_text}

pub text-Var : (signature : List Declared) (v : ℕ) → term_text signature (Var v) ≡ codes "?" ++ decimal v
text-Var signature v = fold-Var (text_step signature) v

pub text-App : (signature : List Declared) (f : Symbol) (ts : List Term) → term_text signature (App f ts) ≡ applied_text (name_of signature f.number) (map (term_text signature) ts)
text-App signature f ts = fold-App (text_step signature) f ts

pub ruleset term_laws = (text-Var, text-App)
