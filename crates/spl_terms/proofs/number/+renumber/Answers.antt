use Rattle.std.proofs.Common.{arith}
use Rattle.spl_terms.specs.declared.term.Term.{Var}
use Rattle.spl_terms.specs.Terms.{replace}
use Rattle.spl_terms.specs.Clauses.{place_in}
use Rattle.spl_terms.specs.ChangeLaws.{changed_in_place}
use Rattle.spl_terms.proofs.number.+renumber.Goals as goal

pub renumber_terms-loop-term-preserved : goal.renumber_terms-loop-term-preserved
renumber_terms-loop-term-preserved t c =
    changed_in_place (replace (λ v. Var (place_in c.args.order.now v))) c.args.terms.now c.loop-term.terms c.loop-term.term-index c.term-item.result c.renumber_term.new.term
    (omega arith) c.loop-term.invariant c.renumber_term.ensures
