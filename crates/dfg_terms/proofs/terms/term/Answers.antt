use Rattle.dfg_terms.specs.Terms.{leaf_of}
use Rattle.dfg_terms.specs.Grammar.{writing_of}
use Rattle.dfg_terms.specs.VariableLaws.{variables_agree}
use Rattle.dfg_terms.specs.TermLaws.{term_stands, term_read}
use Rattle.dfg_terms.specs.GivenLaws.{given_holds, given_so}
use Rattle.dfg_terms.proofs.terms.term.Goals as goal

pub returns-clause-written : goal.returns-clause-written
returns-clause-written c =
    let k = c.args.context.now in
    given_holds _ _ c.term_within.result _ c.term_within.ensures (λ t is. term_stands k.bytes.now k.symbols.now (leaf_of k.bytes.now k.variables) (writing_of k.bytes.now k.variables) (variables_agree k.bytes.now k.variables) c.args.depth c.args.tokens.now (t, c.term_within.new.tokens) is)

pub returns-clause-every : goal.returns-clause-every
returns-clause-every c near t rest p apart =
    let k = c.args.context.now in
    given_so _ c.term_within.result _ (t, rest) c.term_within.ensures (term_read k.bytes.now k.symbols.now c.names_are_identifiers.ensures.own c.names_are_identifiers.ensures.named (leaf_of k.bytes.now k.variables) (writing_of k.bytes.now k.variables) (variables_agree k.bytes.now k.variables) c.args.depth t c.args.tokens.now rest near p apart)
