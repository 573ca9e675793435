use Rattle.dfg_terms.specs.Terms.{leaf_of, term_in}
use Rattle.dfg_terms.specs.Grammar.{writing_of, IsTermIn}
use Rattle.dfg_terms.specs.VariableLaws.{variables_agree}
use Rattle.dfg_terms.specs.TermLaws.{term_stands, term_read, term_takes, atom_stands, atom_read}
use Rattle.dfg_terms.specs.GivenLaws.{given_holds, given_so}
use Rattle.dfg_terms.proofs.terms.atom.Goals as goal

pub returns-clause-written : goal.returns-clause-written
returns-clause-written c =
    let k = c.args.context.now in
    let terms = term_stands k.bytes.now k.symbols.now (leaf_of k.bytes.now k.variables) (writing_of k.bytes.now k.variables) (variables_agree k.bytes.now k.variables) c.args.depth in
    given_holds _ _ c.atom_within.result _ c.atom_within.ensures (λ a is. atom_stands k.bytes.now k.symbols.now c.args.place (IsTermIn k c.args.depth) (term_in k c.args.depth) terms c.args.tokens.now (a, c.atom_within.new.tokens) is)

pub returns-clause-every : goal.returns-clause-every
returns-clause-every c near a rest p apart =
    let k = c.args.context.now in
    let own = c.names_are_identifiers.ensures.own in
    let named = c.names_are_identifiers.ensures.named in
    let agree = variables_agree k.bytes.now k.variables in
    let terms = term_read k.bytes.now k.symbols.now own named (leaf_of k.bytes.now k.variables) (writing_of k.bytes.now k.variables) agree c.args.depth in
    let takes = term_takes k.bytes.now k.symbols.now (writing_of k.bytes.now k.variables) agree.takes c.args.depth in
    given_so _ c.atom_within.result _ (a, rest) c.atom_within.ensures (atom_read k.bytes.now k.symbols.now own named (IsTermIn k c.args.depth) (term_in k c.args.depth) terms takes c.args.place a c.args.tokens.now rest near p apart)
