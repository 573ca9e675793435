use Rattle.std.proofs.Common.{◌+◌}
use Rattle.dfg_terms.specs.GivenLaws.{given_holds, given_so}
use Rattle.dfg_formulas.specs.Grammar.{binding_count}
use Rattle.dfg_formulas.specs.DeclarationLaws.{declaration_stands, declaration_read}
use Rattle.dfg_formulas.proofs.declaration.term_declaration.Goals as goal

pub returns-clause-written : goal.returns-clause-written
returns-clause-written c =
    let k = c.args.text.now in
    given_holds _ _ c.declaration_within.result _ c.declaration_within.ensures.given (λ x is. (declaration_stands k.bytes.now k.symbols.now c.names_are_identifiers.ensures.own c.args.depth c.args.scope.now c.args.next c.args.tokens.now (x, c.declaration_within.new.tokens) is).1)

pub returns-clause-numbered : goal.returns-clause-numbered
returns-clause-numbered c =
    let k = c.args.text.now in
    given_holds _ _ c.declaration_within.result _ c.declaration_within.ensures.given (λ x is. (declaration_stands k.bytes.now k.symbols.now c.names_are_identifiers.ensures.own c.args.depth c.args.scope.now c.args.next c.args.tokens.now (x, c.declaration_within.new.tokens) is).0)

pub returns-clause-every : goal.returns-clause-every
returns-clause-every c near f rest p apart =
    let k = c.args.text.now in
    given_so _ c.declaration_within.result _ ((f, c.args.next + binding_count f), rest) c.declaration_within.ensures.given (declaration_read k.bytes.now k.symbols.now c.names_are_identifiers.ensures.own c.names_are_identifiers.ensures.named c.args.depth c.args.scope.now c.args.next f c.args.tokens.now rest near p apart)
