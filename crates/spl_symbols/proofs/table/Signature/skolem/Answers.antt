use Rattle.std.proofs.Common.{◌^◌, ◌<◌, ap, ◌∙◌, arith}
use Rattle.dfg_tokens.specs.Names.{is_name}
use Rattle.spl_symbols.proofs.SkolemNames.{may_be_named}
use Rattle.spl_symbols.proofs.table.Signature.skolem.Goals as goal

pub declare-requires : goal.declare-requires
declare-requires c =
    let few : c.in-Ok.found.0 < 2 ^ 64 = omega (arith, c.in-Ok.ensures.near, c.requires) in
    ap is_name (c.as_str.ensures.value ∙ c.in-Ok.ensures.name) ∙ may_be_named c.args.arity c.in-Ok.found.0 few
