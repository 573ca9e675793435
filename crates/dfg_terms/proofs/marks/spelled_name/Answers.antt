use Rattle.std.proofs.Common.{Ok, sym, ◌∙◌, ap, subst}
use Rattle.std.specs.Str.{IsUtf8}
use Rattle.dfg_terms.specs.Reading.{bytes_of}
use Rattle.dfg_terms.proofs.Spelled.{spelled, no_name}
use Rattle.dfg_terms.proofs.marks.spelled_name.Goals as goal

pub returns-in-Ok : goal.returns-in-Ok
returns-in-Ok c =
    let utf8 : IsUtf8 (bytes_of c.args.bytes.now c.args.token) = subst (λ bs. IsUtf8 bs) c.bytes_of.ensures c.in-Ok.ensures.cases.1 in
    spelled c.args.bytes.now c.args.token utf8 ∙ ap Ok (sym c.bytes_of.ensures) ∙ ap Ok (sym c.in-Ok.ensures.cases.0)

pub returns-in-Err : goal.returns-in-Err
returns-in-Err c = no_name c.args.bytes.now c.args.token (λ u. c.in-Err.ensures.cases.0 (subst (λ bs. IsUtf8 bs) (sym c.bytes_of.ensures) u))
