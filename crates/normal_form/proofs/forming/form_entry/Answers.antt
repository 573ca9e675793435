use Rattle.std.proofs.Common.{List, length, length-append, ap, arith}
use Rattle.spl_terms.specs.declared.clause.Clause.{Clause}
use Rattle.formulas.specs.Negations.{Form, signed_form}
use Rattle.normal_form.specs.NormalForm.{clauses_of_form}
use Rattle.normal_form.proofs.Choosing.{counted}
use Rattle.normal_form.proofs.forming.form_entry.Goals as goal

pub returns-in-Ok-add_copies-clause-limits : goal.returns-in-Ok-add_copies-clause-limits
returns-in-Ok-add_copies-clause-limits c =
    (let f : Form = signed_form c.args.entry.now.formula c.stands-sign.result in
    let cs : List Clause = clauses_of_form c.count-next.result f in
    record {
      symbols = omega (arith, c.in-Ok.ensures.more, ap (λ x. x.skolems) c.count-counts.ensures, c.count-next.ensures, c.if-counts-next.false, c.requires.limits.symbols);
      clauses =
          omega (
            arith,
            ap length c.in-Ok-add_clauses.ensures.added,
            length-append c.declare_skolems.new.forming.clauses cs,
            counted c.count-next.result f,
            ap length c.in-Ok.ensures.clauses,
            ap (λ x. x.clauses) c.count-counts.ensures,
            c.len.ensures,
            c.if-counts-len.false,
            c.requires.limits.clauses,
          );
      near = c.in-Ok.ensures.near;
    })
