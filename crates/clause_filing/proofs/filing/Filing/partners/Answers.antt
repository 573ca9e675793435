use Rattle.std.proofs.Common.{subst}
use Rattle.clause_filing.specs.Filings.{before_arrow, after_arrow, HaveValues}
use Rattle.clause_filing.proofs.Finding.{found_partners}
use Rattle.clause_filing.proofs.filing.Filing.partners.Goals as goal

pub returns : goal.returns
returns c =
    let es = c.args.self.now in
    let clause = c.args.clause.now in
    let x = c.add_values_of.new.values.items in
    let y = c.add_values_of-2.new.values.items in
    let z = c.add_values_of-3.new.values.items in
    found_partners es clause x y z
    (subst (λ atoms. HaveValues es after_arrow atoms 0 x) c.as_slice.ensures c.in_ok-add_values_of.ensures.all)
    c.in_ok-add_values_of-2.ensures.adds (subst (λ atoms. HaveValues es after_arrow atoms 0 y) c.as_slice-2.ensures c.in_ok-add_values_of-2.ensures.all)
    c.in_ok-add_values_of-3.ensures.adds (subst (λ atoms. HaveValues es before_arrow atoms 0 z) c.as_slice-3.ensures c.in_ok-add_values_of-3.ensures.all)
