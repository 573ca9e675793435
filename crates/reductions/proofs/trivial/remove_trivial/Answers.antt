use Rattle.std.proofs.Common.{sym, ◌∙◌}
use Rattle.reductions.proofs.Stating.{no_trivial, trivial_made}
use Rattle.reductions.proofs.trivial.remove_trivial.Goals as goal

pub returns-in_default : goal.returns-in_default
returns-in_default c = no_trivial c.args.target.now.clause _ c.as_slice.ensures (sym c.first_trivial.ensures ∙ c.in_default.is)

pub returns : goal.returns
returns c =
    trivial_made c.args.number c.args.target.now _ c.in-Some.place _ _ _ _ _ c.in_ok-line.line c.as_slice.ensures (sym c.first_trivial.ensures ∙ c.in-Some.is) c.in_ok-copy.ensures c.without-left.ensures c.in_ok-into_ordered.ensures.exact c.in_ok-copy-2.ensures c.in_ok-s.ensures c.in_ok-line.ensures
