use Rattle.std.proofs.Common.{sym, subst, ◌∙◌, ◌≡◌, false}
use Rattle.spl_terms.specs.Terms.{replace}
use Rattle.spl_truth.specs.Truth.{entry}
use Rattle.spl_truth.specs.Orders.{is_greater}
use Rattle.reductions.proofs.Stating.{given_some, given_none}
use Rattle.reductions.proofs.Walked.{unmatched, rewritten_always, not_rewritten}
use Rattle.reductions.proofs.walking.rewrite_term.Goals as goal

pub returns-in_default : goal.returns-in_default
returns-in_default c = unmatched c.args.r c.requires c.args.term.now (given_none _ _ _ c.in_default.is c.in_ok-s.ensures)

pub returns-then-r : goal.returns-then-r
returns-then-r c = rewritten_always c.args.r c.requires c.args.term.now c.in-Some.s (given_some _ _ _ _ c.in-Some.is c.in_ok-s.ensures) c.if-r.true

pub returns-else-branch : goal.returns-else-branch
returns-else-branch c =
    not_rewritten c.args.r c.requires c.args.term.now c.in-Some.s (given_some _ _ _ _ c.in-Some.is c.in_ok-s.ensures)
    (subst (λ es. is_greater c.args.term.now (replace (entry es) c.args.r.right.now) ≡ false) c.as_slice.ensures (sym c.in_ok-is_greater_than.ensures ∙ c.if-branch.false))
